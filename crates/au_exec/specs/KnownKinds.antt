-- The kinds of a plan's rows, as the first rows of the tables tell them. Nothing is told of a plan that gives no row because
-- a table has none.
use Rattle.std.specs.Prelude.{ℕ, Vec, List, [], ◌∷◌, ◌++◌, map, Option, Some, None, option_map, slice_get, unwrap_or}
use Rattle.std.specs.Option.{option_or}
use Rattle.std.specs.declared.alloc.Global.{Global}
use Rattle.au_value.specs.declared.kinds.Kind.{Kind}
use Rattle.au_value.specs.declared.kinds.Kind.TheVariants.{Int, Flag}
use Rattle.au_value.specs.Order.{kind_of}
use Rattle.au_algebra.specs.Ordinary.{Rows}
use Rattle.au_plain.specs.declared.plan.PAgg.{PAgg}
use Rattle.au_plain.specs.declared.plan.PAgg.TheVariants.{Sum, Min, Max}
use Rattle.au_plain.specs.PTerms.{PTerm, PTerms, nil, cons}
use Rattle.au_plain.specs.PTerms as term
use Rattle.au_physical.specs.Physicals.{PhysicalTree}
use Rattle.au_physical.specs.Physicals as physical

-- the kinds of the first row, if there is one
abbrev pub first_kinds : Rows → Option (List Kind)
first_kinds [] = None
first_kinds (row ∷ rows) = Some (map kind_of row)

-- the kinds that are held, if any are
abbrev pub held_kinds : Option (Vec Kind Global) → Option (List Kind)
held_kinds held = option_map (λ v. v.items) held

abbrev pub all_held : List (Option (Vec Kind Global)) → List (Option (List Kind))
all_held tables = map held_kinds tables

-- the kind in a place; past the last stand numbers
abbrev pub kind_at : List Kind → ℕ → Kind
kind_at ks i = unwrap_or (slice_get ks i) Int

-- the kind of an expression that is typed over columns of these kinds
abbrev mutual
  pub term_kind : List Kind → PTerm → Kind
  term_kind ks (term.Column i) = kind_at ks i
  term_kind ks (term.Literal v) = kind_of v
  term_kind ks (term.Add a b) = Int
  term_kind ks (term.Subtract a b) = Int
  term_kind ks (term.Multiply a b) = Int
  term_kind ks (term.Negate a) = Int
  term_kind ks (term.Compare how a b) = Flag
  term_kind ks (term.And a b) = Flag
  term_kind ks (term.Or a b) = Flag
  term_kind ks (term.Not a) = Flag
  term_kind ks (term.Case c a b) = term_kind ks a
  term_kind ks (term.Least es) = first_kind ks es
  term_kind ks (term.Greatest es) = first_kind ks es

  -- that of the first of several
  pub first_kind : List Kind → PTerms → Kind
  first_kind ks nil = Int
  first_kind ks (cons e es) = term_kind ks e

-- the kinds of a row with the value of an expression, and of a row's columns in some places
abbrev pub with_kind : List Kind → PTerm → List Kind
with_kind ks e = ks ++ term_kind ks e ∷ []

abbrev pub kinds_at : List Kind → List ℕ → List Kind
kinds_at ks places = map (kind_at ks) places

-- the kind of an aggregate, and the kinds of a grouping's rows
abbrev pub agg_kind : List Kind → PAgg → Kind
agg_kind ks (Sum c) = Int
agg_kind ks (Min c) = kind_at ks c
agg_kind ks (Max c) = kind_at ks c

abbrev pub grouped_kinds : List ℕ → List PAgg → List Kind → List Kind
grouped_kinds keys aggs ks = kinds_at ks keys ++ map (agg_kind ks) aggs

-- those of joined rows
abbrev pub joined_kinds : Option (List Kind) → Option (List Kind) → Option (List Kind)
joined_kinds None right = None
joined_kinds (Some ks) right = option_map (λ js. ks ++ js) right

-- the kinds of a plan's rows over tables whose rows have these kinds
abbrev pub known_kinds : List (Option (List Kind)) → PhysicalTree → Option (List Kind)
known_kinds ts (physical.Scan t w) = unwrap_or (slice_get ts t) None
known_kinds ts (physical.Rows w rows) = first_kinds rows
known_kinds ts (physical.Extend e p) = option_map (λ ks. with_kind ks e) (known_kinds ts p)
known_kinds ts (physical.Keep places p) = option_map (λ ks. kinds_at ks places) (known_kinds ts p)
known_kinds ts (physical.Filter e p) = known_kinds ts p
known_kinds ts (physical.Nested e p q) = joined_kinds (known_kinds ts p) (known_kinds ts q)
known_kinds ts (physical.Hash places e p q) = joined_kinds (known_kinds ts p) (known_kinds ts q)
known_kinds ts (physical.Overlap at e p q) = joined_kinds (known_kinds ts p) (known_kinds ts q)
known_kinds ts (physical.Union p q) = option_or (known_kinds ts p) (known_kinds ts q)
known_kinds ts (physical.Group keys aggs p) = option_map (grouped_kinds keys aggs) (known_kinds ts p)
