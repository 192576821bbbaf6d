-- Which physical plans are typed over tables of which column kinds, and the kinds of the columns that they give:
-- by the rules of plans, and besides, columns that are compared have one kind.
use Rattle.std.specs.Prelude.{ℕ, Bool, ◌&&◌, IsTrue, List, ◌∷◌, [], ◌++◌, length, map, Option, Some, is_some, ◌==◌, slice_get, option_and_then}
use Rattle.std.specs.List.{AllZip, list_all}
use Rattle.au_value.specs.declared.kinds.Kind.{Kind}
use Rattle.au_value.specs.declared.kinds.Kind.TheVariants.{Flag}
use Rattle.au_expr.specs.Kinds.{is_kind, agreed}
use Rattle.au_algebra.specs.Ordinary.{Rows}
use Rattle.au_algebra.specs.Typing.{all_kinds, kinds_if, same_kinds}
use Rattle.au_plain.specs.PTerms.{PTerm}
use Rattle.au_plain.specs.PlanKinds.{plain_kind, kept_kinds, plain_agg_kind, list_kinds, HaveKinds}
use Rattle.au_physical.specs.declared.physical.Bounds.{Bounds}
use Rattle.au_physical.specs.Physicals.{PhysicalTree}
use Rattle.au_physical.specs.Physicals as physical

-- the left and the right column of these places are there and of one kind
abbrev pub one_kind : List Kind → List Kind → ℕ → ℕ → Bool
one_kind ks js i j = is_some (agreed (slice_get ks i) (slice_get js j))

-- the columns of each pair are of one kind
abbrev pub equal_kinds : List (ℕ × ℕ) → List Kind → List Kind → Bool
equal_kinds places ks js = list_all (λ p. one_kind ks js p.0 p.1) places

-- the ends of the left and of the right range that are compared are of one kind
abbrev pub bounds_kinds : Bounds → List Kind → List Kind → Bool
bounds_kinds at ks js = one_kind ks js at.left_lo at.right_hi && one_kind ks js at.left_hi at.right_lo

-- the kinds of joined rows, where the condition is a flag on them and the test of both sides' kinds holds
abbrev pub joined_kinds : (List Kind → List Kind → Bool) → PTerm → Option (List Kind) → Option (List Kind) → Option (List Kind)
joined_kinds fits e left right =
    option_and_then (λ ks. option_and_then (λ js. kinds_if (fits ks js && is_kind Flag (plain_kind (ks ++ js) e)) (ks ++ js)) right) left

-- the kinds of a physical plan's rows over tables of these kinds, and none where it is not typed
abbrev pub physical_kinds : List (List Kind) → PhysicalTree → Option (List Kind)
physical_kinds ts (physical.Scan t w) = option_and_then (λ ks. kinds_if (length ks == w) ks) (slice_get ts t)
physical_kinds ts (physical.Rows w rows) = list_kinds w rows
physical_kinds ts (physical.Extend e p) =
    option_and_then (λ ks. option_and_then (λ k. Some (ks ++ k ∷ [])) (plain_kind ks e)) (physical_kinds ts p)
physical_kinds ts (physical.Keep places p) = option_and_then (λ ks. kept_kinds places ks) (physical_kinds ts p)
physical_kinds ts (physical.Filter e p) = option_and_then (λ ks. kinds_if (is_kind Flag (plain_kind ks e)) ks) (physical_kinds ts p)
physical_kinds ts (physical.Nested e p q) =
    option_and_then (λ ks. option_and_then (λ js. kinds_if (is_kind Flag (plain_kind (ks ++ js) e)) (ks ++ js)) (physical_kinds ts q)) (physical_kinds ts p)
physical_kinds ts (physical.Hash places e p q) = joined_kinds (equal_kinds places) e (physical_kinds ts p) (physical_kinds ts q)
physical_kinds ts (physical.Overlap at e p q) = joined_kinds (bounds_kinds at) e (physical_kinds ts p) (physical_kinds ts q)
physical_kinds ts (physical.Union p q) =
    option_and_then (λ ks. option_and_then (λ js. kinds_if (same_kinds ks js) ks) (physical_kinds ts q)) (physical_kinds ts p)
physical_kinds ts (physical.Group keys aggs p) =
    option_and_then (λ ks. option_and_then (λ js. option_and_then (λ more. Some (js ++ more)) (all_kinds (map (plain_agg_kind ks) aggs))) (kept_kinds keys ks))
    (physical_kinds ts p)

-- the physical plan is typed over tables of these kinds
abbrev pub IsTypedPhysical : List (List Kind) → PhysicalTree → Type 0
IsTypedPhysical ts p = IsTrue (is_some (physical_kinds ts p))

-- the physical plan is typed over these lists of rows: for column kinds that all their rows have
pub record IsPhysicalFor (ts : List Rows) (p : PhysicalTree) : Type 0 where
  pub kinds : List (List Kind)
  pub tables : AllZip HaveKinds kinds ts
  pub typed : IsTypedPhysical kinds p
