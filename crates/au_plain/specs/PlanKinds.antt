-- Which plans are typed over tables of which column kinds,
-- and the kinds of the columns that they give.
use Rattle.std.specs.Prelude.{◌≡◌, ℕ, Bool, ◌&&◌, IsTrue, List, [], ◌∷◌, ◌++◌, length, map, Option, Some, None, is_some, ◌==◌, slice_get, option_and_then, if◌then◌else◌}
use Rattle.std.specs.List.{AllByRecursion, AllZip, list_all}
use Rattle.au_value.specs.declared.kinds.Kind.{Kind}
use Rattle.au_value.specs.declared.kinds.Kind.TheVariants.{Int, Flag}
use Rattle.au_value.specs.declared.value.Value.{Value}
use Rattle.au_value.specs.Order.{kind_of}
use Rattle.au_expr.specs.Kinds.{kind_if, is_kind, agreed, only_if}
use Rattle.au_expr.specs.Figures.{fit}
use Rattle.au_expr.specs.Numbers.{number_if_any}
use Rattle.au_algebra.specs.Ordinary.{Rows}
use Rattle.au_algebra.specs.Typing.{all_kinds, kinds_if, same_kinds}
use Rattle.au_plain.specs.declared.plan.PAgg.{PAgg}
use Rattle.au_plain.specs.declared.plan.PAgg.TheVariants.{Sum, Min, Max}
use Rattle.au_plain.specs.PTerms.{PTerm, PTerms, nil, cons}
use Rattle.au_plain.specs.PTerms as term
use Rattle.au_plain.specs.Plans.{PlanTree}
use Rattle.au_plain.specs.Plans as plan

-- the kind of an expression over columns of these kinds, and none where its parts don't fit
abbrev mutual
  pub plain_kind : List Kind → PTerm → Option Kind
  plain_kind ks (term.Column i) = slice_get ks i
  plain_kind ks (term.Literal v) = Some (kind_of v)
  plain_kind ks (term.Add a b) = kind_if (is_kind Int (plain_kind ks a) && is_kind Int (plain_kind ks b)) Int
  plain_kind ks (term.Subtract a b) = kind_if (is_kind Int (plain_kind ks a) && is_kind Int (plain_kind ks b)) Int
  plain_kind ks (term.Multiply a b) = kind_if (is_kind Int (plain_kind ks a) && is_kind Int (plain_kind ks b)) Int
  plain_kind ks (term.Negate a) = kind_if (is_kind Int (plain_kind ks a)) Int
  plain_kind ks (term.Compare how a b) = kind_if (is_some (agreed (plain_kind ks a) (plain_kind ks b))) Flag
  plain_kind ks (term.And a b) = kind_if (is_kind Flag (plain_kind ks a) && is_kind Flag (plain_kind ks b)) Flag
  plain_kind ks (term.Or a b) = kind_if (is_kind Flag (plain_kind ks a) && is_kind Flag (plain_kind ks b)) Flag
  plain_kind ks (term.Not a) = kind_if (is_kind Flag (plain_kind ks a)) Flag
  plain_kind ks (term.Case c a b) = only_if (is_kind Flag (plain_kind ks c)) (agreed (plain_kind ks a) (plain_kind ks b))
  plain_kind ks (term.Least es) = common_kind ks es
  plain_kind ks (term.Greatest es) = common_kind ks es

  -- the kind of each of a nonempty list of expressions
  pub common_kind : List Kind → PTerms → Option Kind
  common_kind ks nil = None
  common_kind ks (cons e nil) = plain_kind ks e
  common_kind ks (cons e (cons f es)) = agreed (plain_kind ks e) (common_kind ks (cons f es))

-- the kinds in these places
abbrev pub kept_kinds : List ℕ → List Kind → Option (List Kind)
kept_kinds places ks = all_kinds (map (slice_get ks) places)

-- the kind of an aggregate over columns of these kinds
abbrev pub plain_agg_kind : List Kind → PAgg → Option Kind
plain_agg_kind ks (Sum c) = if is_kind Int (slice_get ks c) then Some Int else None
plain_agg_kind ks (Min c) = slice_get ks c
plain_agg_kind ks (Max c) = slice_get ks c

-- whether each number of a row lies between -2^127 and 2^127 - 1
abbrev pub row_fits : List Value → Bool
row_fits row = list_all (λ v. fit (number_if_any v)) row

-- the kinds of rows of a width: all rows have it and the kinds of the first, and their numbers lie in the range;
-- above width 0 there is a row
abbrev pub list_kinds : ℕ → List (List Value) → Option (List Kind)
list_kinds w [] = kinds_if (w == 0) []
list_kinds w (row ∷ rows) =
    let ks = map kind_of row in kinds_if (list_all (λ r. (length r == w) && (same_kinds (map kind_of r) ks && row_fits r)) (row ∷ rows)) ks

-- the kinds of a plan's rows over tables of these kinds, and none where it is not typed
abbrev pub plan_kinds : List (List Kind) → PlanTree → Option (List Kind)
plan_kinds ts (plan.Scan t w) = option_and_then (λ ks. kinds_if (length ks == w) ks) (slice_get ts t)
plan_kinds ts (plan.Rows w rows) = list_kinds w rows
plan_kinds ts (plan.Extend e p) = option_and_then (λ ks. option_and_then (λ k. Some (ks ++ k ∷ [])) (plain_kind ks e)) (plan_kinds ts p)
plan_kinds ts (plan.Keep places p) = option_and_then (λ ks. kept_kinds places ks) (plan_kinds ts p)
plan_kinds ts (plan.Filter e p) = option_and_then (λ ks. kinds_if (is_kind Flag (plain_kind ks e)) ks) (plan_kinds ts p)
plan_kinds ts (plan.Join e p q) =
    option_and_then (λ ks. option_and_then (λ js. kinds_if (is_kind Flag (plain_kind (ks ++ js) e)) (ks ++ js)) (plan_kinds ts q)) (plan_kinds ts p)
plan_kinds ts (plan.Union p q) =
    option_and_then (λ ks. option_and_then (λ js. kinds_if (same_kinds ks js) ks) (plan_kinds ts q)) (plan_kinds ts p)
plan_kinds ts (plan.Group keys aggs p) =
    option_and_then (λ ks. option_and_then (λ js. option_and_then (λ more. Some (js ++ more)) (all_kinds (map (plain_agg_kind ks) aggs))) (kept_kinds keys ks))
    (plan_kinds ts p)

-- the plan is typed over tables of these kinds
abbrev pub IsTypedPlan : List (List Kind) → PlanTree → Type 0
IsTypedPlan ts p = IsTrue (is_some (plan_kinds ts p))

-- each row has these kinds
abbrev pub HaveKinds : List Kind → Rows → Type 0
HaveKinds ks rows = AllByRecursion (λ row. map kind_of row ≡ ks) rows

-- each number of the rows lies in the range
abbrev pub FitRows : Rows → Type 0
FitRows rows = AllByRecursion (λ row. IsTrue (row_fits row)) rows

abbrev pub FitTables : List Rows → Type 0
FitTables ts = AllByRecursion FitRows ts

-- the plan is typed over these lists of rows: for column kinds that all their rows have
pub record IsTypedFor (ts : List Rows) (p : PlanTree) : Type 0 where
  pub kinds : List (List Kind)
  pub tables : AllZip HaveKinds kinds ts
  pub typed : IsTypedPlan kinds p
