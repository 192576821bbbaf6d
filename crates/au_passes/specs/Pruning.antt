-- Plans without the columns that nobody reads: plans that give the columns of some places of another plan,
-- row by row.
use Rattle.std.specs.Prelude.{◌≡◌, ℕ, ◌+◌, ◌<◌, ◌⊎◌, Bool, true, List, map, length, Some, slice_get, slice_index}
use Rattle.std.specs.List.{AllZip, range_with_len}
use Rattle.au_value.specs.declared.kinds.Kind.{Kind}
use Rattle.au_expr.specs.Figures.{Fit}
use Rattle.au_algebra.specs.Ordinary.{Rows}
use Rattle.au_plain.specs.declared.plan.PAgg.{PAgg}
use Rattle.au_plain.specs.declared.plan.PAgg.TheVariants.{Sum, Min, Max}
use Rattle.au_plain.specs.PTerms.{PTerm, PTerms, nil, cons}
use Rattle.au_plain.specs.PTerms as term
use Rattle.au_plain.specs.Plans.{PlanTree}
use Rattle.au_plain.specs.Plans as plan
use Rattle.au_plain.specs.Meaning.{plain_rows, kept}
use Rattle.au_plain.specs.PlanKinds.{plan_kinds, kept_kinds, HaveKinds}
use Rattle.au_plain.specs.PlanNumbers.{plan_numbers}
use Rattle.au_passes.specs.Reading.{is_marked}
use Rattle.au_plain.specs.Widths.{plan_width}

-- each operator of the plan gives a column
abbrev pub HasColumns : PlanTree → Type 0
HasColumns (plan.Scan t w) = 0 < w
HasColumns (plan.Rows w rows) = 0 < w
HasColumns (plan.Extend e p) = HasColumns p
HasColumns (plan.Keep places p) = (0 < length places) × HasColumns p
HasColumns (plan.Filter e p) = HasColumns p
HasColumns (plan.Join e p q) = HasColumns p × HasColumns q
HasColumns (plan.Union p q) = HasColumns p × HasColumns q
HasColumns (plan.Group keys aggs p) = (0 < length keys + length aggs) × HasColumns p

-- the expression with the number that stands at `i` in the place of column `i`
abbrev mutual
  pub renumbered : List ℕ → PTerm → PTerm
  renumbered found (term.Column i) = term.Column (slice_index found i)
  renumbered found (term.Literal v) = term.Literal v
  renumbered found (term.Add a b) = term.Add (renumbered found a) (renumbered found b)
  renumbered found (term.Subtract a b) = term.Subtract (renumbered found a) (renumbered found b)
  renumbered found (term.Multiply a b) = term.Multiply (renumbered found a) (renumbered found b)
  renumbered found (term.Negate a) = term.Negate (renumbered found a)
  renumbered found (term.Compare how a b) = term.Compare how (renumbered found a) (renumbered found b)
  renumbered found (term.And a b) = term.And (renumbered found a) (renumbered found b)
  renumbered found (term.Or a b) = term.Or (renumbered found a) (renumbered found b)
  renumbered found (term.Not a) = term.Not (renumbered found a)
  renumbered found (term.Case c a b) = term.Case (renumbered found c) (renumbered found a) (renumbered found b)
  renumbered found (term.Least es) = term.Least (all_renumbered found es)
  renumbered found (term.Greatest es) = term.Greatest (all_renumbered found es)

  pub all_renumbered : List ℕ → PTerms → PTerms
  all_renumbered found nil = nil
  all_renumbered found (cons e es) = cons (renumbered found e) (all_renumbered found es)

abbrev pub renumbered_agg : List ℕ → PAgg → PAgg
renumbered_agg found (Sum c) = Sum (slice_index found c)
renumbered_agg found (Min c) = Min (slice_index found c)
renumbered_agg found (Max c) = Max (slice_index found c)

-- The second plan gives, row by row and in the same order, the columns of these places of the first: over all tables for
-- which the first is typed, the second is typed with their kinds, and leaves the range only where the first does.
pub record Narrows (p : PlanTree) (places : List ℕ) (q : PlanTree) : Type 0 where
  pub typed : (kinds : List (List Kind)) (ks : List Kind) → plan_kinds kinds p ≡ Some ks → (js : List Kind) × (kept_kinds places ks ≡ Some js) × (plan_kinds kinds q ≡ Some js)
  pub rows : (kinds : List (List Kind)) (ks : List Kind) (ts : List Rows) → AllZip HaveKinds kinds ts → plan_kinds kinds p ≡ Some ks → plain_rows q ts ≡ map (kept places) (plain_rows p ts)
  pub numbers : (kinds : List (List Kind)) (ks : List Kind) (ts : List Rows) → AllZip HaveKinds kinds ts → plan_kinds kinds p ≡ Some ks → Fit (plan_numbers p ts) → Fit (plan_numbers q ts)

-- the third is the columns of these places of the second, or the second itself where they are all of its columns, in order
abbrev pub IsKept : List ℕ → PlanTree → PlanTree → Type 0
IsKept places p q = (q ≡ plan.Keep places p) ⊎ ((places ≡ range_with_len 0 (plan_width p)) × (q ≡ p))

-- The second plan gives columns of the first, the marked ones among them, each where `found` says; and each of its
-- operators gives a column if each of the first does.
pub record Narrowed (p : PlanTree) (marks : List Bool) (q : PlanTree) (found : List ℕ) : Type 0 where
  pub places : List ℕ
  pub narrows : Narrows p places q
  pub counted : length places ≡ plan_width q
  pub found_long : length found ≡ length marks
  pub finds : (i : ℕ) → is_marked marks i ≡ true → slice_get places (slice_index found i) ≡ Some i
  pub some : 0 < length marks → 0 < length places
  pub wide : HasColumns p → HasColumns q
