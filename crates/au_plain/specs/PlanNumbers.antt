-- The numbers of a plan: the values that it evaluates, and the magnitudes of each sum, added.
-- Besides, how many Scans it has.
use Rattle.std.specs.Prelude.{ℕ, ◌+◌, List, [], ◌∷◌, ◌++◌, map, filter, flat_map, sum_by, ℤ, pos, nat_abs, if◌then◌else◌}
use Rattle.au_value.specs.declared.value.Value.{Value}
use Rattle.au_value.specs.Lists.{distinct}
use Rattle.au_expr.specs.Ordinary.{is_true, number}
use Rattle.au_expr.specs.Numbers.{number_if_any}
use Rattle.au_algebra.specs.Lists.{same_row, value_at}
use Rattle.au_algebra.specs.Ordinary.{Rows}
use Rattle.au_plain.specs.declared.plan.PAgg.{PAgg}
use Rattle.au_plain.specs.declared.plan.PAgg.TheVariants.{Sum, Min, Max}
use Rattle.au_plain.specs.PTerms.{PTerm, PTerms, nil, cons, plain_value, least_value, greatest_value}
use Rattle.au_plain.specs.PTerms as term
use Rattle.au_plain.specs.Plans.{PlanTree}
use Rattle.au_plain.specs.Plans as plan
use Rattle.au_plain.specs.Meaning.{plain_rows, kept}

-- how many Scans there are
abbrev pub scans : PlanTree → ℕ
scans (plan.Scan t w) = 1
scans (plan.Rows w rows) = 0
scans (plan.Extend e p) = scans p
scans (plan.Keep places p) = scans p
scans (plan.Filter e p) = scans p
scans (plan.Join e p q) = scans p + scans q
scans (plan.Union p q) = scans p + scans q
scans (plan.Group keys aggs p) = scans p

-- the values that are numbers among those that are evaluated; of a Case the chosen branch alone
abbrev mutual
  pub term_numbers : PTerm → List Value → List ℤ
  term_numbers (term.Column i) row = number_if_any (value_at row i)
  term_numbers (term.Literal v) row = number_if_any v
  term_numbers (term.Add a b) row = number_if_any (plain_value (term.Add a b) row) ++ (term_numbers a row ++ term_numbers b row)
  term_numbers (term.Subtract a b) row = number_if_any (plain_value (term.Subtract a b) row) ++ (term_numbers a row ++ term_numbers b row)
  term_numbers (term.Multiply a b) row = number_if_any (plain_value (term.Multiply a b) row) ++ (term_numbers a row ++ term_numbers b row)
  term_numbers (term.Negate a) row = number_if_any (plain_value (term.Negate a) row) ++ term_numbers a row
  term_numbers (term.Compare how a b) row = term_numbers a row ++ term_numbers b row
  term_numbers (term.And a b) row = term_numbers a row ++ term_numbers b row
  term_numbers (term.Or a b) row = term_numbers a row ++ term_numbers b row
  term_numbers (term.Not a) row = term_numbers a row
  term_numbers (term.Case c a b) row = term_numbers c row ++ (if is_true (plain_value c row) then term_numbers a row else term_numbers b row)
  term_numbers (term.Least es) row = number_if_any (least_value es row) ++ parts_numbers es row
  term_numbers (term.Greatest es) row = number_if_any (greatest_value es row) ++ parts_numbers es row

  pub parts_numbers : PTerms → List Value → List ℤ
  parts_numbers nil row = []
  parts_numbers (cons e es) row = term_numbers e row ++ parts_numbers es row

-- the sum of the magnitudes of a Sum's terms
abbrev pub magnitudes : Rows → PAgg → List ℤ
magnitudes rows (Sum c) = pos (sum_by (λ row. nat_abs (number (value_at row c))) rows) ∷ []
magnitudes rows (Min c) = []
magnitudes rows (Max c) = []

-- the numbers of a grouping
abbrev pub group_numbers : List ℕ → List PAgg → Rows → List ℤ
group_numbers keys aggs rows =
    flat_map (λ key. flat_map (magnitudes (filter (λ row. same_row key (kept keys row)) rows)) aggs) (distinct same_row (map (kept keys) rows))

-- the numbers of a plan; a join evaluates its condition on every pair
abbrev pub plan_numbers : PlanTree → List Rows → List ℤ
plan_numbers (plan.Scan t w) ts = []
plan_numbers (plan.Rows w rows) ts = []
plan_numbers (plan.Extend e p) ts = plan_numbers p ts ++ flat_map (term_numbers e) (plain_rows p ts)
plan_numbers (plan.Keep places p) ts = plan_numbers p ts
plan_numbers (plan.Filter e p) ts = plan_numbers p ts ++ flat_map (term_numbers e) (plain_rows p ts)
plan_numbers (plan.Join e p q) ts =
    (plan_numbers p ts ++ plan_numbers q ts)
    ++ flat_map (term_numbers e) (flat_map (λ a. map (λ b. a ++ b) (plain_rows q ts)) (plain_rows p ts))
plan_numbers (plan.Union p q) ts = plan_numbers p ts ++ plan_numbers q ts
plan_numbers (plan.Group keys aggs p) ts = plan_numbers p ts ++ group_numbers keys aggs (plain_rows p ts)
