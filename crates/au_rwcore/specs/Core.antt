-- Select, Project, Product and Union as plans over encoded rows.
use Rattle.std.specs.Prelude.{ℕ, ◌+◌, ◌*◌, true, List, [], ◌∷◌, ◌++◌}
use Rattle.au_value.specs.declared.value.Value.TheVariants.{Flag}
use Rattle.au_expr.specs.Terms.{Term}
use Rattle.au_plain.specs.PTerms.{PTerm, Literal, Multiply, Case}
use Rattle.au_plain.specs.Plans.{PlanTree, Keep, Filter, Join, extend_all}
use Rattle.au_plain.specs.Plans as plan
use Rattle.au_rwexpr.specs.Cells.{three_places, cell_places}
use Rattle.au_rwexpr.specs.Counts.{zero_term}
use Rattle.au_rwexpr.specs.Flatten.{lo, sg, hi, three, before, flatten, flatten_items, item_places}

-- least where the test at `i` certainly holds, and guess where it holds in the guess world, of the triple at `t`; else 0
abbrev pub weighed : ℕ → ℕ → List PTerm
weighed i t = Case (lo i) (lo t) zero_term ∷ Case (sg i) (sg t) zero_term ∷ []

-- The rows whose condition is possible, with `c` columns. Least and guess stay where it certainly holds and where it
-- holds in the guess world, and are 0 elsewhere.
abbrev pub select_plan : ℕ → Term → PlanTree → PlanTree
select_plan c e p =
    let t = 3 * c in
    let n = 3 * c + 3 in
    let i = n + before e in
    let m = n + (before e + 3) in
    Keep (cell_places 0 c ++ (m ∷ (m + 1) ∷ (t + 2) ∷ []))
    (extend_all (weighed i t) (Filter (hi i) (extend_all (flatten n e) p)))

-- the ranges of the items, with the triple
abbrev pub project_plan : ℕ → List Term → PlanTree → PlanTree
project_plan c items p =
    let n = 3 * c + 3 in Keep (item_places n items ++ three_places (3 * c)) (extend_all (flatten_items n items) p)

-- the products of the triples at two places
abbrev pub products : ℕ → ℕ → List PTerm
products t u = three (Multiply (lo t) (lo u)) (Multiply (sg t) (sg u)) (Multiply (hi t) (hi u))

-- each pair of a row of `c` columns and one of `d`, with the triples multiplied
abbrev pub product_plan : ℕ → ℕ → PlanTree → PlanTree → PlanTree
product_plan c d p q =
    let t = 3 * c in
    let b = 3 * c + 3 in
    let u = b + 3 * d in
    let n = u + 3 in
    Keep (cell_places 0 c ++ (cell_places b d ++ three_places n))
    (extend_all (products t u) (Join (Literal (Flag true)) p q))

-- the rows of both
abbrev pub union_plan : PlanTree → PlanTree → PlanTree
union_plan p q = plan.Union p q
