-- What a plan over encoded rows stands for: a bounded relation.
use Rattle.std.specs.Prelude.{◌≡◌, List, Some, ℤ}
use Rattle.au_value.specs.declared.kinds.Kind.{Kind}
use Rattle.au_expr.specs.Figures.{Fit}
use Rattle.au_algebra.specs.Ordinary.{Rows}
use Rattle.au_algebra.specs.Bounded.{Bounded}
use Rattle.au_algebra.specs.Laws.{IsRelation}
use Rattle.au_plain.specs.Plans.{PlanTree}
use Rattle.au_plain.specs.Meaning.{plain_rows}
use Rattle.au_plain.specs.PlanKinds.{plan_kinds}
use Rattle.au_plain.specs.PlanNumbers.{plan_numbers}
use Rattle.au_encode.specs.Encode.{encode, encoded_kinds}

-- Over tables of these column kinds and these rows the plan gives a relation with columns `ks`: it is typed, with their
-- encoded kinds; its rows are the encoded rows of the relation, in its order; and no number that it makes leaves the
-- range where none of `numbers` does.
pub record GivesRelation (kinds : List (List Kind)) (tables : List Rows) (p : PlanTree) (ks : List Kind) (rows : Bounded) (numbers : List ℤ) : Type 0 where
  pub typed : plan_kinds kinds p ≡ Some (encoded_kinds ks)
  pub relation : IsRelation ks rows
  pub encoded : plain_rows p tables ≡ encode rows
  pub fit : Fit numbers → Fit (plan_numbers p tables)
