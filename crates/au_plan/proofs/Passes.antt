-- Passes over a plan, one after the other, and the physical plan that stands for the last.
use Rattle.std.specs.Prelude.{List, is_some}
use Rattle.std.proofs.Common.{refl, ◌∙◌, ap}
use Rattle.au_algebra.specs.Lists.{copies}
use Rattle.au_algebra.specs.Ordinary.{Rows}
use Rattle.au_algebra.proofs.TreeRelation.{its_kinds}
use Rattle.au_plain.specs.Plans.{PlanTree}
use Rattle.au_plain.specs.PlanKinds.{plan_kinds, IsTypedFor}
use Rattle.au_plan.specs.Implements.{Implements}
use Rattle.au_passes.specs.Keeps.{Keeps}
use Rattle.au_physical.specs.Physicals.{PhysicalTree}

-- what a pass gives is typed for the same tables
pub kept_typed : (p q : PlanTree) → Keeps p q → (ts : List Rows) → IsTypedFor ts p → IsTypedFor ts q
kept_typed p q keeps ts t =
    let k = its_kinds (plan_kinds t.kinds p) t.typed in
    record { kinds = t.kinds; tables = t.tables; typed = ap is_some (keeps.typed t.kinds k.0 k.1) }

-- no pass
pub keeps_itself : (p : PlanTree) → Keeps p p
keeps_itself p = record { typed = λ kinds ks h. h; rows = λ ts t. refl; numbers = λ ts fit t f. f }

-- one pass after another
pub keeps_on : (p q r : PlanTree) → Keeps p q → Keeps q r → Keeps p r
keeps_on p q r first second = record {
  typed = λ kinds ks h. second.typed kinds ks (first.typed kinds ks h);
  rows = λ ts t. second.rows ts (kept_typed p q first ts t) ∙ first.rows ts t;
  numbers = λ ts fit t f. second.numbers ts fit (kept_typed p q first ts t) (first.numbers ts fit t f);
}

-- what stands for the plan that a pass gives stands for the plan
pub keeps_implements : (p q : PlanTree) (r : PhysicalTree) → Keeps p q → Implements q r → Implements p r
keeps_implements p q r keeps stands = record {
  typed = λ kinds ks h. stands.typed kinds ks (keeps.typed kinds ks h);
  rows = λ ts t v. stands.rows ts (kept_typed p q keeps ts t) v ∙ ap (copies v) (keeps.rows ts t);
  numbers = λ ts fit t f. stands.numbers ts fit (kept_typed p q keeps ts t) (keeps.numbers ts fit t f);
}
