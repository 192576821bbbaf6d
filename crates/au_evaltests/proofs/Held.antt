-- Tables that are held, of some kinds.
use Rattle.std.specs.Prelude.{◌≡◌, List, [], ◌∷◌, Some, is_some, IsTrue}
use Rattle.std.specs.List.{AllZip}
use Rattle.std.proofs.Common.{sym, subst, ap, refl}
use Rattle.au_algebra.specs.Ordinary.{Rows}
use Rattle.au_plain.specs.Plans.{PlanTree}
use Rattle.au_plain.specs.PlanKinds.{HaveKinds, IsTypedFor}
use Rattle.au_plan.specs.Implements.{Implements}
use Rattle.au_physical.specs.Physicals.{PhysicalTree}
use Rattle.au_physical.specs.PhysicalKinds.{IsPhysicalFor}
use Rattle.au_evaltests.specs.Typed.{IsTypedPlan, test_table_kinds}

-- a plan that is typed over the table's kinds is typed for tables that have them
pub typed_for : (tables held : List Rows) (p : PlanTree) → held ≡ tables → AllZip HaveKinds (test_table_kinds ∷ []) tables → IsTypedPlan p → IsTypedFor held p
typed_for tables held p is have typed = record {
  kinds = test_table_kinds ∷ [];
  tables = subst (AllZip HaveKinds (test_table_kinds ∷ [])) (sym is) have;
  typed = ap is_some typed.1;
}

-- and so is a physical plan that stands for it
pub physical_for : (tables : List Rows) (p : PlanTree) (q : PhysicalTree) → AllZip HaveKinds (test_table_kinds ∷ []) tables → Implements p q → IsTypedPlan p → IsPhysicalFor tables q
physical_for tables p q have stands typed = record {
  kinds = test_table_kinds ∷ [];
  tables = have;
  typed = ap is_some (stands.typed (test_table_kinds ∷ []) typed.0 typed.1);
}
