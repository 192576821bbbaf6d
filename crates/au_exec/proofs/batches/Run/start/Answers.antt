-- Nothing is done yet: the rows and the numbers that are left are those of the plan.
use Rattle.std.proofs.Common.{rules, ◌≡◌, map, subst, sym}
use Rattle.au_physical.specs.declared.physical.Physical.{Physical}
use Rattle.au_physical.specs.Physicals.{physical_tree}
use Rattle.au_physical.specs.PhysicalKinds.{IsPhysicalFor}
use Rattle.au_exec.specs.HeldRows.{rows_of}
use Rattle.au_exec.proofs.Advancing.{same_fit}
use Rattle.au_exec.proofs.batches.Run.start.Goals as goal

pub invariant_of-result : goal.invariant_of-result
invariant_of-result g c =
    let ts = map rows_of c.args.tables.items in
    let is : c.in_ok-plan.plan.value ≡ c.args.plan = search (rules, c.in_ok-plan.ensures) in (
      c.requires.workers,
      record {
        can = λ none. subst (λ (p : Physical). IsPhysicalFor ts (physical_tree p)) (sym is) c.requires.plan;
        same = λ none. same_fit c.args.plan c.in_ok-plan.plan.value c.of-given.result.value c.args.tables c.of.result.value is c.of-given.ensures c.of.ensures;
        over = λ never. cc;
      },
    )
