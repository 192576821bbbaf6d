-- The plan is improved, and then narrowed.
use Rattle.au_physical.specs.Physicals.{physical_tree}
use Rattle.au_plain.specs.Plans.{plan_tree}
use Rattle.au_plan.specs.Implements.{Implements}
use Rattle.au_program.specs.Programs.{ReadsLess}
use Rattle.au_program.proofs.Together.{at_equal, at_ok}
use Rattle.au_program.proofs.readiness.made_ready.Goals as goal

pub returns : goal.returns
returns c =
    let made = c.in_ok-made.made in
    let ready = c.in_ok-ready.ready in
    record {
      improved = physical_tree made.0;
      stands = at_ok c.improve.result made.0 c.in_ok-made.ensures.values.0 (λ x. Implements (plan_tree c.args.plan) (physical_tree x)) c.improve.ensures;
      reads = at_equal made.1 c.args.sources c.in_ok-made.ensures.values.1 (λ s. ReadsLess s ready.sources (physical_tree made.0) (physical_tree ready.plan)) c.in_ok-ready.ensures;
    }
