-- What the plan finds is a step behind the sources.
use Rattle.std.proofs.Common.{◌≡◌, ◌∙◌, ◌*◌, ◌+◌, ap}
use Rattle.au_physical.specs.Physicals.{physical_tree}
use Rattle.au_plain.specs.Plans.{Scan, plan_tree}
use Rattle.au_program.specs.Programs.{IsReady}
use Rattle.au_program.specs.Sources.{count}
use Rattle.au_program.proofs.Together.{at_ok}
use Rattle.au_program.proofs.stage.scanned_step.Goals as goal

pub returns : goal.returns
returns c =
    let number = c.in_ok-parts.parts.0 in
    let made = c.in_ok-parts.parts.1 in
    let own = c.args.own in
    let of = c.args.of in
    let placed = at_ok c.count.result number c.in_ok-parts.ensures.values.0 (λ n. n ≡ count c.args.sources.now) c.count.ensures in
    record {
      ready = made.sources;
      physical = made.plan;
      stands = at_ok c.made_ready-made.result made c.in_ok-parts.ensures.values.1 (λ m. IsReady own m.sources (plan_tree of.plan) (physical_tree m.plan)) c.made_ready-made.ensures;
      behind = c.in_ok-put_step.ensures;
      columns = c.in_ok-scan.ensures.columns;
      is = c.in_ok-scan.ensures.plan ∙ ap (λ n. Scan n (3 * of.layout.columns + 3)) placed;
    }
