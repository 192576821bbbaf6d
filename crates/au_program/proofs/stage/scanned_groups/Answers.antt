-- The groups are a step behind the sources.
use Rattle.std.proofs.Common.{◌≡◌, ◌∙◌, ◌*◌, ◌+◌, Ok, ap, length}
use Rattle.au_plain.specs.Plans.{Scan, plan_tree}
use Rattle.au_program.specs.Programs.{ChoosesGroups, IsStepBehind}
use Rattle.au_program.specs.Sources.{count}
use Rattle.au_program.proofs.Together.{at_equal, at_ok}
use Rattle.au_program.proofs.stage.scanned_groups.Goals as goal

pub returns : goal.returns
returns c =
    let own = c.in_ok-made.made.1 in
    let number = c.in_ok-made.made.0.0 in
    let ways = c.in_ok-made.made.0.1 in
    let of = c.args.of in
    let keys = c.args.keys in
    let aggs = c.args.aggs.now in
    let held = at_ok c.both.result c.in_ok-made.made.0 c.in_ok-made.ensures.values.0 (λ r. (c.count-number.result ≡ Ok r.0) × (c.group_ways-ways.result ≡ Ok r.1)) c.both.ensures.values in
    let placed = at_ok c.count-number.result number held.0 (λ n. n ≡ count c.args.sources.now) c.count-number.ensures in
    let wide = at_ok c.group_ways-ways.result ways held.1 (λ w. w.1 ≡ keys + length aggs) c.group_ways-ways.ensures.columns in
    record {
      how = ways.0;
      chooses = at_ok c.group_ways-ways.result ways held.1 (λ w. ChoosesGroups c.args.points keys aggs (plan_tree of.plan) of.layout.columns w.0) c.group_ways-ways.ensures.ways;
      behind = at_equal own c.args.own c.in_ok-made.ensures.values.1 (λ s. IsStepBehind s c.args.sources.now c.put_step.new.sources ways.0) c.in_ok-put_step.ensures;
      columns = c.in_ok-scan.ensures.columns ∙ wide;
      is = c.in_ok-scan.ensures.plan ∙ ap (λ n. Scan n (3 * ways.1 + 3)) placed ∙ ap (λ w. Scan (count c.args.sources.now) (3 * w + 3)) wide;
    }
