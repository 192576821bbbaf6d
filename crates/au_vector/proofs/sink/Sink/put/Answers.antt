-- The groups with more rows.
use Rattle.std.proofs.Common.{◌≡◌, rules}
use Rattle.au_folds.specs.Tables.{grown}
use Rattle.au_vector.proofs.SinkLaws.{groups_more}
use Rattle.au_vector.proofs.sink.Sink.put.Goals as goal

pub invariant_of-result-in-Groups : goal.invariant_of-result-in-Groups
invariant_of-result-in-Groups c =
    let more : c.in_ok-groups-in-Groups.groups ≡ grown c.in-Groups.groups c.args.rows = search (rules, c.in_ok-groups-in-Groups.ensures) in
    groups_more c.self.inside.held c.in-Groups.keys c.in-Groups.aggs c.in-Groups.groups c.in_ok-groups-in-Groups.groups c.args.rows c.in-Groups.is c.self.invariant.0 more c.in_ok-groups-in-Groups.ensures.1
