-- Both groups.
use Rattle.std.proofs.Common.{◌≡◌, ap, rules, sym, ◌∙◌}
use Rattle.au_folds.specs.Merged.{Alike, merged}
use Rattle.au_vector.specs.Sinks.{contents_of, emptied}
use Rattle.au_vector.proofs.SinkLaws.{groups_alike, groups_joined}
use Rattle.au_vector.proofs.sink.Sink.join.Goals as goal

pub merge-requires : goal.merge-requires
merge-requires c =
    let same : emptied (contents_of c.more.inside.held) ≡ emptied (contents_of c.self.inside.held) = ap emptied c.more.view_is ∙ (c.requires ∙ ap emptied (sym c.self.view_is)) in
    let alike : Alike c.in-Groups.groups c.in-Groups-held-2.others =
    groups_alike c.self.inside.held c.more.inside.held c.in-Groups.keys c.in-Groups-held-2.field-0 c.in-Groups.aggs c.in-Groups-held-2.field-1 c.in-Groups.groups c.in-Groups-held-2.others
    c.in-Groups.is c.in-Groups-held-2.is c.self.invariant.0 c.more.invariant.0 same in
    search (rules, alike)

pub invariant_of-result-in-Groups-held-2 : goal.invariant_of-result-in-Groups-held-2
invariant_of-result-in-Groups-held-2 c =
    let same : emptied (contents_of c.more.inside.held) ≡ emptied (contents_of c.self.inside.held) = ap emptied c.more.view_is ∙ (c.requires ∙ ap emptied (sym c.self.view_is)) in
    let more : c.in_ok-groups-in-Groups-held-2.groups ≡ merged c.in-Groups.groups c.in-Groups-held-2.others = search (rules, c.in_ok-groups-in-Groups-held-2.ensures) in
    groups_joined c.self.inside.held c.more.inside.held c.in-Groups.keys c.in-Groups-held-2.field-0 c.in-Groups.aggs c.in-Groups-held-2.field-1 c.in-Groups.groups c.in-Groups-held-2.others
    c.in-Groups.is c.in-Groups-held-2.is c.self.invariant.0 c.more.invariant.0 same c.in_ok-groups-in-Groups-held-2.groups more c.in_ok-groups-in-Groups-held-2.ensures.1
