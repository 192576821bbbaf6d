-- What overlaps a certain row is certainly equal to it, or unsure.
use Rattle.std.proofs.Common.{◌≡◌, ◌+◌, ◌<◌, ◌^◌, ◌∙◌, arith, subst, sym}
use Rattle.std.specs.Prelude.{OkIff}
use Rattle.au_kfull.specs.declared.meeting.Meeting.TheVariants.{Overlap, Certain}
use Rattle.au_kfull.specs.declared.meeting.Part.TheVariants.{Most}
use Rattle.au_kfull.specs.Meeting.{sum_meeting}
use Rattle.au_kfull.proofs.OverlapSums.{others_kinds, overlap_found, refused}
use Rattle.au_kfull.proofs.differences.sum_overlapping.Goals as goal

pub sum_meeting-requires : goal.sum_meeting-requires
sum_meeting-requires c = others_kinds c.args.right.now c.args.same.now c.args.cells.now c.requires.found c.args.unsure.now c.requires.unsure

pub returns-in_err-equal : goal.returns-in_err-equal
returns-in_err-equal c =
    let certain = sym c.all_certain.ensures ∙ c.if-not-all_certain.false in
    let all = overlap_found c.args.right.now c.args.same.now c.args.cells.now c.requires.found c.args.unsure.now c.requires.unsure Most certain in
    refused c.from_residual.result _ _ c.from_residual.ensures.0
    (λ p. c.in_err-equal.ensures (let small : sum_meeting Certain Most c.args.cells.now c.args.right.now < 2 ^ 127 = omega (arith, all, p) in small))

pub returns-in_err-other : goal.returns-in_err-other
returns-in_err-other c =
    let certain = sym c.all_certain.ensures ∙ c.if-not-all_certain.false in
    let all = overlap_found c.args.right.now c.args.same.now c.args.cells.now c.requires.found c.args.unsure.now c.requires.unsure Most certain in
    refused c.from_residual-in_err-other.result _ _ c.from_residual-in_err-other.ensures.0
    (λ p. c.in_err-other.ensures (let small : sum_meeting Overlap Most c.args.cells.now c.args.unsure.now < 2 ^ 127 = omega (arith, all, p) in small))

pub returns : goal.returns
returns c =
    let certain = sym c.all_certain.ensures ∙ c.if-not-all_certain.false in
    let all = overlap_found c.args.right.now c.args.same.now c.args.cells.now c.requires.found c.args.unsure.now c.requires.unsure Most certain in
    let both : c.in_ok-equal.equal + c.in_ok-other.other ≡ sum_meeting Overlap Most c.args.cells.now c.args.right.now =
    (λ i. c.in_ok-equal.ensures.1 i + c.in_ok-other.ensures.1 i) ∙ sym all in
    subst (λ s. OkIff c.added.result (s < 2 ^ 127) s) both c.added.ensures
