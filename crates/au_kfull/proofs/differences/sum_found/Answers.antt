-- The rows that meet the row are among those with its guesses.
use Rattle.std.proofs.Common.{◌≡◌, ◌<◌, ◌^◌, ◌∙◌, ap, subst, sym}
use Rattle.std.specs.Prelude.{OkIff}
use Rattle.au_kfull.specs.declared.meeting.Meeting.TheVariants.{Guess, Certain}
use Rattle.au_kfull.specs.Meeting.{sum_meeting}
use Rattle.au_kfull.proofs.OverlapSums.{equal_found, guess_found, same_kinds}
use Rattle.au_kfull.proofs.differences.sum_found.Goals as goal

pub sum_meeting-requires : goal.sum_meeting-requires
sum_meeting-requires c = same_kinds c.args.right.now c.args.same.now c.args.cells.now c.requires

pub sum_meeting-requires-in-Certain : goal.sum_meeting-requires-in-Certain
sum_meeting-requires-in-Certain c = same_kinds c.args.right.now c.args.same.now c.args.cells.now c.requires

pub returns-in-Guess : goal.returns-in-Guess
returns-in-Guess c =
    let sum : sum_meeting Guess c.args.part c.args.cells.now c.args.same.now ≡ sum_meeting c.args.how c.args.part c.args.cells.now c.args.right.now =
    guess_found c.args.right.now c.args.same.now c.args.cells.now c.requires c.args.part ∙ ap (λ how. sum_meeting how c.args.part c.args.cells.now c.args.right.now) (sym c.in-Guess.is) in
    subst (λ s. OkIff c.sum_meeting.result (s < 2 ^ 127) s) sum c.sum_meeting.ensures

pub returns-in-Certain : goal.returns-in-Certain
returns-in-Certain c =
    let sum : sum_meeting Certain c.args.part c.args.cells.now c.args.same.now ≡ sum_meeting c.args.how c.args.part c.args.cells.now c.args.right.now =
    equal_found c.args.right.now c.args.same.now c.args.cells.now c.requires c.args.part ∙ ap (λ how. sum_meeting how c.args.part c.args.cells.now c.args.right.now) (sym c.in-Certain.is) in
    subst (λ s. OkIff c.sum_meeting-in-Certain.result (s < 2 ^ 127) s) sum c.sum_meeting-in-Certain.ensures
