-- The row of the marked alternative.
use Rattle.std.proofs.Common.{◌≡◌, Some, sym, ◌∙◌, subst, slice_get}
use Rattle.au_translate.proofs.Guessing.{marked_row}
use Rattle.au_translate.proofs.guesses.push_guess.Goals as goal

pub returns : goal.returns
returns c =
    let b = c.args.block.now in
    let marked : b.guess ≡ Some c.in-Some.at = sym c.guess.ensures.of ∙ c.in-Some.is in
    let is = subst (λ xs. slice_get xs c.in-Some.at ≡ Some c.get.result) c.alternatives.ensures.of c.get.ensures in
    rw (marked_row b c.in-Some.at c.get.result marked is) c.push_row.ensures
