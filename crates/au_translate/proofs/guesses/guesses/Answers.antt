-- The guess of one column more.
use Rattle.std.proofs.Common.{◌≡◌, ◌+◌, [], ◌∷◌, Some, drop, slice_get, subst, sym}
use Rattle.au_value.specs.Ranges.{guesses}
use Rattle.au_translate.proofs.Places.{left_at, next_part}
use Rattle.au_translate.proofs.guesses.guesses.Goals as goal

pub loop-at-preserved : goal.loop-at-preserved
loop-at-preserved c =
    let all = guesses c.args.alternative.now.cells in
    let at = c.loop-at.at in
    let guess = c.in_ok-guess.guess in
    let here = subst (λ v. slice_get all at ≡ Some v) (sym c.in_ok-guess.ensures) c.sg.ensures in
    next_part c.loop-at.guesses.items (guess ∷ []) (drop (at + 1) all) (drop at all) _ _ c.in_ok-push.ensures.items (left_at all at guess here) c.loop-at.invariant
