-- One place more.
use Rattle.std.proofs.Common.{sym, ◌∙◌, ap, ◌++◌, ◌∷◌, []}
use Rattle.au_settled.proofs.Ranges.{range_next}
use Rattle.au_settled.proofs.places.first_places.Goals as goal

pub loop-place-preserved : goal.loop-place-preserved
loop-place-preserved c = c.in_ok-push.ensures.items ∙ ap (λ ns. ns ++ c.loop-place.place ∷ []) c.loop-place.invariant ∙ sym (range_next c.loop-place.place)
