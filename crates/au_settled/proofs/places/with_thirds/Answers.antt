-- One place more.
use Rattle.std.proofs.Common.{◌++◌, ◌∷◌, ◌+◌, ◌-◌, [], arith, sym, ap, ◌∙◌, append_assoc}
use Rattle.au_settled.specs.Places.{every_third}
use Rattle.au_settled.proofs.Ranges.{thirds_next}
use Rattle.au_settled.proofs.places.with_thirds.Goals as goal

pub loop-left-preserved : goal.loop-left-preserved
loop-left-preserved c =
    let place = c.loop-left.place in
    let left = c.loop-left.left in
    record {
      places =
          ap (λ ps. ps ++ every_third (place + 3) (left - 1)) c.in_ok-push.ensures.items
          ∙ append_assoc c.loop-left.places.items (place ∷ []) (every_third (place + 3) (left - 1))
          ∙ ap (λ ps. c.loop-left.places.items ++ ps) (sym (thirds_next place left c.loop-left-test.true))
          ∙ c.loop-left.invariant.places;
      room = omega (arith, c.loop-left.invariant.room, c.loop-left-test.true);
    }
