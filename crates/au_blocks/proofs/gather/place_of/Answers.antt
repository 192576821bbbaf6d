-- A label that is new, and one that is known.
use Rattle.au_blocks.proofs.LabelKeys.{known-tallies, new-tallies, was-known, was-new}
use Rattle.au_blocks.proofs.gather.place_of.Goals as goal

pub returns-in_ok-push-clause-tallies : goal.returns-in_ok-push-clause-tallies
returns-in_ok-push-clause-tallies g c =
    let new = was-new _ c.in_ok-place.new c.in_ok-place.ensures.added c.if-new.true in
    new-tallies _ c.args.tallies.now.items c.push.new.self.items new (rw c.nothing.ensures at c.in_ok-push.ensures.items)

pub returns-else-new-clause-tallies : goal.returns-else-new-clause-tallies
returns-else-new-clause-tallies g c =
    known-tallies _ c.args.tallies.now.items (was-known _ c.in_ok-place.new c.in_ok-place.ensures.added c.if-new.false)
