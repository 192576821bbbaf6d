-- What is left of the places decides.
use Rattle.std.proofs.Common.{◌≡◌, [], drop, get_or}
use Rattle.au_settled.specs.Places.{cells_order}
use Rattle.au_settled.proofs.order.compare.Given as goal

abbrev pub invariant-loop-key : goal.invariant-loop-key
invariant-loop-key l =
    cells_order (drop l.key-index l.keys) (get_or l.rows l.a []) (get_or l.rows l.b []) ≡ cells_order l.keys (get_or l.rows l.a []) (get_or l.rows l.b [])
