-- No part is left.
use Rattle.std.proofs.Common.{◌≡◌, [], arith, length}
use Rattle.std.proofs.lemmas.List.{nil_from_length}
use Rattle.std.specs.Vec.Iter.{into_iter_items}
use Rattle.au_encode.proofs.PartsDecoded.{decoded_end}
use Rattle.au_encode.proofs.decoding_rows.gathered.Goals as goal

pub returns : goal.returns
returns c =
    let it = c.loop-part.part-iterator in
    let few : length (into_iter_items it) ≡ 0 = omega (arith, it.rest.ok, c.in-None.ensures.steps.0) in
    decoded_end c.args.parts.items (into_iter_items it) c.loop-part.rel (nil_from_length (into_iter_items it) few) c.loop-part.invariant
