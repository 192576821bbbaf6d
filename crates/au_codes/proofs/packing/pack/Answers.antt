-- What is read so far is no greater than the front.
use Rattle.std.proofs.Common.{arith}
use Rattle.au_codes.proofs.Fronts.{bytes_from, next_byte, packed_within}
use Rattle.au_codes.proofs.packing.pack.Goals as goal

pub overflow_mul-number : goal.overflow_mul-number
overflow_mul-number c =
    let low = packed_within c.loop-place.place c.loop-place.number c.args.text.now (bytes_from c.args.text.now (λ k. (c.type_inv.text k).fits)) c.loop-place.invariant in
    omega (arith, low)

pub overflow_add-number : goal.overflow_add-number
overflow_add-number c =
    let low = packed_within c.loop-place.place c.loop-place.number c.args.text.now (bytes_from c.args.text.now (λ k. (c.type_inv.text k).fits)) c.loop-place.invariant in
    let byte = (c.type_inv.text c.loop-place.place).fits in
    let is = c.byte_at.ensures in
    omega (arith, low, byte, is)

pub loop-place-preserved : goal.loop-place-preserved
loop-place-preserved c = next_byte c.loop-place.place c.loop-place.number c.byte_at.result c.args.text.now c.loop-place-test.true c.byte_at.ensures c.loop-place.invariant

pub returns-clause-small : goal.returns-clause-small
returns-clause-small c = packed_within c.loop-place.place c.loop-place.number c.args.text.now (bytes_from c.args.text.now (λ k. (c.type_inv.text k).fits)) c.loop-place.invariant
