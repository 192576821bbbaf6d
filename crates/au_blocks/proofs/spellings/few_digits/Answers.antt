-- Eighteen digits write a number of 64 bits.
use Rattle.std.proofs.Common.{◌<◌, length, arith}
use Rattle.au_blocks.proofs.FewDigits.{all-read, few-below}
use Rattle.au_blocks.proofs.spellings.few_digits.Goals as goal

pub overflow_mul-number : goal.overflow_mul-number
overflow_mul-number c =
    let few = c.if-text-gt18.false in
    let low = few-below c.loop-byte.number c.loop-byte.byte-index c.loop-byte.invariant.low (omega (arith, few, c.loop-byte-test.true)) in
    grind (arith, low)

pub overflow_add-number : goal.overflow_add-number
overflow_add-number c =
    let few = c.if-text-gt18.false in
    let low = few-below c.loop-byte.number c.loop-byte.byte-index c.loop-byte.invariant.low (omega (arith, few, c.loop-byte-test.true)) in
    grind (arith, low, c.is_ascii_digit.ensures.value, c.if-not-is_ascii_digit.false)

pub returns : goal.returns
returns c =
    let some : 0 < length c.args.text.now = grind (arith, c.is_empty.ensures, c.if-is_empty.false) in
    let so_far = c.loop-byte.invariant in
    all-read c.args.text.now c.loop-byte.number c.loop-byte.byte-index some c.if-text-gt18.false c.loop-byte.auto.byte-index-end c.loop-byte-test.false so_far.low so_far.value so_far.digits
