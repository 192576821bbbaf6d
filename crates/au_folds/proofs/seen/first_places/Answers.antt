-- All places, in order.
use Rattle.std.proofs.Common.{◌<◌, ◌+◌, ◌≡◌, arith, sym, ◌∙◌}
use Rattle.std.specs.List.{range_with_len}
use Rattle.std.proofs.lemmas.List.{ext_get_or}
use Rattle.std.proofs.lemmas.List.FromFn.{get_or-range_with_len, length-range_with_len}
use Rattle.au_folds.proofs.seen.first_places.Goals as goal

pub returns : goal.returns
returns c =
    let places = c.loop-i.places.items in
    let count = c.args.count in
    let long = c.loop-i.invariant.long in
    ext_get_or 0 places (range_with_len 0 count) (long ∙ sym (length-range_with_len 0 count))
    (λ i below.
    let within : i < count = omega (arith, long, below) in
    let so_far : i < c.loop-i.i = omega (arith, within, c.loop-i-test.false) in
    let at : i ≡ 0 + i = omega arith in
    c.loop-i.invariant.each i so_far ∙ at ∙ sym (get_or-range_with_len 0 count i 0 within))
