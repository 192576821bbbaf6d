-- The digits are cut where there are enough, and else filled.
use Rattle.std.proofs.Common.{arith, ◌∙◌}
use Rattle.au_print.proofs.FixedPoint.{cut_behind, filled_behind}
use Rattle.au_print.proofs.fixed.push_units.Goals as goal

pub returns-in_ok-extend_from_slice-2 : goal.returns-in_ok-extend_from_slice-2
returns-in_ok-extend_from_slice-2 c =
    let is = c.as_bytes-digits.ensures.value ∙ c.format.ensures.text in
    cut_behind c.args.text.now.items c.as_bytes-digits.result.now c.args.scale c.args.n is (omega (arith, c.requires)) _ _ _ _ _
    (omega (arith, c.if-places-digits.true, c.as_bytes-digits.ensures.len)) c.split_at.ensures.front c.split_at.ensures.back
    c.in_ok-extend_from_slice.ensures.items c.in_ok-push.ensures.items c.in_ok-extend_from_slice-2.ensures.items

pub returns-in_ok-extend_from_slice-4 : goal.returns-in_ok-extend_from_slice-4
returns-in_ok-extend_from_slice-4 c =
    let is = c.as_bytes-digits.ensures.value ∙ c.format.ensures.text in
    filled_behind c.args.text.now.items c.as_bytes-digits.result.now c.args.scale c.args.n is (omega (arith, c.requires)) _ _ _
    (omega (arith, c.if-places-digits.false, c.as_bytes-digits.ensures.len))
    c.in_ok-extend_from_slice-3.ensures.items c.in_ok-push_repeated.ensures c.in_ok-extend_from_slice-4.ensures.items
