-- The units of the digits before and behind the point, added.
use Rattle.std.proofs.Common.{◌+◌, ◌-◌, ◌≤◌, sym, arith, length, drop}
use Rattle.std.proofs.lemmas.List.{take_all, length-drop}
use Rattle.au_value.proofs.Decimals.{units-reads}
use Rattle.au_value.proofs.decimal.units.Goals as goal

pub returns-in-Some : goal.returns-in-Some
returns-in-Some c =
    let text = c.args.text.now in
    let i = c.in-Some.point in
    let first = rw c.without_minus-in-Some.ensures at c.with_zeros-in-Some.ensures in
    let short : length (drop (i + 1) text) ≤ length text - (i + 1) = omega (arith, length-drop (i + 1) text) in
    let all = take_all (length text - (i + 1)) (drop (i + 1) text) short in
    rw c.sum.ensures (units-reads text _ c.args.scale i _ _ (sym c.in-Some.ensures) all first c.fraction.ensures)
