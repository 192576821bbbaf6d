-- One number after the other.
use Rattle.std.proofs.Common.{◌≡◌, ◌<◌, ◌+◌, ℤ, true, false, ap, arith, drop, length, pos, sym, ◌∙◌, get_or, to_z, of_z}
use Rattle.std.specs.Int.{w128}
use Rattle.std.specs.Ordering.{int_eq}
use Rattle.std.proofs.lemmas.Int.{ints, to_z-of_z}
use Rattle.std.proofs.lemmas.List.{drop_more}
use Rattle.au_codes.specs.CellMeaning.{same_cells}
use Rattle.au_folds.specs.Packed.{high_part, low_part, unpacked}
use Rattle.au_folds.proofs.PackedLaws.{long_keys, next_alike, next_other, other_long}
use Rattle.au_folds.proofs.packed.holds_list.Goals as goal

pub returns-then-not-is_next : goal.returns-then-not-is_next
returns-then-not-is_next c =
    let w = c.args.width in
    let d = c.args.deep in
    let long = c.is_next.ensures in
    let no = c.if-not-is_next.true in
    let test = c.if-not-is_next.ensures in
    let own = long_keys w d c.args.packed in
    other_long c.args.key.now (unpacked w d c.args.packed) (λ same. let e : ⊥ = grind (arith, long, no, test, own, same) in e)

pub returns-then-not-are_equal : goal.returns-then-not-are_equal
returns-then-not-are_equal c =
    let key = c.args.key.now in
    let w = c.args.width in
    let d = c.args.deep in
    let i = c.loop-i.i in
    let rest = to_z w128 c.loop-i.rest-bits in
    let long = c.is_next.ensures in
    let no = c.if-not-is_next.false in
    let test = c.if-not-is_next.ensures in
    let within : i < d = c.loop-i-test.true in
    let count : length key ≡ d + 1 = grind (arith, long, no, test) in
    let below : i < length key = omega (arith, count, within) in
    let x = get_or key i (pos 0) in
    let low : to_z w128 (of_z w128 c.low.result) ≡ low_part w rest = search (arith, ints, to_z-of_z, c.low.ensures) in
    let own : to_z w128 (of_z w128 x) ≡ x = search (arith, ints, to_z-of_z) in
    let other : int_eq x (low_part w rest) ≡ false = sym (λ j. int_eq (own j) (low j)) ∙ sym c.are_equal.ensures ∙ c.if-not-are_equal.true in
    next_other (same_cells key (unpacked w d (to_z w128 (of_z w128 c.args.packed)))) (drop i key) x w d i rest c.loop-i.invariant (drop (i + 1) key) within (drop_more key i (pos 0) below) other
    ∙ ap (λ (k : ℤ). same_cells key (unpacked w d k)) (to_z-of_z w128 c.args.packed c.ranges.packed)

pub loop-i-preserved : goal.loop-i-preserved
loop-i-preserved c =
    let key = c.args.key.now in
    let w = c.args.width in
    let d = c.args.deep in
    let i = c.loop-i.i in
    let rest = to_z w128 c.loop-i.rest-bits in
    let long = c.is_next.ensures in
    let no = c.if-not-is_next.false in
    let test = c.if-not-is_next.ensures in
    let within : i < d = c.loop-i-test.true in
    let count : length key ≡ d + 1 = grind (arith, long, no, test) in
    let below : i < length key = omega (arith, count, within) in
    let x = get_or key i (pos 0) in
    let low : to_z w128 (of_z w128 c.low.result) ≡ low_part w rest = search (arith, ints, to_z-of_z, c.low.ensures) in
    let own : to_z w128 (of_z w128 x) ≡ x = search (arith, ints, to_z-of_z) in
    let equal : int_eq x (low_part w rest) ≡ true = sym (λ j. int_eq (own j) (low j)) ∙ sym c.are_equal.ensures ∙ c.if-not-are_equal.false in
    let high : to_z w128 (of_z w128 c.high-rest.result) ≡ high_part w rest = search (arith, ints, to_z-of_z, c.high-rest.ensures) in
    next_alike (same_cells key (unpacked w d (to_z w128 (of_z w128 c.args.packed)))) (drop i key) x w d i rest c.loop-i.invariant (drop (i + 1) key) (to_z w128 (of_z w128 c.high-rest.result)) within (drop_more key i (pos 0) below) equal high
