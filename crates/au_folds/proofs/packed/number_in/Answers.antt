-- One number less before it.
use Rattle.std.proofs.Common.{◌≡◌, ◌<◌, ◌+◌, ◌-◌, ℤ, suc, ap, arith, sym, ◌∙◌, to_z, of_z}
use Rattle.std.specs.Int.{w128}
use Rattle.std.proofs.lemmas.Int.{ints, to_z-of_z}
use Rattle.au_columns.specs.Steps.{number_at}
use Rattle.au_folds.specs.Packed.{high_part, low_part, unpacked}
use Rattle.au_folds.proofs.PackedLaws.{next_is, none_past}
use Rattle.au_folds.proofs.packed.number_in.Goals as goal

pub returns-then-place-deep : goal.returns-then-place-deep
returns-then-place-deep c = sym (none_past c.args.width c.args.deep c.args.key c.args.place c.if-place-deep.true)

pub loop-preserved : goal.loop-preserved
loop-preserved c =
    let w = c.args.width in
    let d = c.args.deep in
    let k = c.args.place in
    let i = c.loop.counter in
    let rest = to_z w128 c.loop.rest-bits in
    let within : i < k = c.loop-test.true in
    let past = c.if-place-deep.false in
    let below : i < d = omega (arith, within, past) in
    let one : k - i ≡ suc (k - (i + 1)) = omega (arith, within) in
    let high : to_z w128 (of_z w128 c.high-rest.result) ≡ high_part w rest = search (arith, ints, to_z-of_z, c.high-rest.ensures) in
    ap (λ (p : ℤ). number_at (unpacked w (d - (i + 1)) p) (k - (i + 1))) high
    ∙ sym (λ j. number_at (next_is w d i rest below j) (one j))
    ∙ c.loop.invariant

pub returns-then-place-deep-2 : goal.returns-then-place-deep-2
returns-then-place-deep-2 c =
    let w = c.args.width in
    let d = c.args.deep in
    let k = c.args.place in
    let i = c.loop.counter in
    let rest = to_z w128 c.loop.rest-bits in
    let ends = c.loop-test.false in
    let less = c.if-place-deep-2.true in
    let auto = c.loop.auto.counter-end in
    let same : i ≡ k = omega (arith, ends, auto) in
    let below : i < d = omega (arith, same, less) in
    let none : k - i ≡ 0 = omega (arith, same) in
    let low : to_z w128 (of_z w128 c.low.result) ≡ low_part w rest = search (arith, ints, to_z-of_z, c.low.ensures) in
    low
    ∙ sym (λ j. number_at (next_is w d i rest below j) (none j))
    ∙ c.loop.invariant
    ∙ ap (λ (p : ℤ). number_at (unpacked w d p) k) (to_z-of_z w128 c.args.key c.ranges.key)
