-- One number more.
use Rattle.std.proofs.Common.{◌≡◌, ◌+◌, ◌-◌, ◌∷◌, ◌++◌, [], ap, arith, sym, ◌∙◌, to_z, of_z}
use Rattle.std.specs.Int.{w128}
use Rattle.std.proofs.lemmas.Int.{ints, to_z-of_z}
use Rattle.au_codes.specs.Codes.{Cells}
use Rattle.au_folds.specs.Packed.{high_part, low_part, unpacked}
use Rattle.std.proofs.Common.{append_assoc}
use Rattle.au_folds.proofs.PackedLaws.{next_is}
use Rattle.au_folds.proofs.packed.unpacked_list.Goals as goal

pub loop-preserved : goal.loop-preserved
loop-preserved c =
    let w = c.args.width in
    let d = c.args.deep in
    let i = c.loop.counter in
    let rest = to_z w128 c.loop.rest-bits in
    let done = c.loop.numbers.items in
    let low : c.push.new.self.items ≡ done ++ low_part w rest ∷ [] = search (arith, ints, to_z-of_z, c.low.ensures, c.push.ensures.items) in
    let high : to_z w128 (of_z w128 c.high-rest.result) ≡ high_part w rest = search (arith, ints, to_z-of_z, c.high-rest.ensures) in
    (λ j. low j ++ unpacked w (d - (i + 1)) (high j))
    ∙ append_assoc done (low_part w rest ∷ []) (unpacked w (d - (i + 1)) (high_part w rest))
    ∙ ap (λ (zs : Cells). done ++ zs) (sym (next_is w d i rest c.loop-test.true))
    ∙ c.loop.invariant
