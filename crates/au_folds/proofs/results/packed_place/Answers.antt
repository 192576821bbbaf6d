-- One number more.
use Rattle.std.proofs.Common.{◌≡◌, ◌+◌, ◌∷◌, ◌++◌, [], List, ap, append_assoc, arith, drop, get_or, map, of_z, pos, sym, to_z, ◌∙◌, ℤ}
use Rattle.std.specs.Int.{w128}
use Rattle.std.proofs.lemmas.Int.{ints, to_z-of_z}
use Rattle.std.proofs.lemmas.List.{drop_more}
use Rattle.au_codes.specs.Codes.{Cells}
use Rattle.au_columns.specs.Steps.{number_at}
use Rattle.au_folds.specs.Packed.{unpacked}
use Rattle.au_folds.proofs.results.packed_place.Goals as goal

pub loop-key-preserved : goal.loop-key-preserved
loop-key-preserved c =
    let keys = c.args.keys.now in
    let i = c.loop-key.key-index in
    let place = c.args.place in
    let u : ℤ → Cells = λ z. unpacked c.args.width c.args.deep z in
    let f : ℤ → ℤ = λ z. number_at (u z) place in
    let done = c.loop-key.column in
    let all : List ℤ → List ℤ = λ ks. map (λ (key : Cells). number_at key place) (map u ks) in
    let z = get_or keys i (pos 0) in
    let own : to_z w128 (of_z w128 z) ≡ z = search (arith, ints, to_z-of_z) in
    let kept : to_z w128 (of_z w128 c.number_in.result) ≡ c.number_in.result = search (arith, ints, to_z-of_z) in
    let number : to_z w128 (of_z w128 c.number_in.result) ≡ f z = kept ∙ c.number_in.ensures ∙ ap f own in
    (λ j. c.in_ok-push.ensures.put j ++ all (drop (i + 1) keys))
    ∙ append_assoc done (to_z w128 (of_z w128 c.number_in.result) ∷ []) (all (drop (i + 1) keys))
    ∙ ap (λ (n : ℤ). done ++ n ∷ all (drop (i + 1) keys)) number
    ∙ sym (ap (λ (ks : List ℤ). done ++ all ks) (drop_more keys i (pos 0) c.loop-key-test.true))
    ∙ c.loop-key.invariant
