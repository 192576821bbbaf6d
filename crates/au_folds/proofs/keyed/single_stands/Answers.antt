-- No key is there twice, so an equal one is the only one.
use Rattle.std.proofs.Common.{◌≡◌, ◌<◌, ◌∷◌, [], ◌∙◌, List, ap, get_or, length, of_z, subst, sym, to_z, true, ℤ, pos, arith}
use Rattle.std.specs.Int.{w128}
use Rattle.std.specs.Ordering.{int_eq}
use Rattle.std.proofs.lemmas.Int.{ints, to_z-of_z}
use Rattle.std.proofs.lemmas.List.{get_or_default}
use Rattle.au_codes.specs.CellMeaning.{same_cells}
use Rattle.au_folds.proofs.KeySets.{equal_single, single_is, stands}
use Rattle.au_folds.proofs.keyed.single_stands.Goals as goal

pub returns-then-place-keys : goal.returns-then-place-keys
returns-then-place-keys c = λ yes.
    let ks = c.as_slice-keys.result.now in
    let keys = c.as_slice-keys.ensures.keys in
    let place = c.args.place in
    let key = c.args.key in
    let z = get_or ks place (pos 0) in
    let kept : to_z w128 (of_z w128 z) ≡ z = search (arith, ints, to_z-of_z) in
    let own : to_z w128 (of_z w128 key) ≡ key = to_z-of_z w128 key c.ranges.key in
    let equal : int_eq z key ≡ true = sym (λ i. int_eq (kept i) (own i)) ∙ sym c.are_equal.ensures ∙ yes in
    let below : place < length ks = c.if-place-keys.true in
    let same : same_cells (key ∷ []) (z ∷ []) ≡ true = equal_single z key equal in
    let is : z ≡ get_or ks place z = get_or_default ks place (pos 0) z below in
    stands (λ (n : ℤ). n ∷ []) int_eq single_is (key ∷ []) c.args.known.now.keys place z c.as_slice-keys.ensures.unique
    (subst (λ (xs : List ℤ). place < length xs) keys below) (is ∙ ap (λ (xs : List ℤ). get_or xs place z) keys) same
