-- The place that the search found is that of the number as a row.
use Rattle.std.proofs.Common.{◌≡◌, ◌∷◌, [], ap, ◌∙◌, ℤ, to_z, of_z}
use Rattle.std.specs.Int.{w128}
use Rattle.std.specs.Ordering.{int_eq}
use Rattle.std.proofs.lemmas.Int.{to_z-of_z}
use Rattle.au_folds.proofs.KeySets.{finds, single_is}
use Rattle.au_folds.proofs.keys.single_found.Goals as goal

pub returns : goal.returns
returns c =
    let key = c.args.key in
    let held : ℤ = to_z w128 (of_z w128 key) in
    let is : held ≡ key = to_z-of_z w128 key c.ranges.key in
    finds (λ (z : ℤ). z ∷ []) (int_eq held) (key ∷ []) (λ (z : ℤ). ap (λ (k : ℤ). int_eq k z) is ∙ single_is key z) c.args.known.now.keys c.get_index_of.result c.get_index_of.ensures.index c.get_index_of.ensures.found
