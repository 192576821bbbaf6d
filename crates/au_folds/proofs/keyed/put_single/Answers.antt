-- The keys as rows of one number each.
use Rattle.std.proofs.Common.{◌∷◌, [], ap, ◌∙◌, ℤ}
use Rattle.std.specs.Int.{w128}
use Rattle.std.specs.List.{position_or_len}
use Rattle.std.specs.Ordering.{int_eq}
use Rattle.std.proofs.lemmas.Int.{to_z-of_z}
use Rattle.indexmap.specs.IndexSet.{insert_key}
use Rattle.au_folds.specs.Keyed.{singles}
use Rattle.au_folds.proofs.KeySets.{insert_is, place_is, single_is}
use Rattle.au_folds.proofs.keyed.put_single.Goals as goal

pub returns-clause-place : goal.returns-clause-place
returns-clause-place c =
    let key = c.args.key in
    let known = c.args.known.now.keys in
    c.in_ok-place.ensures.index
    ∙ ap (λ (z : ℤ). position_or_len (int_eq z) known) (to_z-of_z w128 key c.ranges.key)
    ∙ place_is (λ (z : ℤ). z ∷ []) (int_eq key) (key ∷ []) (single_is key) known

pub returns-clause-seen : goal.returns-clause-seen
returns-clause-seen c =
    let key = c.args.key in
    let known = c.args.known.now.keys in
    ap singles (c.in_ok-place.ensures.keys ∙ ap (insert_key int_eq known) (to_z-of_z w128 key c.ranges.key))
    ∙ insert_is (λ (z : ℤ). z ∷ []) int_eq single_is known key
