-- One key more.
use Rattle.std.proofs.Common.{◌≡◌, ◌∷◌, [], ◌+◌, drop, get_or, pos, ap, ◌∙◌, arith, to_z, of_z, ℤ}
use Rattle.std.specs.Int.{w128}
use Rattle.std.proofs.lemmas.Int.{ints, to_z-of_z}
use Rattle.std.proofs.lemmas.List.{drop_more}
use Rattle.au_folds.specs.Keyed.{singles}
use Rattle.au_folds.specs.Places.{place_of, places_among, seen_after, seen_with}
use Rattle.au_folds.proofs.KeyRows.{place_step, seen_step}
use Rattle.au_folds.proofs.keyed.single_places.Goals as goal

pub loop-key-preserved : goal.loop-key-preserved
loop-key-preserved c =
    let keys = c.args.keys.now in
    let i = c.loop-key.key-index in
    let z = get_or keys i (pos 0) in
    let kept : to_z w128 (of_z w128 z) ≡ z = search (arith, ints, to_z-of_z) in
    let first = singles c.args.known.now.keys in
    let seen = singles c.loop-key.known.keys in
    let more = singles c.single_place.new.known.keys in
    let left = singles (drop i keys) in
    let later = singles (drop (i + 1) keys) in
    let is : left ≡ (z ∷ []) ∷ later = ap singles (drop_more keys i (pos 0) c.loop-key-test.true) in
    let grown : more ≡ seen_with seen (z ∷ []) = c.in_ok-recent.ensures.seen ∙ ap (λ (n : ℤ). seen_with seen (n ∷ [])) kept in
    let place : c.in_ok-recent.recent ≡ place_of seen (z ∷ []) = c.in_ok-recent.ensures.place ∙ ap (λ (n : ℤ). place_of seen (n ∷ [])) kept in
    record {
      places = place_step seen more (z ∷ []) left later is grown c.loop-key.places.items c.push.new.self.items (places_among first (singles keys)) c.in_ok-recent.recent place c.in_ok-push.ensures.items c.loop-key.invariant.places;
      seen = seen_step seen more (z ∷ []) left later is grown (seen_after first (singles keys)) c.loop-key.invariant.seen;
    }
