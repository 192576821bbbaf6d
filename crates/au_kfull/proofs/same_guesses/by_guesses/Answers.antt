-- One row more is one more key, if it is new, and one more row of its group.
use Rattle.std.proofs.Common.{◌≡◌, ◌∙◌, ap, arith, take}
use Rattle.std.specs.List.{position_or_len}
use Rattle.std.proofs.lemmas.List.{length-map}
use Rattle.indexmap.specs.IndexSet.{insert_key}
use Rattle.au_value.specs.Ranges.{guesses}
use Rattle.au_algebra.specs.Bounded.{RangeRow}
use Rattle.au_algebra.specs.Keys.{key_values, with_item_at}
use Rattle.au_algebra.specs.Lists.{same_row}
use Rattle.au_kfull.specs.Keys.{keys_of}
use Rattle.au_kfull.specs.SameGuesses.{groups_held}
use Rattle.au_kfull.proofs.CombineRows.{groups_next, keys_next, place_within}
use Rattle.au_kfull.proofs.PutRows.{Held}
use Rattle.au_kfull.proofs.same_guesses.by_guesses.Goals as goal

pub put_row-requires : goal.put_row-requires
put_row-requires c =
    let key = λ (r : RangeRow). guesses (keys_of c.args.keys r.cells) in
    let groups = c.loop-row.groups in
    let keys = key_values c.loop-row.seen.keys in
    let far = place_within key (take c.loop-row.row-index c.args.rows.now) c.in_ok-guess.guess.items keys (groups_held groups.items) c.loop-row.invariant.keys c.loop-row.invariant.groups in
    let at : c.in_ok-place.place ≡ position_or_len (same_row c.in_ok-guess.guess.items) keys = c.in_ok-place.ensures.place in
    omega (arith, far, at, length-map groups.items (λ (g : Held). g.items), groups.ok.0)

pub loop-row-preserved : goal.loop-row-preserved
loop-row-preserved c =
    let key = λ (r : RangeRow). guesses (keys_of c.args.keys r.cells) in
    let rows = c.args.rows.now in
    let i = c.loop-row.row-index in
    let row = c.row-item.result in
    let keys = key_values c.loop-row.seen.keys in
    let groups = groups_held c.loop-row.groups.items in
    let guess : c.in_ok-guess.guess.items ≡ key row = c.in_ok-guess.ensures ∙ ap guesses c.keys_of.ensures ∙ ap (λ cells. guesses (keys_of c.args.keys cells)) c.cells.ensures in
    let at : c.in_ok-place.place ≡ position_or_len (same_row (key row)) keys = c.in_ok-place.ensures.place ∙ ap (λ g. position_or_len (same_row g) keys) guess in
    record {
      keys =
          c.in_ok-place.ensures.keys
          ∙ ap (insert_key same_row keys) guess
          ∙ keys_next key rows i row c.loop-row-test.true c.row-item.is keys c.loop-row.invariant.keys;
      groups =
          c.in_ok-put_row.ensures
          ∙ (λ j. with_item_at groups (at j) (c.again.ensures j))
          ∙ groups_next key rows i row c.loop-row-test.true c.row-item.is keys groups c.loop-row.invariant.keys c.loop-row.invariant.groups;
    }
