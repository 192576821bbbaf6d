-- The keys are those of the rows.
use Rattle.std.proofs.Common.{◌≡◌, ◌∷◌, [], ap, map, sym, ◌∙◌, ℕ}
use Rattle.au_columns.specs.Batches.{rows_of}
use Rattle.au_folds.specs.declared.seen.Seen.{Seen}
use Rattle.au_folds.specs.Kept.{column_of}
use Rattle.au_folds.specs.Keyed.{key_cells, key_lists, key_places, lists, singles}
use Rattle.au_folds.specs.Places.{places_among, seen_after}
use Rattle.au_folds.specs.Tables.{keys_of}
use Rattle.au_folds.proofs.KeyRows.{keys_are, single_keys}
use Rattle.au_folds.proofs.seen.row_places.Goals as goal

pub returns-in_ok-places-in-One-clause-places : goal.returns-in_ok-places-in-One-clause-places
returns-in_ok-places-in-One-clause-places c =
    let rows = c.args.rows.now in
    let place = c.in-One.place in
    let keys : singles c.deref.result.now ≡ keys_of (place ∷ []) rows = ap singles (c.deref.ensures.value ∙ c.in_ok-keys-in-One.ensures) ∙ single_keys place rows in
    c.in_ok-places-in-One.ensures.places
    ∙ ap (places_among (singles c.in-One.known.keys)) keys
    ∙ sym (ap (λ (s : Seen). places_among (key_cells s) (keys_of (key_places s) rows)) c.in-One.is)

pub returns-in_ok-places-in-One-clause-seen : goal.returns-in_ok-places-in-One-clause-seen
returns-in_ok-places-in-One-clause-seen c =
    let rows = c.args.rows.now in
    let place = c.in-One.place in
    let keys : singles c.deref.result.now ≡ keys_of (place ∷ []) rows = ap singles (c.deref.ensures.value ∙ c.in_ok-keys-in-One.ensures) ∙ single_keys place rows in
    c.in_ok-places-in-One.ensures.seen
    ∙ ap (seen_after (singles c.in-One.known.keys)) keys
    ∙ sym (ap (λ (s : Seen). seen_after (key_cells s) (keys_of (key_places s) rows)) c.in-One.is)

pub returns-in_ok-found-in-Several-clause-places : goal.returns-in_ok-found-in-Several-clause-places
returns-in_ok-found-in-Several-clause-places c =
    let rows = c.args.rows.now in
    let places = c.in-Several.places.items in
    let columns : lists c.deref-in-Several-2.result.now ≡ map (λ p. column_of p rows) places =
    ap lists c.deref-in-Several-2.ensures.value ∙ c.in_ok-columns-in-Several.ensures ∙ ap (map (λ (p : ℕ). column_of p rows)) c.deref-in-Several.ensures.value in
    let keys : rows_of c.len.result (lists c.deref-in-Several-2.result.now) ≡ keys_of places rows = ap (rows_of c.len.result) columns ∙ keys_are places rows c.len.result c.len.ensures in
    c.in_ok-found-in-Several.ensures.places
    ∙ ap (places_among (key_lists c.in-Several.known)) keys
    ∙ sym (ap (λ (s : Seen). places_among (key_cells s) (keys_of (key_places s) rows)) c.in-Several.is)

pub returns-in_ok-found-in-Several-clause-seen : goal.returns-in_ok-found-in-Several-clause-seen
returns-in_ok-found-in-Several-clause-seen c =
    let rows = c.args.rows.now in
    let places = c.in-Several.places.items in
    let columns : lists c.deref-in-Several-2.result.now ≡ map (λ p. column_of p rows) places =
    ap lists c.deref-in-Several-2.ensures.value ∙ c.in_ok-columns-in-Several.ensures ∙ ap (map (λ (p : ℕ). column_of p rows)) c.deref-in-Several.ensures.value in
    let keys : rows_of c.len.result (lists c.deref-in-Several-2.result.now) ≡ keys_of places rows = ap (rows_of c.len.result) columns ∙ keys_are places rows c.len.result c.len.ensures in
    c.in_ok-found-in-Several.ensures.seen
    ∙ ap (seen_after (key_lists c.in-Several.known)) keys
    ∙ sym (ap (λ (s : Seen). seen_after (key_cells s) (keys_of (key_places s) rows)) c.in-Several.is)
