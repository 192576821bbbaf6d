-- Keys that stand in columns are the keys.
use Rattle.std.proofs.Common.{◌≡◌, ap, length, map, subst, sym, ◌∙◌, ℕ}
use Rattle.std.specs.List.{AllByRecursion, range_with_len}
use Rattle.au_columns.specs.Batches.{rows_of}
use Rattle.au_folds.specs.declared.seen.Seen.{Seen}
use Rattle.au_folds.specs.Kept.{column_of}
use Rattle.au_folds.specs.Keyed.{key_cells, key_lists, key_places, lists, singles}
use Rattle.au_folds.specs.Places.{places_among, seen_after}
use Rattle.au_folds.proofs.KeyRows.{keys_are, single_keys, whole_keys}
use Rattle.au_folds.proofs.seen.key_set_places.Goals as goal

pub returns-in_ok-places-in-One-clause-places : goal.returns-in_ok-places-in-One-clause-places
returns-in_ok-places-in-One-clause-places c =
    let keys = c.args.keys.now in
    let wide = subst (λ (s : Seen). AllByRecursion (λ key. length key ≡ length (key_places s)) keys) c.in-One.is c.requires in
    let are : singles c.deref.result.now ≡ keys = ap singles (c.deref.ensures.value ∙ c.in_ok-numbers-in-One.ensures) ∙ single_keys 0 keys ∙ whole_keys 1 keys wide in
    c.in_ok-places-in-One.ensures.places
    ∙ ap (places_among (singles c.in-One.known.keys)) are
    ∙ sym (ap (λ (s : Seen). places_among (key_cells s) keys) c.in-One.is)

pub returns-in_ok-places-in-One-clause-seen : goal.returns-in_ok-places-in-One-clause-seen
returns-in_ok-places-in-One-clause-seen c =
    let keys = c.args.keys.now in
    let wide = subst (λ (s : Seen). AllByRecursion (λ key. length key ≡ length (key_places s)) keys) c.in-One.is c.requires in
    let are : singles c.deref.result.now ≡ keys = ap singles (c.deref.ensures.value ∙ c.in_ok-numbers-in-One.ensures) ∙ single_keys 0 keys ∙ whole_keys 1 keys wide in
    c.in_ok-places-in-One.ensures.seen
    ∙ ap (seen_after (singles c.in-One.known.keys)) are
    ∙ sym (ap (λ (s : Seen). seen_after (key_cells s) keys) c.in-One.is)

pub returns-in_ok-found-in-Several-clause-places : goal.returns-in_ok-found-in-Several-clause-places
returns-in_ok-found-in-Several-clause-places c =
    let keys = c.args.keys.now in
    let all = c.in_ok-all-in-Several.all.items in
    let n = length c.in-Several.places.items in
    let wide = subst (λ (s : Seen). AllByRecursion (λ key. length key ≡ length (key_places s)) keys) c.in-Several.is c.requires in
    let columns : lists c.deref-in-Several-2.result.now ≡ map (λ p. column_of p keys) all =
    ap lists c.deref-in-Several-2.ensures.value ∙ c.in_ok-columns-in-Several.ensures ∙ ap (map (λ (p : ℕ). column_of p keys)) c.deref-in-Several.ensures.value in
    let range : all ≡ range_with_len 0 n = c.in_ok-all-in-Several.ensures ∙ ap (range_with_len 0) (c.len.ensures ∙ c.in-Several.places.ok.0) in
    let are : rows_of c.len-in-Several.result (lists c.deref-in-Several-2.result.now) ≡ keys =
    ap (rows_of c.len-in-Several.result) (columns ∙ ap (map (λ (p : ℕ). column_of p keys)) range)
    ∙ keys_are (range_with_len 0 n) keys c.len-in-Several.result c.len-in-Several.ensures
    ∙ whole_keys n keys wide in
    c.in_ok-found-in-Several.ensures.places
    ∙ ap (places_among (key_lists c.in-Several.known)) are
    ∙ sym (ap (λ (s : Seen). places_among (key_cells s) keys) c.in-Several.is)

pub returns-in_ok-found-in-Several-clause-seen : goal.returns-in_ok-found-in-Several-clause-seen
returns-in_ok-found-in-Several-clause-seen c =
    let keys = c.args.keys.now in
    let all = c.in_ok-all-in-Several.all.items in
    let n = length c.in-Several.places.items in
    let wide = subst (λ (s : Seen). AllByRecursion (λ key. length key ≡ length (key_places s)) keys) c.in-Several.is c.requires in
    let columns : lists c.deref-in-Several-2.result.now ≡ map (λ p. column_of p keys) all =
    ap lists c.deref-in-Several-2.ensures.value ∙ c.in_ok-columns-in-Several.ensures ∙ ap (map (λ (p : ℕ). column_of p keys)) c.deref-in-Several.ensures.value in
    let range : all ≡ range_with_len 0 n = c.in_ok-all-in-Several.ensures ∙ ap (range_with_len 0) (c.len.ensures ∙ c.in-Several.places.ok.0) in
    let are : rows_of c.len-in-Several.result (lists c.deref-in-Several-2.result.now) ≡ keys =
    ap (rows_of c.len-in-Several.result) (columns ∙ ap (map (λ (p : ℕ). column_of p keys)) range)
    ∙ keys_are (range_with_len 0 n) keys c.len-in-Several.result c.len-in-Several.ensures
    ∙ whole_keys n keys wide in
    c.in_ok-found-in-Several.ensures.seen
    ∙ ap (seen_after (key_lists c.in-Several.known)) are
    ∙ sym (ap (λ (s : Seen). seen_after (key_cells s) keys) c.in-Several.is)
