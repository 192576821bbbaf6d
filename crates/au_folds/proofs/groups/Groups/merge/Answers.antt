-- Both tables.
use Rattle.std.proofs.Common.{◌≡◌, [], List, ap, length, map, subst, sym, ◌∙◌, ℕ}
use Rattle.std.specs.List.{AllByRecursion}
use Rattle.std.specs.Vec.{with_items}
use Rattle.std.proofs.lemmas.List.{length-map, with_items_is}
use Rattle.au_expr.specs.Figures.{fit}
use Rattle.au_codes.specs.Codes.{CellRows}
use Rattle.au_folds.specs.declared.fold.Fold.{Fold}
use Rattle.au_folds.specs.Held.{held_table, kept_in, kept_in_all}
use Rattle.au_folds.specs.Kept.{Kept, kept_values}
use Rattle.au_folds.specs.Keyed.{key_cells, key_places}
use Rattle.au_folds.specs.Merged.{Alike, agg_of, joined_all, merged}
use Rattle.au_folds.specs.Places.{places_among, seen_after}
use Rattle.au_folds.specs.Tables.{Table, table_numbers, table_with}
use Rattle.au_folds.proofs.KeyRows.{places_long}
use Rattle.au_folds.proofs.PutLaws.{handed}
use Rattle.au_folds.proofs.TableShapes.{joined_long, merged_is_table}
use Rattle.au_folds.proofs.groups.Groups.merge.Goals as goal

pub key_set_places-requires : goal.key_set_places-requires
key_set_places-requires c =
    let own = c.self.inside.seen in
    let other = c.second.inside.seen in
    let same : key_places other ≡ key_places own = ap (λ (t : Table). t.keys) c.second.view_is ∙ c.requires.keys ∙ sym (ap (λ (t : Table). t.keys) c.self.view_is) in
    let wide = subst (λ (n : ℕ). AllByRecursion (λ key. length key ≡ n) (key_cells other)) (ap length same) c.second.invariant.wide in
    subst (λ (rows : CellRows). AllByRecursion (λ key. length key ≡ length (key_places own)) rows) (sym c.in_ok-keys.ensures) wide

pub join_all-requires-clause-alike : goal.join_all-requires-clause-alike
join_all-requires-clause-alike c =
    ap (λ (fs : List Fold). map agg_of (kept_in_all fs)) c.deref.ensures.value
    ∙ ap (λ (t : Table). map agg_of t.kept) c.second.view_is
    ∙ c.requires.aggs
    ∙ sym (ap (λ (t : Table). map agg_of t.kept) c.self.view_is)
    ∙ sym (ap (λ (fs : List Fold). map agg_of (kept_in_all fs)) c.deref_mut.ensures.value)

pub join_all-requires-clause-long : goal.join_all-requires-clause-long
join_all-requires-clause-long c =
    let other = c.second.inside.seen in
    let long : length c.deref-2.result.now ≡ length (key_cells other) =
    ap length (c.deref-2.ensures.value ∙ c.in_ok-places.ensures.places) ∙ places_long (key_cells c.self.inside.seen) c.in_ok-keys.keys ∙ ap length c.in_ok-keys.ensures in
    let whole = subst (λ (n : ℕ). AllByRecursion (λ k. length (kept_values k) ≡ n) (kept_in_all c.second.inside.folds.items)) (sym long) c.second.invariant.whole in
    subst (λ (fs : List Fold). AllByRecursion (λ k. length (kept_values k) ≡ length c.deref-2.result.now) (kept_in_all fs)) (sym c.deref.ensures.value) whole

pub returns-in_err-join_all : goal.returns-in_err-join_all
returns-in_err-join_all c =
    let places = c.deref-2.ensures.value ∙ c.in_ok-places.ensures.places ∙ ap (places_among (key_cells c.self.inside.seen)) c.in_ok-keys.ensures in
    let folds = c.deref_mut.ensures.value in
    let others = c.deref.ensures.value in
    let one = ap (λ (t : Table). fit (table_numbers (merged t c.args.second))) (sym c.self.view_is) in
    let two = ap (λ (u : Table). fit (table_numbers (merged (held_table c.self.inside.seen c.self.inside.folds.items) u))) (sym c.second.view_is) in
    handed c.from_residual-in_err-join_all.result _ c.in_err-join_all.field-0.0 _ c.from_residual-in_err-join_all.ensures.1
    (λ over.
    one
    ∙ two
    ∙ (λ i. fit (table_numbers (table_with [] [] (joined_all (sym places i) (kept_in_all (sym folds i)) (kept_in_all (sym others i))))))
    ∙ c.in_err-join_all.ensures over)

pub invariant_of-result : goal.invariant_of-result
invariant_of-result c =
    let own = c.self.inside.seen in
    let held = c.self.inside.folds in
    let first = held_table own held.items in
    let second = held_table c.second.inside.seen c.second.inside.folds.items in
    let places = c.deref-2.ensures.value ∙ c.in_ok-places.ensures.places ∙ ap (places_among (key_cells own)) c.in_ok-keys.ensures in
    let folds = c.deref_mut.ensures.value in
    let others = c.deref.ensures.value in
    let kept = c.in_ok-join_all.ensures.0 ∙ (λ i. joined_all (places i) (kept_in_all (folds i)) (kept_in_all (others i))) in
    let more = c.join_all.new.folds in
    let long : length more ≡ held.len = sym (length-map more kept_in) ∙ ap length kept ∙ joined_long _ (kept_in_all held.items) _ ∙ length-map held.items kept_in ∙ sym held.ok.0 in
    let whole : kept_in_all (with_items held more).items ≡ kept_in_all more = ap kept_in_all (with_items_is held more long) in
    let seen = c.in_ok-places.ensures.seen ∙ ap (seen_after (key_cells own)) c.in_ok-keys.ensures in
    let alike = subst (λ (t : Table). Alike t second) (sym c.self.view_is) (subst (λ (u : Table). Alike c.args.self u) (sym c.second.view_is) c.requires) in
    merged_is_table first second (held_table c.key_set_places.new.seen (with_items held more).items) c.self.invariant c.second.invariant alike
    (λ i. table_with (c.in_ok-places.ensures.keys i) (seen i) ((whole ∙ kept) i))
    (ap (λ (ks : List Kept). fit (table_numbers (table_with [] [] ks))) whole ∙ c.in_ok-join_all.ensures.1)
