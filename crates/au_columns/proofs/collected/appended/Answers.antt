-- One column more.
use Rattle.std.proofs.Common.{◌≡◌, ◌<◌, ◌++◌, [], ap, arith, get_or, length, map, set, sym, ◌∙◌}
use Rattle.std.proofs.lemmas.List.{get_or-map, get_or_read, length-map}
use Rattle.au_columns.proofs.Joined.{joined_next, length_joined}
use Rattle.au_columns.proofs.collected.appended.Goals as goal

pub index_mut-requires : goal.index_mut-requires
index_mut-requires c =
    let made = c.loop-place.made in
    let as_many = length_joined c.loop-place.place c.args.columns.items (map (λ a. a.value) c.args.more.now) in
    let len : length made.items ≡ length c.args.more.now = ap length c.loop-place.invariant ∙ as_many ∙ c.requires in
    rw (made.ok.0, len) c.loop-place-test.true

pub loop-place-preserved : goal.loop-place-preserved
loop-place-preserved c =
    let made = c.loop-place.made in
    let n = c.loop-place.place in
    let cs = c.args.columns.items in
    let more = c.args.more.now in
    let ds = map (λ a. a.value) more in
    let x = c.index_mut.result.now in
    let y = c.index-more-place.result in
    let below : n < length cs = omega (arith, c.requires, c.loop-place-test.true) in
    let within : n < length ds = omega (arith, length-map more (λ a. a.value), c.loop-place-test.true) in
    let len : length made.items ≡ length cs = ap length c.loop-place.invariant ∙ length_joined n cs ds in
    let there : n < length made.items = omega (arith, len, below) in
    let own : x ≡ get_or (made.items) n [] = get_or_read made.items n x there c.index_mut.ensures.value [] in
    let other : c.deref.result.now ≡ get_or ds n [] = c.deref.ensures ∙ ap (λ a. a.value) c.index-more-place.is ∙ sym (get_or-map (λ a. a.value) more n y [] c.loop-place-test.true) in
    let put : c.append.new.self ≡ get_or made.items n [] ++ get_or ds n [] = c.in_ok-append.ensures.put ∙ (λ j. own j ++ other j) in
    ap (set made.items n) put ∙ (λ j. set (c.loop-place.invariant j) n (get_or (c.loop-place.invariant j) n [] ++ get_or ds n [])) ∙ joined_next n cs ds below within
