-- Keys that are packed are found as their lists are.
use Rattle.std.proofs.Common.{◌≡◌, ap, map, subst, sym, ◌∙◌, ℤ, List}
use Rattle.std.specs.Prelude.{IfSome, Option, Vec}
use Rattle.std.specs.declared.alloc.Global.{Global}
use Rattle.au_codes.specs.Codes.{Cells}
use Rattle.au_columns.specs.Batches.{rows_of}
use Rattle.au_folds.specs.declared.held.KeyLists.{KeyLists}
use Rattle.au_folds.specs.Keyed.{key_lists, lists, singles}
use Rattle.au_folds.specs.Packed.{unpacked, width_of}
use Rattle.au_folds.specs.Places.{places_among, seen_after}
use Rattle.au_folds.proofs.PackedLaws.{places_packed, seen_packed}
use Rattle.au_folds.proofs.held.held_places.Goals as goal

pub returns-in_ok-places-in-Some-clause-places : goal.returns-in_ok-places-in-Some-clause-places
returns-in_ok-places-in-Some-clause-places c =
    let d = c.in-Packed.deep in
    let w = width_of d in
    let u : ℤ → Cells = λ z. unpacked w d z in
    let rows = rows_of c.args.count (lists c.args.columns.now) in
    let held = c.in-Packed.packed.keys in
    let keys = c.in-Some.keys.items in
    let are : map u keys ≡ rows = subst (λ (o : Option (Vec ℤ Global)). IfSome o (λ v. map u v.items ≡ rows)) c.in-Some.is c.in_ok-keys-in-Packed.ensures in
    c.in_ok-places-in-Some.ensures.places
    ∙ ap (λ (ks : List ℤ). places_among (singles held) (singles ks)) c.deref.ensures.value
    ∙ places_packed w d held keys
    ∙ ap (places_among (map u held)) are
    ∙ sym (ap (λ (k : KeyLists). places_among (key_lists k) rows) c.in-Packed.is)

pub returns-in_ok-places-in-Some-clause-seen : goal.returns-in_ok-places-in-Some-clause-seen
returns-in_ok-places-in-Some-clause-seen c =
    let d = c.in-Packed.deep in
    let w = width_of d in
    let u : ℤ → Cells = λ z. unpacked w d z in
    let rows = rows_of c.args.count (lists c.args.columns.now) in
    let held = c.in-Packed.packed.keys in
    let keys = c.in-Some.keys.items in
    let are : map u keys ≡ rows = subst (λ (o : Option (Vec ℤ Global)). IfSome o (λ v. map u v.items ≡ rows)) c.in-Some.is c.in_ok-keys-in-Packed.ensures in
    let put = c.in_ok-places-in-Some.ensures.seen ∙ ap (λ (ks : List ℤ). seen_after (singles held) (singles ks)) c.deref.ensures.value in
    seen_packed w d held keys c.single_places.new.known.keys put
    ∙ ap (seen_after (map u held)) are
    ∙ sym (ap (λ (k : KeyLists). seen_after (key_lists k) rows) c.in-Packed.is)
