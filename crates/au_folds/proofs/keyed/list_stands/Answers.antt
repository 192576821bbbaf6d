-- No key is there twice, so one with these cells is the only one.
use Rattle.std.proofs.Common.{◌≡◌, ◌<◌, ◌∙◌, List, ap, get_or, length, refl, subst, sym, true, ℤ}
use Rattle.std.specs.Prelude.{Vec}
use Rattle.std.specs.Cmp.Lexicographic.{pointwise}
use Rattle.std.specs.Ordering.{int_eq}
use Rattle.std.specs.declared.alloc.Global.{Global}
use Rattle.std.proofs.lemmas.List.{get_or_read}
use Rattle.au_codes.specs.Codes.{Cells}
use Rattle.au_codes.specs.CellMeaning.{same_cells}
use Rattle.au_columns.specs.Batches.{row_at}
use Rattle.au_folds.specs.Keyed.{lists}
use Rattle.au_folds.proofs.KeySets.{stands}
use Rattle.au_folds.proofs.keyed.list_stands.Goals as goal

pub returns-then-place-keys : goal.returns-then-place-keys
returns-then-place-keys c = λ yes.
    let ks = c.as_slice-keys.result.now in
    let keys = c.as_slice-keys.ensures.keys in
    let place = c.args.place in
    let k = c.index-keys-place.result in
    let q = row_at (lists c.args.columns.now) c.args.row in
    let below : place < length ks = c.if-place-keys.true in
    let is : k ≡ get_or ks place k = get_or_read ks place k below c.index-keys-place.is k in
    let same : same_cells q k.items ≡ true = ap (λ (cells : Cells). same_cells q cells) (sym c.deref.ensures.value) ∙ sym c.is_row.ensures ∙ yes in
    stands (λ (v : Vec ℤ Global). v.items) (λ (x y : Vec ℤ Global). pointwise int_eq x.items y.items) (λ x y. refl) q c.args.known.now.keys place k c.as_slice-keys.ensures.unique
    (subst (λ (xs : List (Vec ℤ Global)). place < length xs) keys below) (is ∙ ap (λ (xs : List (Vec ℤ Global)). get_or xs place k) keys) same
