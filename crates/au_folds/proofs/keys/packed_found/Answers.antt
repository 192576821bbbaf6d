-- The place that the search found is that of the key's cells, and a key that is not held is not packed.
use Rattle.std.proofs.Common.{◌≡◌, ap, of_z, sym, to_z, ◌∙◌, true, ℤ, List, subst, arith}
use Rattle.std.specs.Int.RustNames.{FitsSigned}
use Rattle.std.specs.List.{AllByRecursion}
use Rattle.std.specs.Int.{w128}
use Rattle.std.specs.Ordering.{int_eq}
use Rattle.std.proofs.lemmas.Int.{ints, to_z-of_z}
use Rattle.au_codes.specs.Codes.{Cells}
use Rattle.au_codes.specs.CellMeaning.{same_cells}
use Rattle.au_folds.specs.Packed.{unpacked}
use Rattle.au_folds.proofs.CellKeys.{same}
use Rattle.au_folds.proofs.KeySets.{finds}
use Rattle.au_folds.proofs.PackedLaws.{none_there, packed_is}
use Rattle.au_folds.proofs.keys.packed_found.Goals as goal

pub returns-then-holds_list : goal.returns-then-holds_list
returns-then-holds_list c =
    let key = c.args.key.now in
    let w = c.args.width in
    let d = c.args.deep in
    let p = c.list_packed-packed.result in
    let u : ℤ → Cells = λ z. unpacked w d z in
    let held : ℤ = to_z w128 (of_z w128 p) in
    let kept : held ≡ p = search (arith, ints, to_z-of_z) in
    let alike : same_cells key (u p) ≡ true = ap (λ (z : ℤ). same_cells key (u z)) (sym kept) ∙ sym c.holds_list.ensures ∙ c.if-holds_list.true in
    let is : key ≡ u p = same key (u p) alike in
    finds u (int_eq held) key (λ (z : ℤ). ap (λ (k : ℤ). int_eq k z) kept ∙ packed_is w d p z ∙ ap (λ (cells : Cells). same_cells cells (u z)) (sym is)) c.args.known.now.keys c.get_index_of.result c.get_index_of.ensures.index c.get_index_of.ensures.found

pub returns-else-holds_list : goal.returns-else-holds_list
returns-else-holds_list c =
    let key = c.args.key.now in
    let w = c.args.width in
    let d = c.args.deep in
    let p = c.list_packed-packed.result in
    let u : ℤ → Cells = λ z. unpacked w d z in
    let kept : to_z w128 (of_z w128 p) ≡ p = search (arith, ints, to_z-of_z) in
    let apart = ap (λ (z : ℤ). same_cells key (u z)) (sym kept) ∙ sym c.holds_list.ensures ∙ c.if-holds_list.false in
    none_there u key p (λ q fits is. c.list_packed-packed.ensures d q fits is) apart c.args.known.now.keys
    (subst (λ (ks : List ℤ). AllByRecursion (FitsSigned w128) ks) c.as_slice.ensures.keys c.read_numbers.ensures)
