-- One cell after the other.
use Rattle.std.proofs.Common.{◌≡◌, ◌<◌, ◌≤◌, ◌+◌, ◌∷◌, [], ℕ, ℤ, List, true, ap, arith, drop, length, sym, ◌∙◌, get_or, to_z, of_z}
use Rattle.std.specs.Prelude.{Vec}
use Rattle.std.specs.declared.alloc.Global.{Global}
use Rattle.std.specs.Int.{w128}
use Rattle.std.specs.Ordering.{int_eq}
use Rattle.std.proofs.lemmas.Int.{ints, to_z-of_z}
use Rattle.std.proofs.lemmas.List.{drop_all, drop_more, get_or_read}
use Rattle.au_codes.specs.CellMeaning.{same_cells}
use Rattle.au_columns.specs.Batches.{row_at}
use Rattle.au_columns.specs.Steps.{number_at}
use Rattle.au_folds.specs.Keyed.{lists}
use Rattle.au_folds.specs.Packed.{high_part, low_part, unpacked}
use Rattle.au_folds.proofs.PackedLaws.{last_decides, next_alike}
use Rattle.au_folds.proofs.packed.holds_row.Goals as goal

pub loop-i-preserved : goal.loop-i-preserved
loop-i-preserved c =
    let cols = c.args.columns.now in
    let row = c.args.row in
    let w = c.args.width in
    let d = c.args.deep in
    let i = c.loop-i.i in
    let rest = to_z w128 c.loop-i.rest-bits in
    let column = c.index-columns-i.result in
    let long = c.is_next.ensures in
    let no = c.if-not-is_next.false in
    let test = c.if-not-is_next.ensures in
    let within : i < d = c.loop-i-test.true in
    let count : length cols ≡ d + 1 = grind (arith, long, no, test) in
    let below : i < length cols = omega (arith, count, within) in
    let at : column ≡ get_or cols i column = get_or_read cols i column below c.index-columns-i.is column in
    let x = number_at column.items row in
    let later = row_at (lists (drop (i + 1) cols)) row in
    let is : row_at (lists (drop i cols)) row ≡ x ∷ later =
    ap (λ (cs : List (Vec ℤ Global)). row_at (lists cs) row) (drop_more cols i column below) ∙ ap (λ (v : Vec ℤ Global). number_at v.items row ∷ later) (sym at) in
    let own : to_z w128 (of_z w128 c.number.result) ≡ x = search (arith, ints, to_z-of_z, c.number.ensures, c.deref.ensures.value) in
    let low : to_z w128 (of_z w128 c.low.result) ≡ low_part w rest = search (arith, ints, to_z-of_z, c.low.ensures) in
    let equal : int_eq x (low_part w rest) ≡ true =
    sym (λ j. int_eq (own j) (low j)) ∙ sym c.are_equal.ensures ∙ c.if-not-are_equal.false in
    let high : to_z w128 (of_z w128 c.high-rest.result) ≡ high_part w rest = search (arith, ints, to_z-of_z, c.high-rest.ensures) in
    next_alike (same_cells (row_at (lists cols) row) (unpacked w d (to_z w128 (of_z w128 c.args.key)))) (row_at (lists (drop i cols)) row) x w d i rest c.loop-i.invariant later (to_z w128 (of_z w128 c.high-rest.result)) within is equal high

pub returns : goal.returns
returns c = λ alike.
    let cols = c.args.columns.now in
    let row = c.args.row in
    let w = c.args.width in
    let d = c.args.deep in
    let i = c.loop-i.i in
    let rest = to_z w128 c.loop-i.rest-bits in
    let column = c.index-columns-deep.result in
    let long = c.is_next.ensures in
    let no = c.if-not-is_next.false in
    let test = c.if-not-is_next.ensures in
    let past : d ≤ i = c.loop-i-test.false in
    let within = c.loop-i.auto.i-end in
    let ends : i ≡ d = omega (arith, past, within) in
    let count : length cols ≡ d + 1 = grind (arith, long, no, test) in
    let below : d < length cols = omega (arith, count) in
    let at : column ≡ get_or cols d column = get_or_read cols d column below c.index-columns-deep.is column in
    let x = number_at column.items row in
    let none : drop (d + 1) cols ≡ [] = drop_all (d + 1) cols (omega (arith, count)) in
    let is : row_at (lists (drop i cols)) row ≡ x ∷ [] =
    ap (λ (n : ℕ). row_at (lists (drop n cols)) row) ends
    ∙ ap (λ (cs : List (Vec ℤ Global)). row_at (lists cs) row) (drop_more cols d column below)
    ∙ ap (λ (cs : List (Vec ℤ Global)). number_at (get_or cols d column).items row ∷ row_at (lists cs) row) none
    ∙ ap (λ (v : Vec ℤ Global). number_at v.items row ∷ []) (sym at) in
    let own : to_z w128 (of_z w128 c.number-2.result) ≡ x = search (arith, ints, to_z-of_z, c.number-2.ensures, c.deref-2.ensures.value) in
    let equal : int_eq x rest ≡ true = sym (ap (λ (z : ℤ). int_eq z rest) own) ∙ sym c.are_equal-2.ensures ∙ alike in
    let key = to_z-of_z w128 c.args.key c.ranges.key in
    ap (λ (k : ℤ). same_cells (row_at (lists cols) row) (unpacked w d k)) (sym key)
    ∙ sym (last_decides (same_cells (row_at (lists cols) row) (unpacked w d (to_z w128 (of_z w128 c.args.key)))) (row_at (lists (drop i cols)) row) x w d i rest c.loop-i.invariant past is)
    ∙ equal
