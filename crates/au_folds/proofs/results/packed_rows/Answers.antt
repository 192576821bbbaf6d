-- The fronts of the keys, from none to all of them.
use Rattle.std.proofs.Common.{[], ap, map, replicate, sym, ◌∙◌, ℕ, ℤ}
use Rattle.std.proofs.lemmas.List.{length-map}
use Rattle.au_codes.specs.Codes.{Cells}
use Rattle.au_columns.specs.Batches.{beside}
use Rattle.au_folds.specs.Packed.{unpacked}
use Rattle.au_folds.proofs.KeyRows.{all_fronts, next_fronts, no_fronts}
use Rattle.au_folds.proofs.results.packed_rows.Goals as goal

pub loop-place-init : goal.loop-place-init
loop-place-init c =
    let u : ℤ → Cells = λ z. unpacked c.args.width c.args.deep z in
    c.new-rows.ensures ∙ ap (λ (n : ℕ). replicate n []) (sym (length-map c.args.keys.now u)) ∙ no_fronts (map u c.args.keys.now)

pub loop-place-preserved : goal.loop-place-preserved
loop-place-preserved c =
    let keys = map (unpacked c.args.width c.args.deep) c.args.keys.now in
    let place = c.loop-place.place in
    c.in_ok-rows.ensures
    ∙ (λ i. beside (c.loop-place.invariant i) (c.in_ok-column.ensures i))
    ∙ next_fronts c.args.count place keys c.loop-place-test.true c.requires.long

pub returns : goal.returns
returns c =
    c.loop-place.invariant
    ∙ all_fronts c.args.count c.loop-place.place (map (unpacked c.args.width c.args.deep) c.args.keys.now) c.loop-place-test.false c.requires.long
