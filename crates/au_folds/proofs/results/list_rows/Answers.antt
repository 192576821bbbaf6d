-- The fronts of the keys, from none to all of them.
use Rattle.std.proofs.Common.{[], ap, map, replicate, sym, ◌∙◌, ℕ, ℤ}
use Rattle.std.specs.Prelude.{Vec}
use Rattle.std.specs.declared.alloc.Global.{Global}
use Rattle.std.proofs.lemmas.List.{length-map}
use Rattle.au_codes.specs.Codes.{Cells, CellRows}
use Rattle.au_columns.specs.Batches.{beside}
use Rattle.au_columns.specs.Steps.{number_at}
use Rattle.au_folds.specs.Keyed.{lists}
use Rattle.au_folds.proofs.KeyRows.{all_fronts, next_fronts, no_fronts}
use Rattle.au_folds.proofs.results.list_rows.Goals as goal

pub loop-place-init : goal.loop-place-init
loop-place-init c =
    let keys = c.args.keys.now in
    c.new-rows.ensures ∙ ap (λ (n : ℕ). replicate n []) (sym (length-map keys (λ (key : Vec ℤ Global). key.items))) ∙ no_fronts (lists keys)

pub loop-place-preserved : goal.loop-place-preserved
loop-place-preserved c =
    let keys = lists c.args.keys.now in
    let place = c.loop-place.place in
    c.in_ok-rows.ensures
    ∙ ap (λ (rows : CellRows). beside rows (map (λ (key : Cells). number_at key place) keys)) c.loop-place.invariant
    ∙ next_fronts c.args.width place keys c.loop-place-test.true c.requires

pub returns : goal.returns
returns c =
    c.loop-place.invariant ∙ all_fronts c.args.width c.loop-place.place (lists c.args.keys.now) c.loop-place-test.false c.requires
