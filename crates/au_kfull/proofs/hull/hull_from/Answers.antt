-- The hull of the rows so far has the kinds of the first.
use Rattle.std.proofs.Common.{◌≡◌, ◌∷◌, ◌∙◌, sym, ap, map, drop, ◌+◌}
use Rattle.au_value.specs.Ranges.{hulls}
use Rattle.au_algebra.specs.Bounded.{hull_of}
use Rattle.au_kfull.specs.Keys.{kinds, keys_of}
use Rattle.au_kfull.proofs.KeyKinds.{kinds-keys_of, kinds-hulls}
use Rattle.au_kfull.proofs.HullFolds.{hull_of_two}
use Rattle.au_kfull.proofs.RowByRow.{kinds_at, split_at}
use Rattle.au_kfull.proofs.hull.hull_from.Goals as goal

key_kinds : (c : goal.After-keys_of-in-loop-row) → kinds (keys_of c.args.keys c.cells.result.now) ≡ kinds (keys_of c.args.keys c.args.first.now)
key_kinds c =
    let here = kinds_at (kinds c.args.first.now) c.args.others.now c.loop-row.row-index c.row-item.result c.loop-row-test.true c.row-item.is c.loop-row.invariant.one_kinds in
    kinds-keys_of c.args.keys c.cells.result.now c.args.first.now (ap kinds c.cells.ensures ∙ here.0)

pub hulls-requires : goal.hulls-requires
hulls-requires c =
    ap kinds c.deref.ensures.value ∙ c.loop-row.invariant.own_kinds ∙ sym (ap kinds c.keys_of-in-loop-row.ensures ∙ key_kinds c)

pub loop-row-preserved : goal.loop-row-preserved
loop-row-preserved c =
    let k = c.args.keys in
    let i = c.loop-row.row-index in
    let row = c.row-item.result in
    let here = kinds_at (kinds c.args.first.now) c.args.others.now i row c.loop-row-test.true c.row-item.is c.loop-row.invariant.one_kinds in
    let made : c.in_ok-hull-2.hull.items ≡ hulls c.loop-row.hull.items (keys_of k row.cells) =
    c.in_ok-hull-2.ensures ∙ (λ j. hulls (c.deref.ensures.value j) (c.keys_of-in-loop-row.ensures j)) ∙ ap (λ cells. hulls c.loop-row.hull.items (keys_of k cells)) c.cells.ensures in
    let row_kinds = kinds-keys_of k row.cells c.args.first.now here.0 in
    record {
      hull =
          ap (λ h. hull_of (h ∷ map (λ r. keys_of k r.cells) (drop (i + 1) c.args.others.now))) made
          ∙ hull_of_two c.loop-row.hull.items (keys_of k row.cells) (map (λ r. keys_of k r.cells) (drop (i + 1) c.args.others.now))
          ∙ ap (λ rs. hull_of (c.loop-row.hull.items ∷ map (λ r. keys_of k r.cells) rs)) (sym (split_at c.args.others.now i row c.loop-row-test.true c.row-item.is))
          ∙ c.loop-row.invariant.hull;
      own_kinds =
          ap kinds made
          ∙ kinds-hulls c.loop-row.hull.items (keys_of k row.cells) (c.loop-row.invariant.own_kinds ∙ sym row_kinds)
          ∙ c.loop-row.invariant.own_kinds;
      one_kinds = here.1;
    }
