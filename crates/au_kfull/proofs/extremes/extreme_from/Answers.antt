-- The best so far and the next value are put into one.
use Rattle.std.proofs.Common.{◌≡◌, ◌∷◌, ◌∙◌, sym, ap, drop, ◌+◌}
use Rattle.au_value.specs.Extremes.{preferred}
use Rattle.au_value.specs.Order.{kind_of}
use Rattle.au_algebra.specs.Bounded.{range_at}
use Rattle.au_kfull.specs.Groups.{end_of}
use Rattle.au_kfull.specs.Extremes.{extreme_of, values_at}
use Rattle.au_kfull.proofs.ExtremeRows.{extreme_two, preferred_kind, end_kind, column_at}
use Rattle.au_kfull.proofs.RowByRow.{split_at}
use Rattle.au_kfull.proofs.extremes.extreme_from.Goals as goal

pub loop-row-preserved : goal.loop-row-preserved
loop-row-preserved c =
    let which = c.args.which in
    let bound = c.args.bound in
    let at = c.args.at in
    let i = c.loop-row.row-index in
    let row = c.row-item.result in
    let old = c.loop-row.best.now in
    let kinds = c.loop-row.invariant.one_kind in
    let k = kinds.0 in
    let rest = drop (i + 1) c.args.others.now in
    let here = column_at k at c.args.others.now i row c.loop-row-test.true c.row-item.is kinds.2 in
    let value = end_of bound (range_at at row) in
    let made : c.better-best.result.now ≡ preferred which old value = c.better-best.ensures ∙ ap (preferred which old) c.value_at.ensures in
    record {
      best =
          ap (λ b. extreme_of which (b ∷ values_at bound at rest)) made
          ∙ extreme_two which old value (values_at bound at rest)
          ∙ ap (λ rows. extreme_of which (old ∷ values_at bound at rows)) (sym (split_at c.args.others.now i row c.loop-row-test.true c.row-item.is))
          ∙ c.loop-row.invariant.best;
      one_kind = (k, ap kind_of made ∙ preferred_kind which k old value kinds.1 (end_kind bound k (range_at at row) here.0.range), here.1);
    }
