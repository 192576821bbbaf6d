-- The groups of one batch.
use Rattle.std.proofs.Common.{◌≡◌, ap, sym, ◌∙◌}
use Rattle.au_expr.specs.Figures.{fit}
use Rattle.au_folds.specs.Tables.{Table, empty_table, finished, grown, table_numbers}
use Rattle.au_folds.proofs.PutLaws.{handed}
use Rattle.au_folds.proofs.TableLaws.{are_groups}
use Rattle.au_folds.proofs.groups.grouped.Goals as goal

pub returns-in_err-groups-2 : goal.returns-in_err-groups-2
returns-in_err-groups-2 c =
    let rows = c.args.rows.now in
    let law = are_groups c.args.keys.now c.args.aggs.now rows in
    handed c.from_residual-in_err-groups-2.result _ c.in_err-groups-2.field-0.0 _ c.from_residual-in_err-groups-2.ensures.1
    (λ over. sym law.1 ∙ ap (λ (t : Table). fit (table_numbers (grown t rows))) (sym c.in_ok-groups.ensures) ∙ c.in_err-groups-2.ensures over)

pub returns : goal.returns
returns c =
    let rows = c.args.rows.now in
    let law = are_groups c.args.keys.now c.args.aggs.now rows in
    let is : c.in_ok-groups-2.groups ≡ grown (empty_table c.args.keys.now c.args.aggs.now) rows =
    c.in_ok-groups-2.ensures.0 ∙ ap (λ (t : Table). grown t rows) c.in_ok-groups.ensures in (
      c.in_ok-made.ensures ∙ ap finished is ∙ law.0,
      sym law.1 ∙ sym (ap (λ (t : Table). fit (table_numbers t)) is) ∙ c.in_ok-groups-2.ensures.1,
    )
