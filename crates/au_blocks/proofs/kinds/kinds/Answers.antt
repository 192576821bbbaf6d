-- The kinds by the columns that are marked.
use Rattle.std.specs.Prelude.{Bool, Option, unwrap_or, zip}
use Rattle.std.proofs.Common.{◌∙◌, ap, map}
use Rattle.std.proofs.lemmas.Result.{IfOk-weaker}
use Rattle.au_value.specs.declared.kinds.Kind.{Kind}
use Rattle.au_blocks.specs.Inferring.{inferred}
use Rattle.au_blocks.specs.Marks.{marks}
use Rattle.au_blocks.proofs.MarkedColumns.{kinds-marked}
use Rattle.au_blocks.proofs.kinds.kinds.Goals as goal

pub returns : goal.returns
returns c =
    let f = c.args.format in
    let rows = c.args.rows.now in
    let ws = c.args.written.now in
    let left = c.numerals-numerals.ensures ∙ ap (marks f rows 0) c.in_ok-unwritten.ensures in
    IfOk-weaker c.column_kinds.result _ _
    (λ kinds is. is ∙ ap (λ bs. map (λ (p : Option Kind × Bool). unwrap_or p.0 (inferred p.1)) (zip ws bs)) left ∙ kinds-marked f rows c.any_alternative.result 0 ws c.any_alternative.ensures)
    c.column_kinds.ensures
