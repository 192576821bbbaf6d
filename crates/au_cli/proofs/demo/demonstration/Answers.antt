-- The statement has no defect over the generated table, and the sums of its answer's triples lie in the range.
use Rattle.std.proofs.Common.{◌≡◌, ◌∙◌, sym, ap, true, false, Err}
use Rattle.std.proofs.lemmas.Bool.{true≢false}
use Rattle.au_annot.specs.Triples.{in_range}
use Rattle.au_parse.specs.Views.{statement_tree}
use Rattle.au_print.specs.DemoTexts.{triple_sum}
use Rattle.au_cli.proofs.DemoLaws.{generated_is, statement_is, no_defects_of_demo, sum_fits}
use Rattle.au_cli.proofs.demo.demonstration.Goals as goal

pub answered-requires-clause-typed : goal.answered-requires-clause-typed
answered-requires-clause-typed g c κs within =
    let table = c.in-Ok-generated.table in
    let tree = statement_tree c.in-Ok.statement in
    let known = generated_is c.args.start c.args.blocks table c.requires.few c.in-Ok-generated.ensures in
    no_defects_of_demo table tree known.columns (statement_is tree c.in-Ok.ensures.tree)

pub unreachable-requires : goal.unreachable-requires
unreachable-requires g c =
    let table = c.in-Ok-generated.table in
    let tree = statement_tree c.in-Ok.statement in
    let known = generated_is c.args.start c.args.blocks table c.requires.few c.in-Ok-generated.ensures in
    let fits : in_range (triple_sum c.in-Ok-answered.answer.rows) ≡ true =
    ap (λ rows. in_range (triple_sum rows)) c.in-Ok-answered.ensures.rows
    ∙ sum_fits c.args.blocks table tree c.requires.few known.columns known.count known.copies (statement_is tree c.in-Ok.ensures.tree) in
    let over : in_range (triple_sum c.in-Ok-answered.answer.rows) ≡ false = c.demo_text.ensures.overflow (c.in-Err-Overflow.is ∙ ap Err c.in-Err-Overflow.field-0-is) in
    true≢false (sym fits ∙ over)
