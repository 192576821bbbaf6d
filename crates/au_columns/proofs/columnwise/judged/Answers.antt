-- What is made of the values of two parts.
use Rattle.std.proofs.Common.{subst, sym, ◌∙◌}
use Rattle.std.proofs.lemmas.Result.{IfOk-at_ok}
use Rattle.au_plain.specs.PTerms.{pterm}
use Rattle.au_codes.specs.Careful.{careful}
use Rattle.au_columns.specs.Evaluated.{Gives}
use Rattle.au_columns.proofs.Made.{made_tested}
use Rattle.au_columns.proofs.columnwise.judged.Goals as goal

pub test-requires : goal.test-requires
test-requires c =
    let rows = c.args.batch.now in
    let x = subst (Gives (careful (pterm c.args.a.now)) rows) (sym c.column.ensures) (IfOk-at_ok _ c.in_ok-x.ensures.values.0 c.requires.x) in
    let y = subst (Gives (careful (pterm c.args.b.now)) rows) (sym c.column-2.ensures) (IfOk-at_ok _ c.in_ok-x.ensures.values.1 c.requires.y) in
    y.len ∙ sym x.len

pub returns : goal.returns
returns c =
    let rows = c.args.batch.now in
    let x = subst (Gives (careful (pterm c.args.a.now)) rows) (sym c.column.ensures) (IfOk-at_ok _ c.in_ok-x.ensures.values.0 c.requires.x) in
    let y = subst (Gives (careful (pterm c.args.b.now)) rows) (sym c.column-2.ensures) (IfOk-at_ok _ c.in_ok-x.ensures.values.1 c.requires.y) in
    made_tested (careful (pterm c.args.a.now)) (careful (pterm c.args.b.now)) rows c.column.result.now c.column-2.result.now c.in_ok-made.made x y c.args.how c.in_ok-made.ensures
