-- What is made of the values of one part, and of zeros.
use Rattle.std.proofs.Common.{ap, length, pos, subst, sym, ◌∙◌}
use Rattle.std.proofs.lemmas.List.{length-replicate}
use Rattle.std.proofs.lemmas.Result.{IfOk-at_ok}
use Rattle.au_plain.specs.PTerms.{pterm}
use Rattle.au_codes.specs.Careful.{careful}
use Rattle.au_columns.specs.declared.step.Arithmetic.TheVariants.{Subtract}
use Rattle.au_columns.specs.Steps.{Worked}
use Rattle.au_columns.specs.Evaluated.{Gives}
use Rattle.au_columns.proofs.Made.{made_negated}
use Rattle.au_columns.proofs.columnwise.negated.Goals as goal

pub arithmetic-requires : goal.arithmetic-requires
arithmetic-requires c =
    let rows = c.args.batch.now in
    let zeros = IfOk-at_ok _ c.in_ok-zeros.ensures.values.0 c.zeros_for.ensures in
    let x = subst (Gives (careful (pterm c.args.a.now)) rows) (sym c.column.ensures) (IfOk-at_ok _ c.in_ok-zeros.ensures.values.1 c.requires) in
    x.len ∙ sym (ap length zeros ∙ length-replicate (length rows) (pos 0))

pub returns : goal.returns
returns c =
    let rows = c.args.batch.now in
    let zeros = IfOk-at_ok _ c.in_ok-zeros.ensures.values.0 c.zeros_for.ensures in
    let x = subst (Gives (careful (pterm c.args.a.now)) rows) (sym c.column.ensures) (IfOk-at_ok _ c.in_ok-zeros.ensures.values.1 c.requires) in
    made_negated (careful (pterm c.args.a.now)) rows c.column.result.now c.in_ok-made.made x (subst (λ l. Worked Subtract l c.column.result.now c.in_ok-made.made) zeros c.in_ok-made.ensures) c.read.ensures
