-- The first range's test, and then the others'.
use Rattle.std.proofs.Common.{◌≡◌, ◌∙◌, arith}
use Rattle.std.proofs.lemmas.Result.{IfOk-weaker}
use Rattle.au_plain.specs.PTerms.{And, pterm}
use Rattle.au_rwgroup.specs.Groups as tests
use Rattle.au_rwgroup.proofs.Steps.{sure_step}
use Rattle.au_rwpoints.proofs.row_plans.+all_sure.Goals as goal

pub returns : goal.returns
returns depth c =
    let i = c.args.first.first in
    let a = c.in_ok-behind.field-0.first in
    let step = sure_step i a c.args.columns c.in_ok-behind.ensures (omega (arith, c.if-columns-eq0.false, c.if-columns-eq1.false)) in
    IfOk-weaker c.and.result _ (λ e. pterm e ≡ tests.all_sure i c.args.columns)
    (λ e is. is ∙ (λ k. And (c.in_ok-test.ensures k) (c.in_ok-rest.ensures k))
    ∙ step) c.and.ensures
