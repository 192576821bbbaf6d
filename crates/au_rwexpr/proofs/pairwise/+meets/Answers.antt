-- The first columns' test, and then the others'.
use Rattle.std.proofs.Common.{◌≡◌, ◌∙◌, arith}
use Rattle.std.proofs.lemmas.Result.{IfOk-weaker}
use Rattle.au_plain.specs.PTerms.{And, pterm}
use Rattle.au_rwexpr.specs.Meets as tests
use Rattle.au_rwexpr.proofs.PairwiseSteps.{meets_step}
use Rattle.au_rwexpr.proofs.pairwise.+meets.Goals as goal

pub returns : goal.returns
returns depth c =
    let i = c.args.left.first in
    let j = c.args.right.first in
    let a = c.in_ok-behind.field-0.first in
    let b = c.in_ok-behind-2.field-0.first in
    let step = meets_step i j a b c.in_ok-behind.ensures c.in_ok-behind-2.ensures c.args.columns (omega (arith, c.if-columns-eq0.false)) in
    IfOk-weaker c.and.result _ (λ e. pterm e ≡ tests.meets_term i j c.args.columns)
    (λ e is. is ∙ (λ k. And (c.in_ok-overlap.ensures k) (c.in_ok-rest.ensures k)) ∙ step) c.and.ensures
