-- Lists of expressions are taken out, renumbered and put back.
use Rattle.std.proofs.Common.{ap, ◌∙◌, arith}
use Rattle.au_plain.specs.PTerms.{pterm}
use Rattle.au_passes.specs.Pruning.{renumbered}
use Rattle.au_passes.proofs.InPlace.{same_items, least_renumbered, greatest_renumbered}
use Rattle.au_passes.proofs.renumber.+renumber.Goals as goal

pub renumber-returns-in-Least-replace : goal.renumber-returns-in-Least-replace
renumber-returns-in-Least-replace t c =
    least_renumbered c.args.found.now c.in-Least-replace.es c.renumber_all.result c.renumber_all.ensures
    ∙ ap (λ e. renumbered c.args.found.now (pterm e)) c.in-Least-replace.ensures.value

pub renumber-returns-in-Greatest-replace : goal.renumber-returns-in-Greatest-replace
renumber-returns-in-Greatest-replace t c =
    greatest_renumbered c.args.found.now c.in-Greatest-replace.es c.renumber_all-in-Greatest-replace.result c.renumber_all-in-Greatest-replace.ensures
    ∙ ap (λ e. renumbered c.args.found.now (pterm e)) c.in-Greatest-replace.ensures.value

pub renumber_all-returns : goal.renumber_all-returns
renumber_all-returns t c =
    same_items pterm (λ e. renumbered c.args.found.now (pterm e)) c.loop-i.es.items c.args.es.items c.loop-i.invariant.0.0
    (λ k d l. c.loop-i.invariant.1 k d (omega (arith, l, c.loop-i-test.false, c.len-i-end.ensures)))
