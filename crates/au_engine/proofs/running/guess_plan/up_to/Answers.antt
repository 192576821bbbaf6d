-- One number more.
use Rattle.std.proofs.Common.{sym, ◌∙◌, ap, ◌++◌, ◌∷◌, []}
use Rattle.au_passes.proofs.MarkLaws.{one_more}
use Rattle.au_engine.proofs.running.guess_plan.up_to.Goals as goal

pub loop-i-preserved : goal.loop-i-preserved
loop-i-preserved c = c.in_ok-push.ensures.items ∙ ap (λ ns. ns ++ c.loop-i.i ∷ []) c.loop-i.invariant ∙ sym (one_more c.loop-i.i)
