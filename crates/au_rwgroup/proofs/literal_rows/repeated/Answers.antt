-- One value more.
use Rattle.std.proofs.Common.{◌∙◌, ◌++◌, ◌∷◌, [], ◌-◌, replicate}
use Rattle.au_rwgroup.proofs.Steps.{repeat_step}
use Rattle.au_rwgroup.proofs.literal_rows.repeated.Goals as goal

pub loop-left-preserved : goal.loop-left-preserved
loop-left-preserved c =
    let old = c.loop-left in
    let v = c.args.value.now in
    (λ i. c.in_ok-push.ensures.items i ++ replicate (old.left - 1) v)
    ∙ (λ i. (old.row.items ++ c.in_ok-copy.ensures i ∷ []) ++ replicate (old.left - 1) v)
    ∙ repeat_step old.row.items v old.left c.loop-left-test.true
    ∙ old.invariant
