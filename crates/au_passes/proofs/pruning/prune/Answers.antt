-- Where all columns are read the narrowed plan does what the plan does.
use Rattle.std.proofs.Common.{◌<◌, length, true, refl, sym, ap, subst, ◌∙◌}
use Rattle.std.proofs.lemmas.List.{length-replicate}
use Rattle.au_plain.specs.declared.plan.Plan.{Plan}
use Rattle.au_plain.specs.Plans.{plan_tree}
use Rattle.au_plain.specs.Widths.{plan_width}
use Rattle.au_passes.specs.Pruning.{HasColumns, Narrows}
use Rattle.au_passes.specs.Reading.{read_places}
use Rattle.au_passes.proofs.NarrowedSides.{all_read, all_read_some}
use Rattle.au_passes.proofs.pruning.prune.Goals as goal

pub narrow_to-requires : goal.narrow_to-requires
narrow_to-requires c =
    ap length c.in_ok-all.ensures.1 ∙ length-replicate (plan_width (plan_tree c.args.plan)) true
    ∙ ap (λ (p : Plan). plan_width (plan_tree p)) (sym c.in_ok-all.ensures.0)

pub returns-clause-same : goal.returns-clause-same
returns-clause-same c =
    let q = plan_tree c.in_ok-pruned.pruned in
    all_read (plan_tree c.args.plan) q (plan_width (plan_tree c.args.plan)) refl
    (subst (λ ms. Narrows (plan_tree c.args.plan) (read_places ms) q) c.in_ok-all.ensures.1
    (subst (λ (p : Plan). Narrows (plan_tree p) (read_places c.in_ok-all.all.1.items) q) c.in_ok-all.ensures.0 c.in_ok-pruned.ensures.narrows))

pub returns-clause-columns : goal.returns-clause-columns
returns-clause-columns c = λ h.
    c.in_ok-pruned.ensures.columns
    (subst (λ ms. 0 < length (read_places ms)) (sym c.in_ok-all.ensures.1) (all_read_some (plan_tree c.args.plan) (plan_width (plan_tree c.args.plan)) refl h))
    (subst (λ (p : Plan). HasColumns (plan_tree p)) (sym c.in_ok-all.ensures.0) h)
