-- The marked columns of the table are kept.
use Rattle.std.proofs.Common.{map, refl, slice_index, subst, ◌∙◌}
use Rattle.std.proofs.lemmas.Result.{IfOk-at_ok, IfOk-weaker}
use Rattle.au_plain.specs.Plans.{plan_tree, Scan}
use Rattle.au_passes.specs.Pruning.{IsKept}
use Rattle.au_passes.proofs.NarrowedSides.{narrowed_scan}
use Rattle.au_passes.proofs.NarrowSteps.{keep_counts}
use Rattle.au_passes.proofs.narrow.scan.Goals as goal

pub returns-clause-narrowed : goal.returns-clause-narrowed
returns-clause-narrowed c =
    let read = c.in_ok-read.read in
    let below = c.in_ok-read.below in
    let r = IfOk-at_ok _ c.in_ok-read.ensures.values.0 c.read_columns.ensures in
    let b = IfOk-at_ok _ c.in_ok-read.ensures.values.1 c.whole-below.ensures in
    IfOk-weaker c.keep_columns.result _ _
    (λ n k.
    narrowed_scan (Scan c.args.table c.args.width) (plan_tree n.plan) c.args.marks.items below.found.items n.found.items read.wanted.items c.args.width refl c.requires b.1 r.0 (k.1 ∙ r.1)
    (subst (λ q. IsKept (map (slice_index below.found.items) read.wanted.items) q (plan_tree n.plan)) b.0 k.0))
    c.keep_columns.ensures

pub returns-clause-count : goal.returns-clause-count
returns-clause-count c =
    let read = c.in_ok-read.read in
    let below = c.in_ok-read.below in
    IfOk-weaker c.keep_columns.result _ _
    (λ n k. keep_counts read.wanted.items below.found.items (plan_tree below.plan) (plan_tree n.plan) n.count k.0 k.2)
    c.keep_columns.ensures
