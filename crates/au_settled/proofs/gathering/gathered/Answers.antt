-- The rows are put together of their ranges and their counts.
use Rattle.std.proofs.Common.{◌∙◌}
use Rattle.std.proofs.lemmas.Result.{IfOk-weaker}
use Rattle.au_codes.specs.CellMeaning.{cells_kept}
use Rattle.au_settled.proofs.Gathered.{all_gathered, runs_below}
use Rattle.au_settled.proofs.gathering.gathered.Goals as goal

pub taken-requires : goal.taken-requires
taken-requires c =
    runs_below (cells_kept c.deref.result.now) c.args.rows.now c.in_ok-values.values c.args.runs.now c.deref-2.result.now c.in_ok-values.ensures (c.deref-2.ensures.value ∙ c.in_ok-places.ensures) c.requires.below

pub returns : goal.returns
returns c =
    IfOk-weaker c.with_counts.result _ _
    (λ b is. is ∙ all_gathered c.args.columns c.args.rows.now c.in_ok-values.values c.in_ok-kept.kept c.args.runs.now c.deref-2.result.now c.deref.result.now (c.deref.ensures.value ∙ c.in_ok-ends.ensures) c.in_ok-values.ensures (c.deref-2.ensures.value ∙ c.in_ok-places.ensures) c.in_ok-kept.ensures c.requires.below)
    c.with_counts.ensures
