-- The alternative that is shown is the only one.
use Rattle.std.proofs.Common.{◌≡◌, ◌∙◌, ap, length, sym, unwrap_or}
use Rattle.au_algebra.specs.Lists.{least}
use Rattle.au_translate.specs.Translate.{low_at, marked_or_first}
use Rattle.au_translate.proofs.Ends.{only_one}
use Rattle.au_translate.proofs.BlockRelation.{shown_place}
use Rattle.au_translate.proofs.bounds.least_end.Goals as goal

pub returns-then-len-eq1 : goal.returns-then-len-eq1
returns-then-len-eq1 c =
    let b = c.args.block.now in
    let ok = c.alternatives-alternatives.ensures.is_block in
    let one : length b.alternatives ≡ 1 = sym (ap length c.alternatives-alternatives.ensures.of) ∙ sym c.len.ensures ∙ c.if-len-eq1.true in
    let only = only_one (low_at c.args.at) b.alternatives (unwrap_or b.guess 0) (marked_or_first b) one (shown_place b b.guess ok.guess ok.nonempty) in
    c.low.ensures ∙ ap (low_at c.args.at) c.requires.shown ∙ sym (ap least only)
