-- The row of the next block, whose numbers lie in the range.
use Rattle.std.proofs.Common.{List, ◌≤◌, arith, subst, sym}
use Rattle.std.specs.List.{AllByRecursion}
use Rattle.std.proofs.lemmas.Grind.{common_steps}
use Rattle.std.proofs.lemmas.List.{at_drop_all}
use Rattle.au_blocks.specs.Blocks.{Choices}
use Rattle.au_translate.proofs.Places.{left_at}
use Rattle.au_ua.proofs.CountedFits.{FitMarked, all_fit}
use Rattle.au_ua.proofs.counted_rows.counted_blocks.Goals as goal

pub loop-place-preserved : goal.loop-place-preserved
loop-place-preserved c =
    let next = left_at c.args.blocks.now c.loop-place.place c.get.result c.get.ensures in
    record {
      rows = grind (arith, common_steps);
      fit = λ h. c.loop-place.invariant.fit (subst (AllByRecursion FitMarked) (sym next) (c.in_ok-push_block.ensures.fit, h));
    }

pub returns-clause-fit : goal.returns-clause-fit
returns-clause-fit c =
    let blocks = c.args.blocks.now in
    let end = subst (λ n. n ≤ c.loop-place.place) c.len-place-end.ensures c.loop-place-test.false in
    let none_left = at_drop_all (λ (bs : List Choices). bs) blocks c.loop-place.place end in
    all_fit blocks (c.loop-place.invariant.fit (subst (AllByRecursion FitMarked) (sym none_left) tt))
