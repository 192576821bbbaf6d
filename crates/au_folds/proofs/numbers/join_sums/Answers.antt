-- A sum that leaves the range.
use Rattle.std.proofs.Common.{◌+◌, ◌<◌, List, ap, arith, drop, get_or, length, sym, ◌∙◌}
use Rattle.au_value.specs.Adding.{Sum, no_terms}
use Rattle.au_value.specs.Joining.{joined_sum}
use Rattle.au_expr.specs.Figures.{fit}
use Rattle.au_folds.specs.Kept.{magnitudes_of}
use Rattle.au_folds.specs.Puts.{put_at}
use Rattle.au_folds.proofs.PutLaws.{handed, next_put, some_leaves, sum_grows}
use Rattle.au_folds.proofs.numbers.join_sums.Goals as goal

pub returns-in_err-join_sum : goal.returns-in_err-join_sum
returns-in_err-join_sum c =
    let places = c.args.places.now in
    let others = c.args.others.now in
    let sums = c.loop-i.sums.items in
    let i = c.loop-i.i in
    let place = get_or places i 0 in
    let other = c.index-others-i.result in
    let within : i < length others = omega (arith, c.requires.long, c.loop-i-test.true) in
    let next = next_put (joined_sum no_terms) joined_sum sums places others i other c.loop-i-test.true within ∙ c.loop-i.invariant.sums in
    let all = ap (λ (ss : List Sum). fit (magnitudes_of ss)) next in
    handed c.from_residual.result _ c.in_err-join_sum.field-0.0 _ c.from_residual.ensures.1
    (λ over.
    let one = ap (λ (s : Sum). fit (magnitudes_of (put_at (joined_sum no_terms) joined_sum sums place s))) (sym c.index-others-i.is) ∙ c.in_err-join_sum.ensures over in
    sym all ∙ some_leaves (joined_sum no_terms) joined_sum sum_grows (put_at (joined_sum no_terms) joined_sum sums place (get_or others i other)) (drop (i + 1) places) (drop (i + 1) others) one)
