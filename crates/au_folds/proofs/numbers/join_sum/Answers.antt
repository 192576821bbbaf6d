-- A sum added to one that is held, or in its own place.
use Rattle.std.proofs.Common.{◌≡◌, ◌∷◌, [], ◌++◌, ◌<◌, ◌≤◌, ◌^◌, List, ap, arith, length, refl, set, subst, sym, ◌∙◌}
use Rattle.au_value.specs.Adding.{Sum, no_terms}
use Rattle.au_value.specs.Joining.{joined_sum}
use Rattle.au_expr.specs.Figures.{fit}
use Rattle.au_folds.specs.Kept.{magnitudes_of}
use Rattle.au_folds.proofs.PutLaws.{below_if, failed, known_fits, known_leaves, known_put, new_fits, new_leaves, new_put}
use Rattle.au_folds.proofs.numbers.join_sum.Goals as goal

pub returns-in_err-sum : goal.returns-in_err-sum
returns-in_err-sum c =
    let sums = c.args.sums.now.items in
    let place = c.args.place in
    let other = c.args.other.now in
    let sum = c.index.result.now in
    let below : place < length sums = omega (arith, c.args.sums.now.ok.0, c.len.ensures, c.if-place-len.true) in
    failed c.from_residual.result _ _ c.from_residual.ensures.0
    (ap (λ (ss : List Sum). fit (magnitudes_of ss)) (sym (known_put (joined_sum no_terms) joined_sum sums place sum other below c.index.ensures))
    ∙ known_leaves sums place (joined_sum sum other) below (c.in_err-sum.ensures.overflow.0 refl))

pub returns-in_err-sum-2 : goal.returns-in_err-sum-2
returns-in_err-sum-2 c =
    let sums = c.args.sums.now.items in
    let other = c.args.other.now in
    let past : length sums ≤ c.args.place = omega (arith, c.args.sums.now.ok.0, c.len.ensures, c.if-place-len.false) in
    let above : 2 ^ 127 ≤ (joined_sum no_terms other).magnitude = subst (λ (s : Sum). 2 ^ 127 ≤ (joined_sum s other).magnitude) c.new.ensures (c.in_err-sum-2.ensures.overflow.0 refl) in
    failed c.from_residual-in_err-sum-2.result _ _ c.from_residual-in_err-sum-2.ensures.0
    (ap (λ (ss : List Sum). fit (magnitudes_of ss)) (sym (new_put (joined_sum no_terms) joined_sum sums c.args.place other past)) ∙ new_leaves sums (joined_sum no_terms other) above)

pub returns-in_ok-sum : goal.returns-in_ok-sum
returns-in_ok-sum c =
    let sums = c.args.sums.now.items in
    let place = c.args.place in
    let other = c.args.other.now in
    let sum = c.index.result.now in
    let below : place < length sums = omega (arith, c.args.sums.now.ok.0, c.len.ensures, c.if-place-len.true) in
    let less : (joined_sum sum other).magnitude < 2 ^ 127 = below_if _ _ c.in_ok-sum.ensures.overflow.1 in (
      ap (set sums place) c.in_ok-sum.ensures.sum ∙ known_put (joined_sum no_terms) joined_sum sums place sum other below c.index.ensures,
      ap (λ (s : Sum). fit (magnitudes_of (set sums place s))) c.in_ok-sum.ensures.sum ∙ known_fits sums place (joined_sum sum other) below c.requires less,
    )

pub returns-in_ok-push_sum : goal.returns-in_ok-push_sum
returns-in_ok-push_sum c =
    let sums = c.args.sums.now.items in
    let other = c.args.other.now in
    let past : length sums ≤ c.args.place = omega (arith, c.args.sums.now.ok.0, c.len.ensures, c.if-place-len.false) in
    let is : c.in_ok-sum-2.sum ≡ joined_sum no_terms other = c.in_ok-sum-2.ensures.sum ∙ ap (λ (s : Sum). joined_sum s other) c.new.ensures in
    let less : (joined_sum no_terms other).magnitude < 2 ^ 127 = subst (λ (s : Sum). (joined_sum s other).magnitude < 2 ^ 127) c.new.ensures (below_if _ _ c.in_ok-sum-2.ensures.overflow.1) in
    let all : c.push_sum.new.sums.items ≡ sums ++ joined_sum no_terms other ∷ [] = c.in_ok-push_sum.ensures ∙ ap (λ (s : Sum). sums ++ s ∷ []) is in (
      all ∙ new_put (joined_sum no_terms) joined_sum sums c.args.place other past,
      ap (λ (ss : List Sum). fit (magnitudes_of ss)) all ∙ new_fits sums (joined_sum no_terms other) c.requires less,
    )
