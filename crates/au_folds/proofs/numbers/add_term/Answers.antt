-- A term in a sum that is held, or in a new one.
use Rattle.std.proofs.Common.{◌≡◌, ◌∷◌, [], ◌++◌, ◌+◌, ◌<◌, ◌≤◌, ◌^◌, List, ap, arith, length, of_z, refl, set, subst, sym, to_z, ◌∙◌, ℤ}
use Rattle.std.specs.Int.{w128}
use Rattle.std.specs.Prelude.{unsigned_abs}
use Rattle.std.proofs.lemmas.Int.{to_z-of_z}
use Rattle.au_value.specs.Adding.{Sum, no_terms, with_term}
use Rattle.au_expr.specs.Figures.{fit}
use Rattle.au_folds.specs.Kept.{magnitudes_of}
use Rattle.au_folds.proofs.PutLaws.{below_if, failed, known_fits, known_leaves, known_put, new_fits, new_leaves, new_put}
use Rattle.au_folds.proofs.numbers.add_term.Goals as goal

pub returns-in_err-add : goal.returns-in_err-add
returns-in_err-add c =
    let sums = c.args.sums.now.items in
    let place = c.args.place in
    let term = c.args.term in
    let sum = c.index_mut.result.now in
    let kept : to_z w128 (of_z w128 term) ≡ term = to_z-of_z w128 term c.ranges.term in
    let below : place < length sums = omega (arith, c.args.sums.now.ok.0, c.len.ensures, c.if-place-len.true) in
    let above : 2 ^ 127 ≤ sum.magnitude + unsigned_abs term = subst (λ (z : ℤ). 2 ^ 127 ≤ sum.magnitude + unsigned_abs z) kept (c.in_err-add.ensures.overflow.0 refl) in
    failed c.from_residual.result _ _ c.from_residual.ensures.0
    (ap (λ (ss : List Sum). fit (magnitudes_of ss)) (sym (known_put (with_term no_terms) with_term sums place sum term below c.index_mut.ensures.value))
    ∙ known_leaves sums place (with_term sum term) below above)

pub returns-in_err-add-2 : goal.returns-in_err-add-2
returns-in_err-add-2 c =
    let sums = c.args.sums.now.items in
    let term = c.args.term in
    let kept : to_z w128 (of_z w128 term) ≡ term = to_z-of_z w128 term c.ranges.term in
    let past : length sums ≤ c.args.place = omega (arith, c.args.sums.now.ok.0, c.len.ensures, c.if-place-len.false) in
    let above : 2 ^ 127 ≤ 0 + unsigned_abs term =
    subst (λ (z : ℤ). 2 ^ 127 ≤ 0 + unsigned_abs z) kept (subst (λ (s : Sum). 2 ^ 127 ≤ s.magnitude + unsigned_abs (to_z w128 (of_z w128 term))) c.new-sum.ensures (c.in_err-add-2.ensures.overflow.0 refl)) in
    failed c.from_residual-in_err-add-2.result _ _ c.from_residual-in_err-add-2.ensures.0
    (ap (λ (ss : List Sum). fit (magnitudes_of ss)) (sym (new_put (with_term no_terms) with_term sums c.args.place term past)) ∙ new_leaves sums (with_term no_terms term) above)

pub returns-in_ok-add : goal.returns-in_ok-add
returns-in_ok-add c =
    let sums = c.args.sums.now.items in
    let place = c.args.place in
    let term = c.args.term in
    let sum = c.index_mut.result.now in
    let kept : to_z w128 (of_z w128 term) ≡ term = to_z-of_z w128 term c.ranges.term in
    let below : place < length sums = omega (arith, c.args.sums.now.ok.0, c.len.ensures, c.if-place-len.true) in
    let is : c.add.new.self ≡ with_term sum term = c.in_ok-add.ensures.sum ∙ ap (with_term sum) kept in
    let less : sum.magnitude + unsigned_abs term < 2 ^ 127 = subst (λ (z : ℤ). sum.magnitude + unsigned_abs z < 2 ^ 127) kept (below_if _ _ c.in_ok-add.ensures.overflow.1) in (
      ap (set sums place) is ∙ known_put (with_term no_terms) with_term sums place sum term below c.index_mut.ensures.value,
      ap (λ (s : Sum). fit (magnitudes_of (set sums place s))) is ∙ known_fits sums place (with_term sum term) below c.requires less,
    )

pub returns-in_ok-push_sum : goal.returns-in_ok-push_sum
returns-in_ok-push_sum c =
    let sums = c.args.sums.now.items in
    let term = c.args.term in
    let kept : to_z w128 (of_z w128 term) ≡ term = to_z-of_z w128 term c.ranges.term in
    let past : length sums ≤ c.args.place = omega (arith, c.args.sums.now.ok.0, c.len.ensures, c.if-place-len.false) in
    let is : c.add-else-place-len.new.self ≡ with_term no_terms term = c.in_ok-add-2.ensures.sum ∙ (λ i. with_term (c.new-sum.ensures i) (kept i)) in
    let less : 0 + unsigned_abs term < 2 ^ 127 =
    subst (λ (z : ℤ). 0 + unsigned_abs z < 2 ^ 127) kept (subst (λ (s : Sum). s.magnitude + unsigned_abs (to_z w128 (of_z w128 term)) < 2 ^ 127) c.new-sum.ensures (below_if _ _ c.in_ok-add-2.ensures.overflow.1)) in
    let all : c.push_sum.new.sums.items ≡ sums ++ with_term no_terms term ∷ [] = c.in_ok-push_sum.ensures ∙ ap (λ (s : Sum). sums ++ s ∷ []) is in (
      all ∙ new_put (with_term no_terms) with_term sums c.args.place term past,
      ap (λ (ss : List Sum). fit (magnitudes_of ss)) all ∙ new_fits sums (with_term no_terms term) c.requires less,
    )
