-- A sum that leaves the range.
use Rattle.std.proofs.Common.{◌≡◌, ◌+◌, ◌<◌, List, ap, arith, drop, get_or, length, of_z, pos, sym, to_z, ◌∙◌, ℤ, false}
use Rattle.std.specs.Int.{w128}
use Rattle.std.proofs.lemmas.Int.{ints, to_z-of_z}
use Rattle.au_value.specs.Adding.{Sum, no_terms, with_term}
use Rattle.au_expr.specs.Figures.{fit}
use Rattle.au_folds.specs.Kept.{magnitudes_of}
use Rattle.au_folds.specs.Puts.{put_at}
use Rattle.au_folds.proofs.PutLaws.{handed, next_put, some_leaves, term_grows}
use Rattle.au_folds.proofs.numbers.add_terms.Goals as goal

pub returns-in_err-add_term : goal.returns-in_err-add_term
returns-in_err-add_term c =
    let places = c.args.places.now in
    let terms = c.args.terms.now in
    let sums = c.loop-i.sums.items in
    let i = c.loop-i.i in
    let place = get_or places i 0 in
    let term = get_or terms i (pos 0) in
    let within : i < length terms = omega (arith, c.requires.long, c.loop-i-test.true) in
    let kept : to_z w128 (of_z w128 term) ≡ term = search (arith, ints, to_z-of_z) in
    let all = ap (λ (ss : List Sum). fit (magnitudes_of ss)) (next_put (with_term no_terms) with_term sums places terms i (pos 0) c.loop-i-test.true within ∙ c.loop-i.invariant.sums) in
    handed c.from_residual.result _ c.in_err-add_term.field-0.0 _ c.from_residual.ensures.1
    (λ over.
    let one : fit (magnitudes_of (put_at (with_term no_terms) with_term sums place term)) ≡ false =
    ap (λ (z : ℤ). fit (magnitudes_of (put_at (with_term no_terms) with_term sums place z))) (sym kept) ∙ c.in_err-add_term.ensures over in
    sym all ∙ some_leaves (with_term no_terms) with_term term_grows (put_at (with_term no_terms) with_term sums place term) (drop (i + 1) places) (drop (i + 1) terms) one)
