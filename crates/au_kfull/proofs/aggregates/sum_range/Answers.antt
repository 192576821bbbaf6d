-- The three sums are those of the output.
use Rattle.std.proofs.Common.{◌≡◌, ◌<◌, ◌^◌, ◌∙◌, sym, ap, subst, arith, map}
use Rattle.std.proofs.lemmas.Int.{to_z-of_z, ints}
use mir.Val.{to_z, of_z}
use mir.Syntax.{w128}
use Rattle.au_value.specs.Ranges.{IsRange, range}
use Rattle.au_value.specs.declared.value.Value.TheVariants.{Int}
use Rattle.au_algebra.specs.Bounded.{guess_if}
use Rattle.au_algebra.specs.Lists.{int_sum}
use Rattle.au_kfull.specs.declared.sums.Bound.TheVariants.{Lower, Guess, Upper}
use Rattle.au_kfull.specs.Groups.{seen, term_of, magnitude}
use Rattle.au_kfull.proofs.aggregates.sum_range.Goals as goal
use Rattle.au_kfull.proofs.aggregates.sum_range.Goals.{In_ok-hi}

back_lo : (c : In_ok-hi) → to_z w128 (of_z w128 c.in_ok-lo.lo) ≡ c.in_ok-lo.lo
back_lo c = search (arith, ints, to_z-of_z, c.sum.ensures)

back_sg : (c : In_ok-hi) → to_z w128 (of_z w128 c.in_ok-sg.sg) ≡ c.in_ok-sg.sg
back_sg c = search (arith, ints, to_z-of_z, c.sum-2.ensures)

back_hi : (c : In_ok-hi) → to_z w128 (of_z w128 c.in_ok-hi.hi) ≡ c.in_ok-hi.hi
back_hi c = search (arith, ints, to_z-of_z, c.sum-3.ensures)

lo_is : (c : In_ok-hi) → to_z w128 (of_z w128 c.in_ok-lo.lo) ≡ int_sum (map (term_of (seen c.args.group.now) Lower c.args.at) c.args.group.now.members.items)
lo_is c = back_lo c ∙ c.in_ok-lo.ensures.1 ∙ ap (λ rows. int_sum (map (term_of (seen c.args.group.now) Lower c.args.at) rows)) c.deref.ensures.value

sg_is : (c : In_ok-hi) → to_z w128 (of_z w128 c.in_ok-sg.sg) ≡ int_sum (map (term_of (seen c.args.group.now) Guess c.args.at) c.args.group.now.belonging.items)
sg_is c = back_sg c ∙ c.in_ok-sg.ensures.1 ∙ ap (λ rows. int_sum (map (term_of (seen c.args.group.now) Guess c.args.at) rows)) c.deref-2.ensures.value

hi_is : (c : In_ok-hi) → to_z w128 (of_z w128 c.in_ok-hi.hi) ≡ int_sum (map (term_of (seen c.args.group.now) Upper c.args.at) c.args.group.now.members.items)
hi_is c = back_hi c ∙ c.in_ok-hi.ensures.1 ∙ ap (λ rows. int_sum (map (term_of (seen c.args.group.now) Upper c.args.at) rows)) c.deref-3.ensures.value

pub sum_between-requires : goal.sum_between-requires
sum_between-requires c =
    subst (λ r. IsRange (guess_if c.args.group.now.is_guessed r)) (λ i. range (Int (sym (lo_is c) i)) (Int (sym (sg_is c) i)) (Int (sym (hi_is c) i))) c.requires

pub returns : goal.returns
returns c =
    let g = seen c.args.group.now in
    let at = c.args.at in
    let lo_back : to_z w128 (of_z w128 c.in_ok-lo.lo) ≡ c.in_ok-lo.lo = search (arith, ints, to_z-of_z, c.sum.ensures) in
    let sg_back : to_z w128 (of_z w128 c.in_ok-sg.sg) ≡ c.in_ok-sg.sg = search (arith, ints, to_z-of_z, c.sum-2.ensures) in
    let hi_back : to_z w128 (of_z w128 c.in_ok-hi.hi) ≡ c.in_ok-hi.hi = search (arith, ints, to_z-of_z, c.sum-3.ensures) in
    let lo = lo_back ∙ c.in_ok-lo.ensures.1 ∙ ap (λ rows. int_sum (map (term_of g Lower at) rows)) c.deref.ensures.value in
    let sg = sg_back ∙ c.in_ok-sg.ensures.1 ∙ ap (λ rows. int_sum (map (term_of g Guess at) rows)) c.deref-2.ensures.value in
    let hi = hi_back ∙ c.in_ok-hi.ensures.1 ∙ ap (λ rows. int_sum (map (term_of g Upper at) rows)) c.deref-3.ensures.value in (
      (
        subst (λ rows. magnitude g Lower at rows < 2 ^ 127) c.deref.ensures.value c.in_ok-lo.ensures.0,
        subst (λ rows. magnitude g Guess at rows < 2 ^ 127) c.deref-2.ensures.value c.in_ok-sg.ensures.0,
        subst (λ rows. magnitude g Upper at rows < 2 ^ 127) c.deref-3.ensures.value c.in_ok-hi.ensures.0,
      ),
      c.sum_between.ensures ∙ (λ i. guess_if c.args.group.now.is_guessed (range (Int (lo i)) (Int (sg i)) (Int (hi i)))),
    )
