-- Sums of two lists put together.
use Rattle.std.specs.Prelude.{◌≡◌, ◌+◌, ◌^◌, true, false, List, [], ◌∷◌, ◌++◌, ℤ, pos, ◌+ℤ◌, unsigned_abs, Result, Ok, Err, MatchResult}
use Rattle.std.proofs.Common.{sym, ap, ◌∙◌, arith, le-leb, leb-true}
use Rattle.std.proofs.lemmas.Int.{ints}
use Rattle.au_value.specs.Adding.{Sum, sum_of, no_terms}
use Rattle.au_value.specs.Joining.{joined_sum}
use borrow.Author.Tests.{lt-leb}
use Rattle.au_expr.specs.declared.fault.EvalFault.{EvalFault}
use Rattle.au_expr.specs.declared.fault.EvalFault.TheVariants as fault
use Rattle.au_evaltests.specs.Summed.{IsSummed, summed, too_large}

-- adding nothing
pub joined_none : (s : Sum) → joined_sum no_terms s ≡ s
joined_none s = λ i. sum_of (let e : pos 0 +ℤ s.total ≡ s.total = omega (arith, ints) in e i) (let e : 0 + s.magnitude ≡ s.magnitude = omega arith in e i)

pub joined_again : (s t u : Sum) → joined_sum (joined_sum s t) u ≡ joined_sum s (joined_sum t u)
joined_again s t u =
    λ i. sum_of (let e : (s.total +ℤ t.total) +ℤ u.total ≡ s.total +ℤ (t.total +ℤ u.total) = omega (arith, ints) in e i)
    (let e : (s.magnitude + t.magnitude) + u.magnitude ≡ s.magnitude + (t.magnitude + u.magnitude) = omega arith in e i)

pub summed-append : (xs ys : List ℤ) → summed (xs ++ ys) ≡ joined_sum (summed xs) (summed ys)
summed-append [] ys = sym (joined_none (summed ys))
summed-append (x ∷ xs) ys = ap (joined_sum (sum_of x (unsigned_abs x))) (summed-append xs ys) ∙ sym (joined_again (sum_of x (unsigned_abs x)) (summed xs) (summed ys))

magnitudes : (xs ys : List ℤ) → (summed (xs ++ ys)).magnitude ≡ (summed xs).magnitude + (summed ys).magnitude
magnitudes xs ys = ap (λ s. s.magnitude) (summed-append xs ys)

pub front_large : (xs ys : List ℤ) → too_large xs ≡ true → too_large (xs ++ ys) ≡ true
front_large xs ys h = let a = leb-true (2 ^ 127) (summed xs).magnitude h in let b = magnitudes xs ys in le-leb (2 ^ 127) (summed (xs ++ ys)).magnitude (omega arith)

pub back_large : (xs ys : List ℤ) → too_large ys ≡ true → too_large (xs ++ ys) ≡ true
back_large xs ys h = let a = leb-true (2 ^ 127) (summed ys).magnitude h in let b = magnitudes xs ys in le-leb (2 ^ 127) (summed (xs ++ ys)).magnitude (omega arith)

-- a sum of terms that fits is not too large
pub joined_fits : (r : Result Sum EvalFault) (zs : List ℤ) → MatchResult r (λ s. IsSummed s zs) (λ f. (f ≡ fault.Overflow) × (too_large zs ≡ true)) → MatchResult r (λ s. IsSummed s zs × (too_large zs ≡ false)) (λ f. f ≡ fault.Overflow → too_large zs ≡ true)
joined_fits (Ok s) zs h = let m = ap (λ t. t.magnitude) h.0 in let small = h.1 in (h, lt-leb (2 ^ 127) (summed zs).magnitude (omega arith))
joined_fits (Err f) zs h = λ _. h.1
