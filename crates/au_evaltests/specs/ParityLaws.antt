-- A list overflows wherever a part of it does.
use Rattle.std.specs.Prelude.{◌≡◌, ◌||◌, ◌++◌, ℕ, Bool, true, false, List, refl}
use Rattle.std.proofs.Common.{sym, ap, subst, ◌∙◌}
use mathlib.Core.List.{map-append}
use Rattle.au_evaltests.specs.Summed.{too_large}
use Rattle.au_evaltests.specs.SumLaws.{front_large, back_large}
use Rattle.au_evaltests.specs.Parities.{either_large, term_of, terms}

or_true : (a b c d : Bool) → (a ≡ true → c ≡ true) → (b ≡ true → d ≡ true) → a || b ≡ true → c || d ≡ true
or_true true b c d first second h = rw (first refl) refl
or_true false b true d first second h = refl
or_true false b false d first second h = second h

front_of : (rest : ℕ) (xs ys : List ℕ) → too_large (terms rest xs) ≡ true → too_large (terms rest (xs ++ ys)) ≡ true
front_of rest xs ys h = ap too_large (map-append (term_of rest) xs ys) ∙ front_large (terms rest xs) (terms rest ys) h

back_of : (rest : ℕ) (xs ys : List ℕ) → too_large (terms rest ys) ≡ true → too_large (terms rest (xs ++ ys)) ≡ true
back_of rest xs ys h = ap too_large (map-append (term_of rest) xs ys) ∙ back_large (terms rest xs) (terms rest ys) h

pub front_either : (xs ys : List ℕ) → either_large xs ≡ true → either_large (xs ++ ys) ≡ true
front_either xs ys = or_true (too_large (terms 0 xs)) (too_large (terms 1 xs)) (too_large (terms 0 (xs ++ ys))) (too_large (terms 1 (xs ++ ys))) (front_of 0 xs ys) (front_of 1 xs ys)

pub back_either : (xs ys : List ℕ) → either_large ys ≡ true → either_large (xs ++ ys) ≡ true
back_either xs ys = or_true (too_large (terms 0 ys)) (too_large (terms 1 ys)) (too_large (terms 0 (xs ++ ys))) (too_large (terms 1 (xs ++ ys))) (back_of 0 xs ys) (back_of 1 xs ys)
