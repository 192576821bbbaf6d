-- Whether numbers lie in the range, row by row.
use Rattle.std.specs.Prelude.{◌≡◌, ℕ, zero, suc, ◌+◌, ◌-◌, ◌^◌, ◌<◌, ◌≤◌, Bool, true, false, ◌&&◌, List, [], ◌∷◌, length, map, drop, pos}
use Rattle.std.specs.List.{list_all}
use Rattle.std.proofs.Common.{arith, refl, sym, ◌∙◌, ap, inl, inr, get_or}
use Rattle.std.proofs.lemmas.Bool.{false_from_ne_true, cases_lt}
use Rattle.au_value.specs.Numeral.{is_i128}
use borrow.Author.Tests.{leb-true, ltb-true, le-leb, lt-ltb}
use Rattle.au_annot.specs.Counts.{count_fits}
use Rattle.au_annot.specs.Triples as triples
use Rattle.au_algebra.specs.Bounded.{RangeRow}
use Rattle.au_algebra.specs.Fits.{triples_fit}
use Rattle.au_kfull.proofs.RowByRow.{split_at}

-- a count lies in the range where it is below 2^127
pub count_in_range : (n : ℕ) → is_i128 (pos n) ≡ count_fits n
count_in_range n = elim (cases_lt n (2 ^ 127)) [
  | inl l ↦ (let le : n ≤ 2 ^ 127 - 1 = omega arith in le-leb n (2 ^ 127 - 1) le ∙ sym (lt-ltb n (2 ^ 127) l))
  | inr m ↦ (
      false_from_ne_true (is_i128 (pos n)) (λ t. let le = leb-true n (2 ^ 127 - 1) t in absurd (omega (arith, le, m)))
      ∙ sym (false_from_ne_true (count_fits n) (λ t. let lt = ltb-true n (2 ^ 127) t in absurd (omega (arith, lt, m)))))
]

and_three : (a b c d : Bool) → (a && (b && (c && d))) ≡ ((a && b && c) && d)
and_three true true true d = refl
and_three true true false d = refl
and_three true false c d = refl
and_three false b c d = refl

-- the triples of some rows lie in the range where each does
pub triples_fit-map : {A : Type 0} (f : A → RangeRow) (xs : List A) → triples_fit (map f xs) ≡ list_all (λ x. triples.in_range (f x).annot) xs
triples_fit-map f [] = refl
triples_fit-map f (x ∷ xs) =
    let t = (f x).annot in
    and_three (is_i128 (pos t.least)) (is_i128 (pos t.guess)) (is_i128 (pos t.most)) (triples_fit (map f xs))
    ∙ (λ i. (count_in_range t.least i && count_in_range t.guess i && count_in_range t.most i) && triples_fit-map f xs i)

nothing_left : {A : Type 0} (xs : List A) (i : ℕ) → length xs ≤ i → drop i xs ≡ []
nothing_left [] zero h = refl
nothing_left [] (suc i) h = refl
nothing_left (x ∷ xs) zero h = absurd (omega (arith, h))
nothing_left (x ∷ xs) (suc i) h = nothing_left xs i (omega (arith, h))

module _ {A : Type 0} (test : A → Bool) (xs : List A) (i : ℕ) (x : A) (here : i < length xs) (is : x ≡ get_or xs i x) (all : Bool) (so_far : list_all test (drop i xs) ≡ all) where
  whole : (test x && list_all test (drop (i + 1) xs)) ≡ all
  whole = ap (list_all test) (sym (split_at xs i x here is)) ∙ so_far

  -- where the item at hand passes, the others decide
  pub one_passes : test x ≡ true → list_all test (drop (i + 1) xs) ≡ all
  one_passes h = ap (λ b. b && list_all test (drop (i + 1) xs)) (sym h) ∙ whole

  -- and where it fails, all do
  pub one_fails : test x ≡ false → all ≡ false
  one_fails h = sym whole ∙ ap (λ b. b && list_all test (drop (i + 1) xs)) h

-- past the last item, all have passed
pub all_passed : {A : Type 0} (test : A → Bool) (xs : List A) (i : ℕ) → length xs ≤ i → list_all test (drop i xs) ≡ list_all test xs → list_all test xs ≡ true
all_passed test xs i past h = sym h ∙ ap (list_all test) (nothing_left xs i past)
