-- The numbers of a sum lie in the range where the sums of the magnitudes do.
use Rattle.std.specs.Prelude.{◌≡◌, ℕ, ◌-◌, ◌^◌, ◌<◌, ◌≤◌, true, false, ◌&&◌, List, [], ◌∷◌, ◌++◌, map, sum_by, ℤ, pos, negsuc, nat_abs}
use Rattle.std.specs.List.{list_all}
use Rattle.std.proofs.Common.{arith, refl, sym, ◌∙◌, ap}
use Rattle.std.proofs.lemmas.Bool.{and_parts, and_from, false_from_ne_true}
use Rattle.std.proofs.lemmas.List.Folds.{list_all-append}
use Rattle.std.proofs.lemmas.List.Sums.{sum_by-cons}
use Rattle.au_value.specs.Numeral.{is_i128}
use borrow.Author.Tests.{le-leb, lt-ltb, ltb-true}
use Rattle.au_algebra.specs.declared.query.Agg.TheVariants.{Sum}
use Rattle.au_algebra.specs.Bounded.{Grouped, lower_term, guess_term, upper_term}
use Rattle.au_algebra.specs.Fits.{term_numbers, agg_numbers}
use Rattle.au_kfull.specs.Groups.{MagnitudesFit}
use Rattle.au_kfull.proofs.Fitting.{count_in_range}

small_fits : (t : ℤ) → nat_abs t < 2 ^ 127 → is_i128 t ≡ true
small_fits (pos n) h = count_in_range n ∙ lt-ltb n (2 ^ 127) h
small_fits (negsuc n) h = let le : n ≤ 2 ^ 127 - 1 = omega (arith, h) in and_from _ _ (le-leb n (2 ^ 127 - 1) le) refl

-- terms whose magnitudes are small together
terms_fit : (ts : List ℤ) → sum_by nat_abs ts < 2 ^ 127 → list_all is_i128 ts ≡ true
terms_fit [] h = refl
terms_fit (t ∷ ts) h =
    let whole = sum_by-cons nat_abs t ts in
    let one : nat_abs t < 2 ^ 127 = omega (arith, h, whole) in
    let rest : sum_by nat_abs ts < 2 ^ 127 = omega (arith, h, whole) in
    and_from (is_i128 t) (list_all is_i128 ts) (small_fits t one) (terms_fit ts rest)

fit_from_sum : (ts : List ℤ) → sum_by nat_abs ts < 2 ^ 127 → list_all is_i128 (term_numbers ts) ≡ true
fit_from_sum ts h =
    and_from (is_i128 (pos (sum_by nat_abs ts))) (list_all is_i128 ts)
    (count_in_range (sum_by nat_abs ts) ∙ lt-ltb (sum_by nat_abs ts) (2 ^ 127) h)
    (terms_fit ts h)

sum_from_fit : (ts : List ℤ) → list_all is_i128 (term_numbers ts) ≡ true → sum_by nat_abs ts < 2 ^ 127
sum_from_fit ts h =
    ltb-true (sum_by nat_abs ts) (2 ^ 127) (sym (count_in_range (sum_by nat_abs ts)) ∙ (and_parts (is_i128 (pos (sum_by nat_abs ts))) (list_all is_i128 ts) h).0)

module _ (g : Grouped) (c : ℕ) where
  abbrev low : List ℤ
  low = map (lower_term g c) g.members

  abbrev guessed : List ℤ
  guessed = map (guess_term c) g.belonging

  abbrev high : List ℤ
  high = map (upper_term g c) g.members

  by_parts : list_all is_i128 (agg_numbers g (Sum c)) ≡ (list_all is_i128 (term_numbers low) && (list_all is_i128 (term_numbers guessed) && list_all is_i128 (term_numbers high)))
  by_parts =
      list_all-append is_i128 (term_numbers low) (term_numbers guessed ++ term_numbers high)
      ∙ ap (λ b. list_all is_i128 (term_numbers low) && b) (list_all-append is_i128 (term_numbers guessed) (term_numbers high))

  -- small sums make all numbers fit
  pub sum_numbers_fit : MagnitudesFit g c → list_all is_i128 (agg_numbers g (Sum c)) ≡ true
  sum_numbers_fit h =
      by_parts ∙ and_from _ _ (fit_from_sum low h.0) (and_from _ _ (fit_from_sum guessed h.1) (fit_from_sum high h.2))

  -- and where one is not, not all numbers fit
  pub sum_numbers_do_not : (MagnitudesFit g c → ⊥) → list_all is_i128 (agg_numbers g (Sum c)) ≡ false
  sum_numbers_do_not never =
      false_from_ne_true (list_all is_i128 (agg_numbers g (Sum c)))
      (λ t. let p = and_parts (list_all is_i128 (term_numbers low)) _ (sym by_parts ∙ t) in
      let q = and_parts (list_all is_i128 (term_numbers guessed)) (list_all is_i128 (term_numbers high)) p.1 in
      never (sum_from_fit low p.0, sum_from_fit guessed q.0, sum_from_fit high q.1))
