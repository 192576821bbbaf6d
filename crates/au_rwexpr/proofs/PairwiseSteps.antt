-- One column more in a test of two lists of ranges.
use Rattle.std.specs.Prelude.{◌≡◌, ◌<◌, ℕ, zero, suc, ◌+◌, ◌-◌}
use Rattle.std.proofs.Common.{arith}
use Rattle.au_plain.specs.declared.expr.Comparison2.TheVariants.{Equal}
use Rattle.au_plain.specs.PTerms.{Compare, And}
use Rattle.au_rwexpr.specs.Flatten.{sg, overlap_term, certainly_equal_term}
use Rattle.au_rwexpr.specs.Meets.{meets_term, same_guesses, surely_equal}

module _ (i j a b : ℕ) (left : a ≡ i + 3) (right : b ≡ j + 3) where
  pub meets_step : (n : ℕ) → 0 < n → And (overlap_term i j) (meets_term a b (n - 1)) ≡ meets_term i j n
  meets_step zero h = let never : ⊥ = omega (arith, h) in absurd never
  meets_step (suc n) h = let e : suc n - 1 ≡ n = omega arith in λ k. And (overlap_term i j) (meets_term (left k) (right k) (e k))

  pub same_step : (n : ℕ) → 0 < n → And (Compare Equal (sg i) (sg j)) (same_guesses a b (n - 1)) ≡ same_guesses i j n
  same_step zero h = let never : ⊥ = omega (arith, h) in absurd never
  same_step (suc n) h = let e : suc n - 1 ≡ n = omega arith in λ k. And (Compare Equal (sg i) (sg j)) (same_guesses (left k) (right k) (e k))

  pub surely_step : (n : ℕ) → 0 < n → And (certainly_equal_term i j) (surely_equal a b (n - 1)) ≡ surely_equal i j n
  surely_step zero h = let never : ⊥ = omega (arith, h) in absurd never
  surely_step (suc n) h = let e : suc n - 1 ≡ n = omega arith in λ k. And (certainly_equal_term i j) (surely_equal (left k) (right k) (e k))
