-- The numbers of tests of two lists of ranges fit where those of the ranges do.
use Rattle.std.specs.Prelude.{◌≡◌, ℕ, zero, suc, ◌+◌, List, [], ◌∷◌, length}
use Rattle.std.proofs.Common.{arith, refl}
use Rattle.au_value.specs.declared.value.Value.{Value}
use Rattle.au_value.specs.Ranges.{Span}
use Rattle.au_plain.specs.declared.expr.Comparison2.TheVariants.{Equal, AtMost}
use Rattle.au_plain.specs.PTerms.{Compare, And}
use Rattle.au_encode.proofs.HeldCells.{AllFit}
use Rattle.au_rwexpr.specs.Flatten.{lo, sg, hi, overlap_term, certainly_equal_term}
use Rattle.au_rwexpr.proofs.Careful.{Fits, compare_fits, and_fits}
use Rattle.au_rwexpr.proofs.Coded.{rl, rs, rh}
use Rattle.au_rwexpr.proofs.OnNumbers.{lo_fits, sg_fits, hi_fits}
use Rattle.au_rwexpr.proofs.Places.{EndsOfAll}
use Rattle.au_rwexpr.specs.Meets.{meets_term, same_guesses, surely_equal}

module _ (row : List Value) where
  abbrev There : ℕ → List Span → Type 0
  There i xs = EndsOfAll rl rs rh row i xs

  pub meets_fits : (i j k : ℕ) (xs ys : List Span) → length xs ≡ k → length ys ≡ k → There i xs → There j ys → AllFit xs → AllFit ys → Fits row (meets_term i j k)
  meets_fits i j zero xs ys e h x y f g = λ more. refl
  meets_fits i j (suc k) [] ys e h x y f g = let never : ⊥ = omega (arith, e) in absurd never
  meets_fits i j (suc k) (a ∷ xs) [] e h x y f g = let never : ⊥ = omega (arith, h) in absurd never
  meets_fits i j (suc k) (a ∷ xs) (b ∷ ys) e h x y f g =
      let first = compare_fits row (lo i) (hi j) (lo_fits row i a x.0 f.0) (hi_fits row j b y.0 g.0) AtMost in
      let second = compare_fits row (lo j) (hi i) (lo_fits row j b y.0 g.0) (hi_fits row i a x.0 f.0) AtMost in
      and_fits row (overlap_term i j) (meets_term (i + 3) (j + 3) k) (and_fits row (Compare AtMost (lo i) (hi j)) (Compare AtMost (lo j) (hi i)) first second)
      (meets_fits (i + 3) (j + 3) k xs ys (omega (arith, e)) (omega (arith, h)) x.1 y.1 f.1 g.1)

  pub same_fits : (i j k : ℕ) (xs ys : List Span) → length xs ≡ k → length ys ≡ k → There i xs → There j ys → AllFit xs → AllFit ys → Fits row (same_guesses i j k)
  same_fits i j zero xs ys e h x y f g = λ more. refl
  same_fits i j (suc k) [] ys e h x y f g = let never : ⊥ = omega (arith, e) in absurd never
  same_fits i j (suc k) (a ∷ xs) [] e h x y f g = let never : ⊥ = omega (arith, h) in absurd never
  same_fits i j (suc k) (a ∷ xs) (b ∷ ys) e h x y f g =
      and_fits row (Compare Equal (sg i) (sg j)) (same_guesses (i + 3) (j + 3) k)
      (compare_fits row (sg i) (sg j) (sg_fits row i a x.0 f.0) (sg_fits row j b y.0 g.0) Equal)
      (same_fits (i + 3) (j + 3) k xs ys (omega (arith, e)) (omega (arith, h)) x.1 y.1 f.1 g.1)

  pub surely_fits : (i j k : ℕ) (xs ys : List Span) → length xs ≡ k → length ys ≡ k → There i xs → There j ys → AllFit xs → AllFit ys → Fits row (surely_equal i j k)
  surely_fits i j zero xs ys e h x y f g = λ more. refl
  surely_fits i j (suc k) [] ys e h x y f g = let never : ⊥ = omega (arith, e) in absurd never
  surely_fits i j (suc k) (a ∷ xs) [] e h x y f g = let never : ⊥ = omega (arith, h) in absurd never
  surely_fits i j (suc k) (a ∷ xs) (b ∷ ys) e h x y f g =
      let al = lo_fits row i a x.0 f.0 in
      let bl = lo_fits row j b y.0 g.0 in
      let left = compare_fits row (lo i) (hi i) al (hi_fits row i a x.0 f.0) Equal in
      let right = compare_fits row (lo j) (hi j) bl (hi_fits row j b y.0 g.0) Equal in
      let certain = and_fits row (Compare Equal (lo i) (hi i)) (Compare Equal (lo j) (hi j)) left right in
      and_fits row (certainly_equal_term i j) (surely_equal (i + 3) (j + 3) k)
      (and_fits row (And (Compare Equal (lo i) (hi i)) (Compare Equal (lo j) (hi j))) (Compare Equal (lo i) (lo j)) certain (compare_fits row (lo i) (lo j) al bl Equal))
      (surely_fits (i + 3) (j + 3) k xs ys (omega (arith, e)) (omega (arith, h)) x.1 y.1 f.1 g.1)
