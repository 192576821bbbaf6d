-- Tests of two lists of columns of the same kinds are flags.
use Rattle.std.specs.Prelude.{◌≡◌, ℕ, zero, suc, ◌+◌, List, [], ◌∷◌, length}
use Rattle.std.proofs.Common.{arith, refl}
use Rattle.au_value.specs.declared.kinds.Kind.{Kind}
use Rattle.au_value.specs.declared.kinds.Kind.TheVariants.{Flag}
use Rattle.au_plain.specs.declared.expr.Comparison2.TheVariants.{Equal}
use Rattle.au_plain.specs.PTerms.{Compare}
use Rattle.au_rwexpr.specs.Flatten.{sg, overlap_term, certainly_equal_term}
use Rattle.au_rwexpr.specs.Meets.{meets_term, same_guesses, surely_equal}
use Rattle.au_rwexpr.proofs.Coded.{own}
use Rattle.au_rwexpr.proofs.OnKinds.{HasKind, column_kind, test_kind, and_kind, overlap_kind, equal_kind}
use Rattle.au_rwexpr.proofs.Places.{EndsOfAll}

module _ (row : List Kind) where
  pub meets_kind : (i j k : ℕ) (ks : List Kind) → length ks ≡ k → EndsOfAll own own own row i ks → EndsOfAll own own own row j ks → HasKind row (meets_term i j k) Flag
  meets_kind i j zero ks e x y = λ more. refl
  meets_kind i j (suc k) [] e x y = let never : ⊥ = omega (arith, e) in absurd never
  meets_kind i j (suc k) (z ∷ ks) e x y =
      and_kind row (overlap_term i j) (meets_term (i + 3) (j + 3) k) (overlap_kind row i j z x.0 y.0) (meets_kind (i + 3) (j + 3) k ks (omega (arith, e)) x.1 y.1)

  pub same_kind : (i j k : ℕ) (ks : List Kind) → length ks ≡ k → EndsOfAll own own own row i ks → EndsOfAll own own own row j ks → HasKind row (same_guesses i j k) Flag
  same_kind i j zero ks e x y = λ more. refl
  same_kind i j (suc k) [] e x y = let never : ⊥ = omega (arith, e) in absurd never
  same_kind i j (suc k) (z ∷ ks) e x y =
      and_kind row (Compare Equal (sg i) (sg j)) (same_guesses (i + 3) (j + 3) k)
      (test_kind row (sg i) (sg j) Equal z (column_kind row (i + 1) z x.0.sg) (column_kind row (j + 1) z y.0.sg)) (same_kind (i + 3) (j + 3) k ks (omega (arith, e)) x.1 y.1)

  pub surely_kind : (i j k : ℕ) (ks : List Kind) → length ks ≡ k → EndsOfAll own own own row i ks → EndsOfAll own own own row j ks → HasKind row (surely_equal i j k) Flag
  surely_kind i j zero ks e x y = λ more. refl
  surely_kind i j (suc k) [] e x y = let never : ⊥ = omega (arith, e) in absurd never
  surely_kind i j (suc k) (z ∷ ks) e x y =
      and_kind row (certainly_equal_term i j) (surely_equal (i + 3) (j + 3) k) (equal_kind row i j z x.0 y.0) (surely_kind (i + 3) (j + 3) k ks (omega (arith, e)) x.1 y.1)
