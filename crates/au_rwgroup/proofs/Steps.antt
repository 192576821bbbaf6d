-- One item more in a term, a list of columns or of aggregates, or a row of zeros.
use Rattle.std.specs.Prelude.{◌≡◌, ◌<◌, ℕ, zero, suc, ◌+◌, ◌-◌, ◌*◌, List, [], ◌∷◌, ◌++◌, drop, length, replicate}
use Rattle.std.proofs.Common.{arith, sym, get_or, ◌∙◌, ap, append_assoc}
use Rattle.std.proofs.lemmas.List.{drop_more}
use Rattle.au_algebra.specs.declared.query.Agg.{Agg}
use Rattle.au_algebra.specs.declared.query.Agg.TheVariants as agg
use Rattle.au_plain.specs.declared.plan.PAgg.{PAgg}
use Rattle.au_plain.specs.declared.plan.PAgg.TheVariants.{Sum}
use Rattle.au_plain.specs.PTerms.{PTerm, And}
use Rattle.au_rwgroup.specs.Groups.{sure, all_sure}
use Rattle.au_rwgroup.specs.Totals.{agg_place, sum_terms, total_columns, total_sums}

-- the test of the first range, and then of the others
pub sure_step : (i a n : ℕ) → a ≡ i + 3 → 1 < n → And (sure i) (all_sure a (n - 1)) ≡ all_sure i n
sure_step i a zero next h = let never : ⊥ = omega (arith, h) in absurd never
sure_step i a (suc zero) next h = let never : ⊥ = omega (arith, h) in absurd never
sure_step i a (suc (suc n)) next h = let e : suc (suc n) - 1 ≡ suc n = omega arith in λ k. And (sure i) (all_sure (next k) (e k))

-- one value, and then those that are left
pub repeat_step : {A : Type 0} (xs : List A) (x : A) (n : ℕ) → 0 < n → (xs ++ x ∷ []) ++ replicate (n - 1) x ≡ xs ++ replicate n x
repeat_step xs x zero h = let never : ⊥ = omega (arith, h) in absurd never
repeat_step xs x (suc n) h =
    ap (λ m. (xs ++ x ∷ []) ++ replicate m x) (let e : suc n - 1 ≡ n = omega arith in e) ∙ append_assoc xs (x ∷ []) (replicate n x)

module _ (aggs : List Agg) (i : ℕ) (within : i < length aggs) where
  -- what a row adds to the sum at hand, and then to the others
  pub columns_step : (t : ℕ) (xs : List PTerm) (own : ℕ) (d : Agg) → own ≡ 3 * agg_place (get_or aggs i d) → (xs ++ sum_terms t own) ++ total_columns t (drop (i + 1) aggs) ≡ xs ++ total_columns t (drop i aggs)
  columns_step t xs own d e =
      (λ j. (xs ++ sum_terms t (e j)) ++ total_columns t (drop (i + 1) aggs))
      ∙ append_assoc xs (sum_terms t (3 * agg_place (get_or aggs i d))) (total_columns t (drop (i + 1) aggs))
      ∙ (λ j. xs ++ total_columns t (sym (drop_more aggs i d within) j))

  -- three sums, and then the others
  pub sums_step : (xs : List PAgg) (at next : ℕ) → next ≡ at + 3 → (xs ++ (Sum at ∷ Sum (at + 1) ∷ Sum (at + 2) ∷ [])) ++ total_sums next (drop (i + 1) aggs) ≡ xs ++ total_sums at (drop i aggs)
  sums_step xs at next e =
      let d = agg.Sum 0 in
      (λ k. (xs ++ (Sum at ∷ Sum (at + 1) ∷ Sum (at + 2) ∷ [])) ++ total_sums (e k) (drop (i + 1) aggs))
      ∙ append_assoc xs (Sum at ∷ Sum (at + 1) ∷ Sum (at + 2) ∷ []) (total_sums (at + 3) (drop (i + 1) aggs))
      ∙ (λ j. xs ++ total_sums at (sym (drop_more aggs i d within) j))
