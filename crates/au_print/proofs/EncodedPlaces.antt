-- The places of an encoded row: three for each range, then those of the triple.
use Rattle.std.specs.Prelude.{◌≡◌, ◌<◌, ◌+◌, ◌*◌, ℕ, zero, suc, List, [], ◌∷◌, length, drop, slice_get, Some, pos}
use Rattle.std.proofs.Common.{refl, ap, ◌∙◌, arith, subst}
use Rattle.au_value.specs.declared.value.Value.{Value}
use Rattle.au_value.specs.declared.value.Value.TheVariants.{Int}
use Rattle.au_value.specs.Ranges.{Span, IsRange, range}
use Rattle.au_annot.specs.Triples.{counts}
use Rattle.au_algebra.specs.Lists.{value_at}
use Rattle.au_encode.specs.Encode.{AreCounts, IsEncoded, decode_annot, decode_cells}

-- the range that stands from a place on
abbrev pub range_at : List Value → ℕ → Span
range_at vs p = range (value_at vs p) (value_at vs (p + 1)) (value_at vs (p + 2))

-- a range stands from a place on, and behind it so many more
pub record RangeFrom (c : ℕ) (vs : List Value) (p : ℕ) : Type 0 where
  pub within : p + 2 < length vs
  pub ordered : IsRange (range_at vs p)
  pub rest : IsEncoded c (drop (p + 3) vs)
  pub cells : decode_cells (suc c) (drop p vs) ≡ range_at vs p ∷ decode_cells c (drop (p + 3) vs)

-- one place further
later_value : (v : Value) (vs : List Value) (p k : ℕ) → value_at vs (p + k) ≡ value_at (v ∷ vs) (suc p + k)
later_value v vs p k = let is : suc (p + k) ≡ suc p + k = omega arith in ap (value_at (v ∷ vs)) is

later_range : (v : Value) (vs : List Value) (p : ℕ) → range_at vs p ≡ range_at (v ∷ vs) (suc p)
later_range v vs p = λ i. range (value_at vs p) (later_value v vs p 1 i) (later_value v vs p 2 i)

later_rest : (v : Value) (vs : List Value) (p : ℕ) → drop (p + 3) vs ≡ drop (suc p + 3) (v ∷ vs)
later_rest v vs p = let is : suc (p + 3) ≡ suc p + 3 = omega arith in ap (λ n. drop n (v ∷ vs)) is

pub range_from : (c : ℕ) (vs : List Value) (p : ℕ) → IsEncoded (suc c) (drop p vs) → RangeFrom c vs p
range_from c (l ∷ s ∷ h ∷ vs) zero ok = record { within = omega arith; ordered = ok.0; rest = ok.1; cells = refl }
range_from c [] zero ok = absurd ok
range_from c (l ∷ []) zero ok = absurd ok
range_from c (l ∷ s ∷ []) zero ok = absurd ok
range_from c [] (suc p) ok = absurd ok
range_from c (v ∷ vs) (suc p) ok =
    let r = range_from c vs p ok in
    record {
      within = omega (arith, r.within);
      ordered = subst IsRange (later_range v vs p) r.ordered;
      rest = subst (IsEncoded c) (later_rest v vs p) r.rest;
      cells = r.cells ∙ (λ i. later_range v vs p i ∷ decode_cells c (later_rest v vs p i));
    }

-- the counts of a triple stand from the place n on
pub record CountsFrom (c : ℕ) (vs : List Value) (n : ℕ) : Type 0 where
  pub least : ℕ
  pub guess : ℕ
  pub most : ℕ
  pub within : n + 2 < length vs
  pub at_least : slice_get vs n ≡ Some (Int (pos least))
  pub at_guess : slice_get vs (n + 1) ≡ Some (Int (pos guess))
  pub at_most : slice_get vs (n + 2) ≡ Some (Int (pos most))
  pub is : decode_annot c vs ≡ counts least guess most

-- three places further
later : (l s h : Value) (vs : List Value) (m k : ℕ) → slice_get (l ∷ s ∷ h ∷ vs) (suc (suc (suc m)) + k) ≡ slice_get vs (m + k)
later l s h vs m k = let is : suc (suc (suc m)) + k ≡ suc (suc (suc (m + k))) = omega arith in ap (slice_get (l ∷ s ∷ h ∷ vs)) is

later_counts : (c : ℕ) (l s h : Value) (vs : List Value) (m : ℕ) → CountsFrom c vs m → CountsFrom (suc c) (l ∷ s ∷ h ∷ vs) (suc (suc (suc m)))
later_counts c l s h vs m r = record {
  least = r.least;
  guess = r.guess;
  most = r.most;
  within = omega (arith, r.within);
  at_least = r.at_least;
  at_guess = later l s h vs m 1 ∙ r.at_guess;
  at_most = later l s h vs m 2 ∙ r.at_most;
  is = r.is;
}

first_counts : (vs : List Value) → AreCounts vs → CountsFrom 0 vs 0
first_counts (Int (pos l) ∷ Int (pos g) ∷ Int (pos m) ∷ []) ok = record {
  least = l;
  guess = g;
  most = m;
  within = omega arith;
  at_least = refl;
  at_guess = refl;
  at_most = refl;
  is = refl;
}
first_counts _ ok = absurd ok

pub counts_from : (c : ℕ) (vs : List Value) (n : ℕ) → IsEncoded c vs → n ≡ 3 * c → CountsFrom c vs n
counts_from zero vs n ok at = let first : 0 ≡ n = omega (arith, at) in subst (CountsFrom 0 vs) first (first_counts vs ok)
counts_from (suc c) (l ∷ s ∷ h ∷ vs) n ok at =
    let next : suc (suc (suc (3 * c))) ≡ n = omega (arith, at) in
    subst (CountsFrom (suc c) (l ∷ s ∷ h ∷ vs)) next (later_counts c l s h vs (3 * c) (counts_from c vs (3 * c) ok.1 refl))
counts_from (suc c) _ n ok at = absurd ok
