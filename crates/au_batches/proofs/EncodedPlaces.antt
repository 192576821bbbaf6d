-- The places of an encoded row: three for each range, then those of the triple.
use Rattle.std.specs.Prelude.{◌≡◌, ◌<◌, ◌≤◌, ◌+◌, ◌*◌, ℕ, zero, suc, List, [], ◌∷◌, ◌++◌, length, drop, slice_get, Option, Some, pos, get_or, unwrap_or}
use Rattle.std.proofs.Common.{refl, sym, ap, ◌∙◌, arith, subst, append_assoc}
use Rattle.std.proofs.lemmas.List.{append-nil, drop_all, drop_more}
use Rattle.au_value.specs.declared.value.Value.{Value}
use Rattle.au_value.specs.declared.value.Value.TheVariants.{Int}
use Rattle.au_value.specs.Ranges.{Span, IsRange, range}
use Rattle.au_annot.specs.Triples.{counts}
use Rattle.au_algebra.specs.Lists.{value_at}
use Rattle.au_encode.specs.Encode.{AreCounts, IsEncoded, decode_annot, decode_cells, value_count}
use Rattle.au_batches.specs.Ranges.{range_at}

-- a range stands from the place n on
pub record RangeFrom (c : ℕ) (vs : List Value) (j n : ℕ) : Type 0 where
  pub within : n + 2 < length vs
  pub ordered : IsRange (range_at vs n)
  pub here : slice_get (decode_cells c vs) j ≡ Some (range_at vs n)

-- three places further
later : (l s h : Value) (vs : List Value) (m k : ℕ) → slice_get (l ∷ s ∷ h ∷ vs) (suc (suc (suc m)) + k) ≡ slice_get vs (m + k)
later l s h vs m k = let is : suc (suc (suc m)) + k ≡ suc (suc (suc (m + k))) = omega arith in ap (slice_get (l ∷ s ∷ h ∷ vs)) is

later_value : (l s h : Value) (vs : List Value) (m k : ℕ) → value_at (l ∷ s ∷ h ∷ vs) (suc (suc (suc m)) + k) ≡ value_at vs (m + k)
later_value l s h vs m k = ap (λ (o : Option Value). unwrap_or o (Int (pos 0))) (later l s h vs m k)

later_three : (l s h : Value) (vs : List Value) (m : ℕ) → range_at (l ∷ s ∷ h ∷ vs) (suc (suc (suc m))) ≡ range_at vs m
later_three l s h vs m = λ i. range (value_at vs m) (later_value l s h vs m 1 i) (later_value l s h vs m 2 i)

later_range : (c : ℕ) (l s h : Value) (vs : List Value) (j m : ℕ) → RangeFrom c vs j m → RangeFrom (suc c) (l ∷ s ∷ h ∷ vs) (suc j) (suc (suc (suc m)))
later_range c l s h vs j m r =
    let is = later_three l s h vs m in
    record {
      within = omega (arith, r.within);
      ordered = subst IsRange (sym is) r.ordered;
      here = r.here ∙ ap Some (sym is);
    }

pub range_from : (c : ℕ) (vs : List Value) (j n : ℕ) → IsEncoded c vs → j < c → n ≡ 3 * j → RangeFrom c vs j n
range_from zero vs j n ok below at = let never : ⊥ = omega (arith, below) in absurd never
range_from (suc c) (l ∷ s ∷ h ∷ vs) zero n ok below at =
    let first : 0 ≡ n = omega (arith, at) in
    subst (RangeFrom (suc c) (l ∷ s ∷ h ∷ vs) zero) first (record { within = omega arith; ordered = ok.0; here = refl })
range_from (suc c) (l ∷ s ∷ h ∷ vs) (suc j) n ok below at =
    let next : suc (suc (suc (3 * j))) ≡ n = omega (arith, at) in
    subst (RangeFrom (suc c) (l ∷ s ∷ h ∷ vs) (suc j)) next (later_range c l s h vs j (3 * j) (range_from c vs j (3 * j) ok.1 (omega (arith, below)) refl))
range_from (suc c) _ j n ok below at = absurd ok

-- so many ranges
pub length-ranges : (c : ℕ) (vs : List Value) → IsEncoded c vs → length (decode_cells c vs) ≡ c
length-ranges zero vs ok = refl
length-ranges (suc c) (l ∷ s ∷ h ∷ vs) ok = ap suc (length-ranges c vs ok.1)
length-ranges (suc c) _ ok = absurd ok

-- one range more, and all of them
pub next_range : (all ranges more : List Span) (i : ℕ) (r s : Span) → i < length all → slice_get all i ≡ Some r → s ≡ r → more ≡ ranges ++ s ∷ [] → ranges ++ drop i all ≡ all → more ++ drop (i + 1) all ≡ all
next_range all ranges more i r s within at same pushed h =
    ap (λ (l : List Span). l ++ drop (i + 1) all) pushed
    ∙ (append_assoc ranges (s ∷ []) (drop (i + 1) all)
    ∙ (ap (λ (l : List Span). ranges ++ l) (ap (λ (x : Span). x ∷ drop (i + 1) all) (same ∙ sym (read all i r at)) ∙ sym (drop_more all i r within)) ∙ h))
  where
    read : (xs : List Span) (j : ℕ) (x : Span) → slice_get xs j ≡ Some x → get_or xs j x ≡ x
    read [] j x e = refl
    read (y ∷ xs) zero x e = cc
    read (y ∷ xs) (suc j) x e = read xs j x e

pub all_ranges : (all ranges : List Span) (i : ℕ) → length all ≤ i → ranges ++ drop i all ≡ all → ranges ≡ all
all_ranges all ranges i past h = sym (append-nil ranges) ∙ (ap (λ (l : List Span). ranges ++ l) (sym (drop_all i all past)) ∙ h)

-- the counts of a triple stand from the place n on
pub record CountsFrom (c : ℕ) (vs : List Value) (n : ℕ) : Type 0 where
  pub least : ℕ
  pub guess : ℕ
  pub most : ℕ
  pub within : n + 2 < length vs
  pub at_least : slice_get vs n ≡ Some (Int (pos least))
  pub at_guess : slice_get vs (n + 1) ≡ Some (Int (pos guess))
  pub at_most : slice_get vs (n + 2) ≡ Some (Int (pos most))
  pub low : least ≤ guess
  pub high : guess ≤ most
  pub is : decode_annot c vs ≡ counts least guess most

later_counts : (c : ℕ) (l s h : Value) (vs : List Value) (m : ℕ) → CountsFrom c vs m → CountsFrom (suc c) (l ∷ s ∷ h ∷ vs) (suc (suc (suc m)))
later_counts c l s h vs m r = record {
  least = r.least;
  guess = r.guess;
  most = r.most;
  within = omega (arith, r.within);
  at_least = r.at_least;
  at_guess = later l s h vs m 1 ∙ r.at_guess;
  at_most = later l s h vs m 2 ∙ r.at_most;
  low = r.low;
  high = r.high;
  is = r.is;
}

first_counts : (vs : List Value) → AreCounts vs → CountsFrom 0 vs 0
first_counts (Int (pos l) ∷ Int (pos g) ∷ Int (pos m) ∷ []) ok = record {
  least = l;
  guess = g;
  most = m;
  within = omega arith;
  at_least = refl;
  at_guess = refl;
  at_most = refl;
  low = ok.0;
  high = ok.1;
  is = refl;
}
first_counts _ ok = absurd ok

pub counts_from : (c : ℕ) (vs : List Value) (n : ℕ) → IsEncoded c vs → n ≡ 3 * c → CountsFrom c vs n
counts_from zero vs n ok at = let first : 0 ≡ n = omega (arith, at) in subst (CountsFrom 0 vs) first (first_counts vs ok)
counts_from (suc c) (l ∷ s ∷ h ∷ vs) n ok at =
    let next : suc (suc (suc (3 * c))) ≡ n = omega (arith, at) in
    subst (CountsFrom (suc c) (l ∷ s ∷ h ∷ vs)) next (later_counts c l s h vs (3 * c) (counts_from c vs (3 * c) ok.1 refl))
counts_from (suc c) _ n ok at = absurd ok

-- the count of a value that is there
pub count_there : (vs : List Value) (n k : ℕ) → slice_get vs n ≡ Some (Int (pos k)) → value_count (value_at vs n) ≡ k
count_there [] n k e = cc
count_there (v ∷ vs) zero k e = let is : v ≡ Int (pos k) = cc in ap value_count is
count_there (v ∷ vs) (suc n) k e = count_there vs n k e
