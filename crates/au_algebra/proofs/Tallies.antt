-- The triples of the rows with the same ranges.
use Rattle.std.specs.Prelude.{◌≡◌, ℕ, ◌+◌, Bool, true, false, cond, List, [], ◌∷◌, length, map, filter, sum_by}
use Rattle.std.specs.List.Sorted.{IsPermutation}
use Rattle.std.proofs.Common.{arith, refl, sym, ◌∙◌, ap}
use Rattle.std.proofs.lemmas.List.Sums.{sum_by-cons}
use Rattle.std.proofs.lemmas.List.Sorted.{sum_by-IsPermutation}
use Rattle.au_value.specs.Ranges.{Span}
use Rattle.au_annot.specs.Triples.{Counts, counts, total_counts}
use Rattle.au_algebra.specs.Bounded.{RangeRow, Bounded, same_ranges}

-- the triples of the rows with these ranges
abbrev pub tally : List Span → Bounded → List Counts
tally cells rows = map (λ r. r.annot) (filter (λ r. same_ranges cells r.cells) rows)

-- several triples in one, and none of none
abbrev pub summed : List Counts → List Counts
summed [] = []
summed (t ∷ ts) = total_counts (t ∷ ts) ∷ []

-- a row with these ranges comes first
pub tally_same : (k : List Span) (r : RangeRow) (rows : Bounded) → same_ranges k r.cells ≡ true → tally k (r ∷ rows) ≡ r.annot ∷ tally k rows
tally_same k r rows e =
    ap (λ b. map (λ s. s.annot) (cond b (r ∷ filter (λ s. same_ranges k s.cells) rows) (filter (λ s. same_ranges k s.cells) rows))) e

-- a row with others is left out
pub tally_other : (k : List Span) (r : RangeRow) (rows : Bounded) → same_ranges k r.cells ≡ false → tally k (r ∷ rows) ≡ tally k rows
tally_other k r rows e =
    ap (λ b. map (λ s. s.annot) (cond b (r ∷ filter (λ s. same_ranges k s.cells) rows) (filter (λ s. same_ranges k s.cells) rows))) e

-- one row more
pub tally_more : (k : List Span) (r : RangeRow) (xs ys : Bounded) → tally k xs ≡ tally k ys → tally k (r ∷ xs) ≡ tally k (r ∷ ys)
tally_more k r xs ys e = more (same_ranges k r.cells)
  where
    more : (b : Bool) → map (λ s. s.annot) (cond b (r ∷ filter (λ s. same_ranges k s.cells) xs) (filter (λ s. same_ranges k s.cells) xs)) ≡ map (λ s. s.annot) (cond b (r ∷ filter (λ s. same_ranges k s.cells) ys) (filter (λ s. same_ranges k s.cells) ys))
    more true = ap (λ ts. r.annot ∷ ts) e
    more false = e

-- ---- the order of the rows does not count

tally_if : (f : Counts → ℕ) (b : Bool) (r : RangeRow) (xs : Bounded) → sum_by f (map (λ s. s.annot) (cond b (r ∷ xs) xs)) ≡ cond b (f r.annot) 0 + sum_by f (map (λ s. s.annot) xs)
tally_if f true r xs = sum_by-cons f r.annot (map (λ s. s.annot) xs)
tally_if f false r xs = omega arith

-- what a row adds
abbrev added : (Counts → ℕ) → List Span → RangeRow → ℕ
added f k r = cond (same_ranges k r.cells) (f r.annot) 0

tally_sum : (f : Counts → ℕ) (k : List Span) (rows : Bounded) → sum_by f (tally k rows) ≡ sum_by (added f k) rows
tally_sum f k [] = refl
tally_sum f k (r ∷ rows) =
    omega (arith, tally_if f (same_ranges k r.cells) r (filter (λ s. same_ranges k s.cells) rows), sum_by-cons (added f k) r rows, tally_sum f k rows)

least_sum : (ts : List Counts) → (total_counts ts).least ≡ sum_by (λ t. t.least) ts
least_sum [] = refl
least_sum (t ∷ ts) = omega (arith, sum_by-cons (λ u. u.least) t ts, least_sum ts)

guess_sum : (ts : List Counts) → (total_counts ts).guess ≡ sum_by (λ t. t.guess) ts
guess_sum [] = refl
guess_sum (t ∷ ts) = omega (arith, sum_by-cons (λ u. u.guess) t ts, guess_sum ts)

most_sum : (ts : List Counts) → (total_counts ts).most ≡ sum_by (λ t. t.most) ts
most_sum [] = refl
most_sum (t ∷ ts) = omega (arith, sum_by-cons (λ u. u.most) t ts, most_sum ts)

length_sum : (ts : List Counts) → length ts ≡ sum_by (λ t. 1) ts
length_sum [] = refl
length_sum (t ∷ ts) = omega (arith, sum_by-cons (λ u. 1) t ts, length_sum ts)

summed_by : (ts us : List Counts) → length ts ≡ length us → total_counts ts ≡ total_counts us → summed ts ≡ summed us
summed_by [] [] n e = refl
summed_by [] (u ∷ us) n e = absurd (omega (arith, n))
summed_by (t ∷ ts) [] n e = absurd (omega (arith, n))
summed_by (t ∷ ts) (u ∷ us) n e = ap (λ c. c ∷ []) e

module _ (k : List Span) (xs ys : Bounded) (p : IsPermutation xs ys) where
  same_sum : (f : Counts → ℕ) → sum_by f (tally k xs) ≡ sum_by f (tally k ys)
  same_sum f = tally_sum f k xs ∙ sym (sum_by-IsPermutation (added f k) xs ys p) ∙ sym (tally_sum f k ys)

  -- rows in another order have the same sum of triples
  pub summed_same : summed (tally k xs) ≡ summed (tally k ys)
  summed_same =
      let l = least_sum (tally k xs) ∙ same_sum (λ t. t.least) ∙ sym (least_sum (tally k ys)) in
      let g = guess_sum (tally k xs) ∙ same_sum (λ t. t.guess) ∙ sym (guess_sum (tally k ys)) in
      let m = most_sum (tally k xs) ∙ same_sum (λ t. t.most) ∙ sym (most_sum (tally k ys)) in
      summed_by (tally k xs) (tally k ys)
      (length_sum (tally k xs) ∙ same_sum (λ t. 1) ∙ sym (length_sum (tally k ys)))
      (λ i. counts (l i) (g i) (m i))
