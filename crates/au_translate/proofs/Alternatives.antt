-- The ranges of a block hold the rows that its alternatives allow, and have the columns' kinds.
use Rattle.std.specs.Prelude.{◌≡◌, ℕ, zero, suc, ◌+◌, ◌<◌, Bool, true, List, [], ◌∷◌, length, map, drop, slice_get, Some}
use Rattle.std.specs.List.{AllByRecursion, AllZip, enumerate_from, list_all}
use Rattle.std.proofs.Common.{arith, refl, sym, ◌∙◌, ap, subst}
use Rattle.std.proofs.lemmas.Bool.{and_parts, and_from, true≢false}
use Rattle.au_value.specs.declared.kinds.Kind.{Kind}
use Rattle.au_value.specs.declared.value.Value.{Value}
use Rattle.au_value.specs.KindLaws.{kind_eq_is}
use Rattle.au_value.specs.Order.{at_most, kind_of, kind_eq}
use Rattle.au_value.specs.Ranges.{Span, holds, all_hold, guesses, IsRangeOf}
use Rattle.au_value.proofs.OrderLaws.{at_most_trans}
use Rattle.au_blocks.specs.Blocks.{Candidate}
use Rattle.au_blocks.specs.Tables.{fits_kinds, is_range_of}
use Rattle.au_algebra.specs.Lists.{least, greatest}
use Rattle.au_algebra.proofs.Each.{all_at, all_from}
use Rattle.au_algebra.proofs.Extremes.{least_below, greatest_above, least_among, greatest_among}
use Rattle.au_translate.specs.Translate.{candidate_cell, low_at, high_at, span_in}

-- ---- rows that fit their kinds

-- what the test of a range says
pub record IsOf (k : Kind) (r : Span) : Type 0 where
  pub lo : kind_of r.lo ≡ k
  pub sg : kind_of r.sg ≡ k
  pub hi : kind_of r.hi ≡ k
  pub lo_sg : at_most r.lo r.sg ≡ true
  pub sg_hi : at_most r.sg r.hi ≡ true

pub is_of : (k : Kind) (r : Span) → is_range_of k r ≡ true → IsOf k r
is_of k r h =
    let upper = and_parts _ (at_most r.sg r.hi) h in
    let lower = and_parts _ (at_most r.lo r.sg) upper.0 in
    let high = and_parts _ (kind_eq k (kind_of r.hi)) lower.0 in
    let low = and_parts (kind_eq k (kind_of r.lo)) (kind_eq k (kind_of r.sg)) high.0 in
    record {
      lo = sym (kind_eq_is k (kind_of r.lo) low.0);
      sg = sym (kind_eq_is k (kind_of r.sg) low.1);
      hi = sym (kind_eq_is k (kind_of r.hi) high.1);
      lo_sg = lower.1;
      sg_hi = upper.1;
    }

-- a row that fits has as many ranges as there are kinds
pub fits_long : (ks : List Kind) (cs : List Span) → fits_kinds ks cs ≡ true → length cs ≡ length ks
fits_long [] [] h = refl
fits_long [] (c ∷ cs) h = absurd (true≢false (sym h))
fits_long (k ∷ ks) [] h = absurd (true≢false (sym h))
fits_long (k ∷ ks) (c ∷ cs) h = ap suc (fits_long ks cs (and_parts (is_range_of k c) (fits_kinds ks cs) h).1)

-- rows that are held have as many values as there are ranges
pub hold_long : (cs : List Span) (row : List Value) → all_hold cs row ≡ true → length row ≡ length cs
hold_long [] [] h = refl
hold_long [] (v ∷ row) h = absurd (true≢false (sym h))
hold_long (c ∷ cs) [] h = absurd (true≢false (sym h))
hold_long (c ∷ cs) (v ∷ row) h = ap suc (hold_long cs row (and_parts (holds c v) (all_hold cs row) h).1)

-- a test that each item passes
pub passes_at : {X : Type 0} (p : X → Bool) (xs : List X) → list_all p xs ≡ true → (i : ℕ) (x : X) → slice_get xs i ≡ Some x → p x ≡ true
passes_at p [] all i x h = cc
passes_at p (y ∷ xs) all zero x h = let e : y ≡ x = cc in subst (λ z. p z ≡ true) e (and_parts (p y) (list_all p xs) all).0
passes_at p (y ∷ xs) all (suc i) x h = passes_at p xs (and_parts (p y) (list_all p xs) all).1 i x h

-- ---- the ranges from a column on

cell_here : (j : ℕ) (a : Candidate) (cs us : List Span) (u : Span) → a.cells ≡ cs → drop j cs ≡ u ∷ us → candidate_cell j a ≡ u
cell_here zero a [] us u is e = cc
cell_here (suc j) a [] us u is e = cc
cell_here zero a (c ∷ cs) us u is e = let same : c ≡ u = cc in rw is same
cell_here (suc j) a (c ∷ cs) us u is e = rw is (cell_here j (record { cells = cs; copies = a.copies }) cs us u refl e)

next_cells : {X : Type 0} (j : ℕ) (cs us : List X) (u : X) → drop j cs ≡ u ∷ us → drop (j + 1) cs ≡ us
next_cells zero [] us u e = cc
next_cells (suc j) [] us u e = cc
next_cells zero (c ∷ cs) us u e = cc
next_cells (suc j) (c ∷ cs) us u e = let next : suc j + 1 ≡ suc (j + 1) = omega arith in rw next (next_cells j cs us u e)

-- the kinds of the ends in a column
fits_ends : (K : List Kind) (a : Candidate) (cs : List Span) → a.cells ≡ cs → fits_kinds K cs ≡ true → (j : ℕ) (k : Kind) (ks : List Kind) → drop j K ≡ k ∷ ks
    → (kind_of (low_at j a) ≡ k) × (kind_of (high_at j a) ≡ k)
fits_ends [] a cs is h zero k ks e = cc
fits_ends [] a cs is h (suc j) k ks e = cc
fits_ends (m ∷ K) a [] is h j k ks e = absurd (true≢false (sym h))
fits_ends (m ∷ K) a (c ∷ cs) is h zero k ks e =
    let same : m ≡ k = cc in
    let own = is_of m c (and_parts (is_range_of m c) (fits_kinds K cs) h).0 in
    rw is (own.lo ∙ same, own.hi ∙ same)
fits_ends (m ∷ K) a (c ∷ cs) is h (suc j) k ks e =
    rw is (fits_ends K (record { cells = cs; copies = a.copies }) cs refl (and_parts (is_range_of m c) (fits_kinds K cs) h).1 j k ks e)

all_ends : (K : List Kind) (alternatives : List Candidate) → list_all (λ a. fits_kinds K a.cells) alternatives ≡ true → (j : ℕ) (k : Kind) (ks : List Kind) → drop j K ≡ k ∷ ks
    → AllByRecursion (λ a. (kind_of (low_at j a) ≡ k) × (kind_of (high_at j a) ≡ k)) alternatives
all_ends K [] h j k ks e = tt
all_ends K (a ∷ alternatives) h j k ks e =
    let p = and_parts (fits_kinds K a.cells) (list_all (λ x. fits_kinds K x.cells) alternatives) h in
    (fits_ends K a a.cells refl p.0 j k ks e, all_ends K alternatives p.1 j k ks e)

-- each alternative has a cell in a column that one of them has
pub all_wide : (K : List Kind) (alternatives : List Candidate) → list_all (λ a. fits_kinds K a.cells) alternatives ≡ true → (j : ℕ) → j < length K → AllByRecursion (λ a. j < length a.cells) alternatives
all_wide K [] h j low = tt
all_wide K (a ∷ alternatives) h j low =
    let p = and_parts (fits_kinds K a.cells) (list_all (λ x. fits_kinds K x.cells) alternatives) h in
    let long = fits_long K a.cells p.0 in
    (omega (arith, long, low), all_wide K alternatives p.1 j low)

module _ (alternatives : List Candidate) where
  -- the ranges from a column on, with these guesses
  abbrev pub spans_from : ℕ → List Value → List Span
  spans_from j s = map (λ p. span_in alternatives p.0 p.1) (enumerate_from j s)

  -- they have these guesses
  pub guesses-spans : (j : ℕ) (s : List Value) → guesses (spans_from j s) ≡ s
  guesses-spans j [] = refl
  guesses-spans j (v ∷ s) = λ i. v ∷ guesses-spans (j + 1) s i

  -- the ends in a column are no further in than those of an alternative
  low_end : (j n : ℕ) (a : Candidate) → slice_get alternatives n ≡ Some a → at_most (least (map (low_at j) alternatives)) (low_at j a) ≡ true
  low_end j n a at = all_at (λ x. at_most (least (map (low_at j) alternatives)) (low_at j x) ≡ true) alternatives n a (least_below (low_at j) alternatives) at

  high_end : (j n : ℕ) (a : Candidate) → slice_get alternatives n ≡ Some a → at_most (high_at j a) (greatest (map (high_at j) alternatives)) ≡ true
  high_end j n a at = all_at (λ x. at_most (high_at j x) (greatest (map (high_at j) alternatives)) ≡ true) alternatives n a (greatest_above (high_at j) alternatives) at

  module _ (n : ℕ) (a : Candidate) (at : slice_get alternatives n ≡ Some a) where
    low_here : (j : ℕ) (us : List Span) (u : Span) → drop j a.cells ≡ u ∷ us → at_most (least (map (low_at j) alternatives)) u.lo ≡ true
    low_here j us u e = subst (λ r. at_most (least (map (low_at j) alternatives)) r.lo ≡ true) (cell_here j a a.cells us u refl e) (low_end j n a at)

    high_here : (j : ℕ) (us : List Span) (u : Span) → drop j a.cells ≡ u ∷ us → at_most u.hi (greatest (map (high_at j) alternatives)) ≡ true
    high_here j us u e = subst (λ r. at_most r.hi (greatest (map (high_at j) alternatives)) ≡ true) (cell_here j a a.cells us u refl e) (high_end j n a at)

    hold_from : (j : ℕ) (s : List Value) (us : List Span) (row : List Value) → length s ≡ length us → drop j a.cells ≡ us → all_hold us row ≡ true → all_hold (spans_from j s) row ≡ true
    hold_from j [] [] [] long e h = refl
    hold_from j [] [] (x ∷ row) long e h = absurd (true≢false (sym h))
    hold_from j [] (u ∷ us) row long e h = let never : ⊥ = omega (arith, long) in absurd never
    hold_from j (v ∷ s) [] row long e h = let never : ⊥ = omega (arith, long) in absurd never
    hold_from j (v ∷ s) (u ∷ us) [] long e h = absurd (true≢false (sym h))
    hold_from j (v ∷ s) (u ∷ us) (x ∷ row) long e h =
        let p = and_parts (holds u x) (all_hold us row) h in
        let q = and_parts (at_most u.lo x) (at_most x u.hi) p.0 in
        let low = at_most_trans (least (map (low_at j) alternatives)) u.lo x (low_here j us u e) q.0 in
        let high = at_most_trans x u.hi (greatest (map (high_at j) alternatives)) q.1 (high_here j us u e) in
        and_from (holds (span_in alternatives j v) x) (all_hold (spans_from (j + 1) s) row) (and_from _ _ low high)
        (hold_from (j + 1) s us row (omega (arith, long)) (next_cells j a.cells us u e) p.1)

    -- each row that the alternative's ranges hold is held, whatever row of this length is shown
    pub spans_hold : (s row : List Value) → length s ≡ length a.cells → all_hold a.cells row ≡ true → all_hold (spans_from 0 s) row ≡ true
    spans_hold s row long h = hold_from 0 s a.cells row long refl h

    module _ (K : List Kind) (some : 0 < length alternatives) (all : list_all (λ x. fits_kinds K x.cells) alternatives ≡ true) where
      -- the range in a column that shows the alternative's guess
      span_is : (j : ℕ) (k : Kind) (ks : List Kind) (us : List Span) (u : Span) → drop j K ≡ k ∷ ks → drop j a.cells ≡ u ∷ us → is_range_of k u ≡ true → IsRangeOf k (span_in alternatives j u.sg)
      span_is j k ks us u f e fit =
          let own = is_of k u fit in
          let ends = all_ends K alternatives all j k ks f in
          let lows = all_from (λ x. (kind_of (low_at j x) ≡ k) × (kind_of (high_at j x) ≡ k)) (λ x. kind_of (low_at j x) ≡ k) alternatives (λ x h. h.0) ends in
          let highs = all_from (λ x. (kind_of (low_at j x) ≡ k) × (kind_of (high_at j x) ≡ k)) (λ x. kind_of (high_at j x) ≡ k) alternatives (λ x h. h.1) ends in
          record {
            range = record {
              lo_kind = least_among (low_at j) (λ x. kind_of x ≡ k) alternatives lows some ∙ sym own.sg;
              hi_kind = greatest_among (high_at j) (λ x. kind_of x ≡ k) alternatives highs some ∙ sym own.sg;
              lo_sg = at_most_trans (least (map (low_at j) alternatives)) u.lo u.sg (low_here j us u e) own.lo_sg;
              sg_hi = at_most_trans u.sg u.hi (greatest (map (high_at j) alternatives)) own.sg_hi (high_here j us u e);
            };
            kind = own.sg;
          }

      ranges_from : (j : ℕ) (ks : List Kind) (us : List Span) → drop j K ≡ ks → drop j a.cells ≡ us → fits_kinds ks us ≡ true → AllZip IsRangeOf ks (spans_from j (guesses us))
      ranges_from j [] [] f e h = tt
      ranges_from j [] (u ∷ us) f e h = absurd (true≢false (sym h))
      ranges_from j (k ∷ ks) [] f e h = absurd (true≢false (sym h))
      ranges_from j (k ∷ ks) (u ∷ us) f e h =
          let p = and_parts (is_range_of k u) (fits_kinds ks us) h in
          (span_is j k ks us u f e p.0, ranges_from (j + 1) ks us (next_cells j K ks k f) (next_cells j a.cells us u e) p.1)

      -- the ranges have the kinds of the rows
      pub spans_ranges : AllZip IsRangeOf K (spans_from 0 (guesses a.cells))
      spans_ranges = ranges_from 0 K a.cells refl refl (passes_at (λ x. fits_kinds K x.cells) alternatives all n a at)
