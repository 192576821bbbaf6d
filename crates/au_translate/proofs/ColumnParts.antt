-- What stands in the places of a block's row.
use Rattle.std.specs.Prelude.{◌≡◌, ◌≤◌, ◌<◌, ◌/◌, ◌%◌, ◌+◌, ◌*◌, ◌-◌, ℕ, zero, suc, Bool, if◌then◌else◌, List, [], ◌∷◌, length, map, fold, min, max, slice_get, unwrap_or, Option, Some, None, option_map, pos}
use Rattle.std.specs.List.{AllByRecursion}
use Rattle.std.proofs.Common.{arith, refl, sym, ap, ◌∙◌}
use Rattle.std.proofs.lemmas.Option.{slice_get-map}
use Rattle.std.proofs.lemmas.Simd.{map-map}
use Rattle.au_value.specs.declared.value.Value.{Value}
use Rattle.au_value.specs.declared.value.Value.TheVariants.{Int}
use Rattle.au_value.specs.Ranges.{Span, certain}
use Rattle.au_annot.specs.Triples.{counts}
use Rattle.au_blocks.specs.Blocks.{Candidate, Choices, IsBlock, once}
use Rattle.au_blocks.specs.Singles.{HaveValues}
use Rattle.au_algebra.specs.Lists.{value_at, least, greatest}
use Rattle.au_encode.specs.Encode.{encode_cells, encode_counts, encode_row}
use Rattle.au_translate.specs.ColumnParts.{once_counts, part_of, span_over}
use Rattle.au_translate.specs.Translate.{block_row, greatest_number, high_at, least_number, low_at, marked_or_first, ranges_of, span_in, triple_of}
use Rattle.au_translate.proofs.BlockRelation.{shown_place}
use Rattle.au_translate.proofs.PlaceValues.{behind_cells, by_column, length-spans, span_at}

-- a part of a range by its place
by_part : (r : Span) (k : ℕ) → k < 3 → value_at (encode_cells (r ∷ [])) k ≡ part_of k r
by_part r zero low = refl
by_part r (suc zero) low = refl
by_part r (suc (suc zero)) low = refl
by_part r (suc (suc (suc k))) low = let never : ⊥ = omega (arith, low) in absurd never

same_items : (vs : List Value) → map (λ (v : Value). v) vs ≡ vs
same_items [] = refl
same_items (v ∷ vs) = ap (λ (l : List Value). v ∷ l) (same_items vs)

-- a column in which each alternative has one value
module _ (b : Choices) (j : ℕ) (values : List Value) (have : HaveValues b.alternatives j values) where
  by_cells : (g : Option Span → Value) → map (λ (a : Candidate). g (slice_get a.cells j)) b.alternatives ≡ map (λ (v : Value). g (Some (certain v))) values
  by_cells g =
      sym (map-map g (λ (a : Candidate). slice_get a.cells j) b.alternatives) ∙ ap (map g) have ∙ map-map g (λ (v : Value). Some (certain v)) values

  lows : map (low_at j) b.alternatives ≡ values
  lows = by_cells (λ o. (unwrap_or o (certain (Int (pos 0)))).lo) ∙ same_items values

  highs : map (high_at j) b.alternatives ≡ values
  highs = by_cells (λ o. (unwrap_or o (certain (Int (pos 0)))).hi) ∙ same_items values

  module _ (ok : IsBlock b) where
    abbrev at : ℕ
    at = unwrap_or b.guess 0

    shown : slice_get b.alternatives at ≡ Some (marked_or_first b)
    shown = shown_place b b.guess ok.guess ok.nonempty

    -- the cell of the alternative that is shown
    found : option_map (λ (v : Value). Some (certain v)) (slice_get values at) ≡ Some (slice_get (marked_or_first b).cells j)
    found =
        sym (slice_get-map (λ (v : Value). Some (certain v)) values at)
        ∙ ap (λ cs. slice_get cs at) (sym have)
        ∙ slice_get-map (λ (a : Candidate). slice_get a.cells j) b.alternatives at
        ∙ ap (option_map (λ (a : Candidate). slice_get a.cells j)) shown

    shown_cell : slice_get (marked_or_first b).cells j ≡ Some (certain (value_at values at))
    shown_cell = each (slice_get values at) (slice_get (marked_or_first b).cells j) found where
      each : (o : Option Value) (c : Option Span) → option_map (λ (v : Value). Some (certain v)) o ≡ Some c → c ≡ Some (certain (unwrap_or o (Int (pos 0))))
      each None c e = cc
      each (Some v) c e = cc

    pub in_column : (p : ℕ) → p / 3 ≡ j → value_at (encode_row (block_row b)) p ≡ part_of (p % 3) (span_over values b.guess)
    in_column p here =
        let v = value_at values at in
        let r = span_in b.alternatives j v in
        let is : slice_get (ranges_of b) j ≡ Some r = span_at b.alternatives (marked_or_first b).cells 0 j j (certain v) (omega arith) shown_cell in
        let there : slice_get (ranges_of b) (p / 3) ≡ Some r = ap (slice_get (ranges_of b)) here ∙ is in
        let same : r ≡ span_over values b.guess = λ i. record { lo = least (lows i); sg = v; hi = greatest (highs i) } in
        by_column (ranges_of b) (encode_counts (triple_of b)) p r there ∙ by_part r (p % 3) (omega arith) ∙ ap (part_of (p % 3)) same

-- a place behind all columns
pub in_counts : (b : Choices) (w p : ℕ) → length (marked_or_first b).cells ≡ w → w ≤ p / 3 → value_at (encode_row (block_row b)) p ≡ value_at (encode_counts (triple_of b)) (p - 3 * w)
in_counts b w p long past =
    let wide : length (ranges_of b) ≡ w = length-spans b.alternatives (marked_or_first b).cells 0 ∙ long in
    let at : p ≡ 3 * length (ranges_of b) + (p - 3 * w) = omega (arith, wide, past) in
    behind_cells (ranges_of b) (encode_counts (triple_of b)) (p - 3 * w) p at

-- ---- the counts of alternatives that stand once

least_ones : (alternatives : List Candidate) → AllByRecursion (λ a. a.copies ≡ once) alternatives → fold min 1 (map (λ a. a.copies.least) alternatives) ≡ 1
least_ones [] all = refl
least_ones (a ∷ alternatives) all = ap (λ c. fold min (min 1 c.least) (map (λ x. x.copies.least) alternatives)) all.0 ∙ least_ones alternatives all.1

most_ones : (alternatives : List Candidate) → AllByRecursion (λ a. a.copies ≡ once) alternatives → fold max 1 (map (λ a. a.copies.most) alternatives) ≡ 1
most_ones [] all = refl
most_ones (a ∷ alternatives) all = ap (λ c. fold max (max 1 c.most) (map (λ x. x.copies.most) alternatives)) all.0 ∙ most_ones alternatives all.1

least_once : (alternatives : List Candidate) → 0 < length alternatives → AllByRecursion (λ a. a.copies ≡ once) alternatives → least_number (map (λ a. a.copies.least) alternatives) ≡ 1
least_once [] some all = let never : ⊥ = omega (arith, some) in absurd never
least_once (a ∷ alternatives) some all = ap (λ c. fold min c.least (map (λ x. x.copies.least) alternatives)) all.0 ∙ least_ones alternatives all.1

pub most_once : (alternatives : List Candidate) → 0 < length alternatives → AllByRecursion (λ a. a.copies ≡ once) alternatives → greatest_number (map (λ a. a.copies.most) alternatives) ≡ 1
most_once [] some all = let never : ⊥ = omega (arith, some) in absurd never
most_once (a ∷ alternatives) some all = ap (λ c. fold max (max 0 c.most) (map (λ x. x.copies.most) alternatives)) all.0 ∙ most_ones alternatives all.1

shown_once : (alternatives : List Candidate) (i : ℕ) (a : Candidate) → slice_get alternatives i ≡ Some a → AllByRecursion (λ x. x.copies ≡ once) alternatives → a.copies ≡ once
shown_once [] i a at all = cc
shown_once (x ∷ alternatives) zero a at all = let same : x ≡ a = cc in sym (ap (λ y. y.copies) same) ∙ all.0
shown_once (x ∷ alternatives) (suc i) a at all = shown_once alternatives i a at all.1

pub counts_once : (b : Choices) → IsBlock b → AllByRecursion (λ a. a.copies ≡ once) b.alternatives → triple_of b ≡ once_counts b.optional b.guess
counts_once b ok all =
    let own = shown_once b.alternatives (unwrap_or b.guess 0) (marked_or_first b) (shown_place b b.guess ok.guess ok.nonempty) all in
    (λ i. counts (if b.optional then 0 else least_once b.alternatives ok.nonempty all i) (unwrap_or (option_map (λ (k : ℕ). (own i).guess) b.guess) 0) (most_once b.alternatives ok.nonempty all i))
    ∙ by_guess b.optional b.guess
  where
    by_guess : (optional : Bool) (guess : Option ℕ) → counts (if optional then 0 else 1) (unwrap_or (option_map (λ (k : ℕ). 1) guess) 0) 1 ≡ once_counts optional guess
    by_guess optional None = refl
    by_guess optional (Some k) = refl
