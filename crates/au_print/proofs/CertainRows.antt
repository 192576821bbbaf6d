-- Rows with counts as bounded rows whose ranges are certain: their normal form is each row once, with its counts added.
use Rattle.std.specs.Prelude.{◌≡◌, ◌+◌, ◌<◌, ◌^◌, Bool, true, false, not, ◌&&◌, cond, List, [], ◌∷◌, map, filter, sum_by}
use Rattle.std.specs.List.{AllByRecursion}
use Rattle.std.specs.List.Sorted.{IsPermutation}
use Rattle.std.specs.declared.cmp.Ordering.{Ordering}
use Rattle.std.specs.declared.cmp.Ordering.TheVariants.{Less, Equal, Greater}
use Rattle.std.specs.Ordering.{ordering_then, is_le}
use Rattle.std.specs.Cmp.Lexicographic.{slice_cmp}
use Rattle.std.proofs.Common.{refl, sym, ◌∙◌, ap, le_refl, ltb-true}
use Rattle.std.proofs.lemmas.Bool.{and_parts, true≢false, false_from_ne_true}
use Rattle.std.proofs.lemmas.List.Sums.{sum_by-cons}
use Rattle.std.proofs.lemmas.List.Sorted.{IsPermutation-map}
use Rattle.au_value.specs.declared.value.Value.{Value}
use Rattle.au_value.specs.Order.{order}
use Rattle.au_value.specs.Ranges.{Span, certain, guesses, lower_ends, upper_ends}
use Rattle.au_value.specs.Lists.{distinct}
use Rattle.au_annot.specs.Counts.{count_fits}
use Rattle.au_annot.specs.Triples.{counts, total_counts}
use Rattle.au_algebra.specs.Counted.{CountedRow, count_of}
use Rattle.au_algebra.specs.Entries.{entry}
use Rattle.au_algebra.specs.Lists.{same_row, sorted_by}
use Rattle.au_algebra.specs.Ordinary.{Rows}
use Rattle.au_algebra.specs.Bounded.{RangeRow, same_ranges, ranges_order, merge_equal, row_at_most, sorted, normal}
use Rattle.au_algebra.specs.Fits.{triples_fit}
use Rattle.au_algebra.proofs.Runs.{normal_shuffled}
use Rattle.au_algebra.proofs.Sorting.{map_sorted}
use Rattle.au_algebra.proofs.TripleFits.{IsInRange, all_fit}
use Rattle.au_print.specs.GuessTexts.{in_order, counted, counts_fit}

-- each value as the range of it alone
abbrev pub ranges : List Value → List Span
ranges values = map certain values

-- a row with a count as a row of certain ranges, with the triple of that count
abbrev pub as_bounded : CountedRow → RangeRow
as_bounded r = entry (ranges r.cells) (counts r.annot r.annot r.annot)

-- and back
abbrev as_counted : RangeRow → CountedRow
as_counted r = entry (guesses r.cells) r.annot.guess

-- ---- ranges of single values are compared as the values

pub guesses_of : (v : List Value) → guesses (ranges v) ≡ v
guesses_of [] = refl
guesses_of (x ∷ v) = ap (λ w. x ∷ w) (guesses_of v)

lower_of : (v : List Value) → lower_ends (ranges v) ≡ v
lower_of [] = refl
lower_of (x ∷ v) = ap (λ w. x ∷ w) (lower_of v)

upper_of : (v : List Value) → upper_ends (ranges v) ≡ v
upper_of [] = refl
upper_of (x ∷ v) = ap (λ w. x ∷ w) (upper_of v)

all_one : (b : Bool) → (b && (b && b)) ≡ b
all_one true = refl
all_one false = refl

then_one : (o : Ordering) → ordering_then o (ordering_then o o) ≡ o
then_one Less = refl
then_one Equal = refl
then_one Greater = refl

pub same_ranges_of : (v w : List Value) → same_ranges (ranges v) (ranges w) ≡ same_row v w
same_ranges_of v w =
    (λ i. same_row (guesses_of v i) (guesses_of w i) && (same_row (lower_of v i) (lower_of w i) && same_row (upper_of v i) (upper_of w i)))
    ∙ all_one (same_row v w)

pub ranges_order_of : (v w : List Value) → ranges_order (ranges v) (ranges w) ≡ slice_cmp order v w
ranges_order_of v w =
    (λ i. ordering_then (slice_cmp order (guesses_of v i) (guesses_of w i)) (ordering_then (slice_cmp order (lower_of v i) (lower_of w i)) (slice_cmp order (upper_of v i) (upper_of w i))))
    ∙ then_one (slice_cmp order v w)

-- ---- maps

pub map_map : {A B C : Type 0} (g : B → C) (f : A → B) (xs : List A) → map g (map f xs) ≡ map (λ x. g (f x)) xs
map_map g f [] = refl
map_map g f (x ∷ xs) = ap (λ ys. g (f x) ∷ ys) (map_map g f xs)

map_if : {A B : Type 0} (g : A → B) (b : Bool) (x : A) (xs : List A) → map g (cond b (x ∷ xs) xs) ≡ cond b (g x ∷ map g xs) (map g xs)
map_if g true x xs = refl
map_if g false x xs = refl

module _ {A B : Type 0} (g : A → B) (p : B → Bool) (q : A → Bool) (same : (x : A) → p (g x) ≡ q x) where
  -- a filter after a map
  pub filter_mapped : (xs : List A) → filter p (map g xs) ≡ map g (filter q xs)
  filter_mapped [] = refl
  filter_mapped (x ∷ xs) =
      (λ i. cond (same x i) (g x ∷ filter_mapped xs i) (filter_mapped xs i)) ∙ sym (map_if g (q x) x (filter q xs))

-- the distinct ranges of single values
pub distinct_ranges : (rows : Rows) → distinct same_ranges (map ranges rows) ≡ map ranges (distinct same_row rows)
distinct_ranges [] = refl
distinct_ranges (v ∷ rows) =
    ap (λ ks. ranges v ∷ ks)
    (ap (filter (λ k. not (same_ranges (ranges v) k))) (distinct_ranges rows)
    ∙ filter_mapped ranges (λ k. not (same_ranges (ranges v) k)) (λ w. not (same_row v w)) (λ w. ap not (same_ranges_of v w)) (distinct same_row rows))

-- ---- the normal form

pub total_of : (rows : List CountedRow) → total_counts (map (λ r. r.annot) (map as_bounded rows)) ≡ counts (sum_by (λ r. r.annot) rows) (sum_by (λ r. r.annot) rows) (sum_by (λ r. r.annot) rows)
total_of [] = refl
total_of (r ∷ rows) =
    let more = sym (sum_by-cons (λ s. s.annot) r rows) in
    (λ i. counts (r.annot + (total_of rows i).least) (r.annot + (total_of rows i).guess) (r.annot + (total_of rows i).most))
    ∙ (λ i. counts (more i) (more i) (more i))

module _ (rows : List CountedRow) where
  -- a row of values with the sum of its counts
  abbrev with_count : List Value → CountedRow
  with_count v = entry v (count_of rows v)

  merged_at : (v : List Value) → entry (ranges v) (total_counts (map (λ r. r.annot) (filter (λ r. same_ranges (ranges v) r.cells) (map as_bounded rows)))) ≡ as_bounded (with_count v)
  merged_at v =
      ap (λ t. entry (ranges v) t)
      (ap (λ rs. total_counts (map (λ r. r.annot) rs)) (filter_mapped as_bounded (λ r. same_ranges (ranges v) r.cells) (λ r. same_row v r.cells) (λ r. same_ranges_of v r.cells) rows)
      ∙ total_of (filter (λ r. same_row v r.cells) rows))

  merged_rows : (vs : Rows) → map (λ cells. entry cells (total_counts (map (λ r. r.annot) (filter (λ r. same_ranges cells r.cells) (map as_bounded rows))))) (map ranges vs) ≡ map (λ v. as_bounded (with_count v)) vs
  merged_rows [] = refl
  merged_rows (v ∷ vs) = λ i. merged_at v i ∷ merged_rows vs i

  merge_equal_of : merge_equal (map as_bounded rows) ≡ map (λ v. as_bounded (with_count v)) (distinct same_row (map (λ r. r.cells) rows))
  merge_equal_of =
      let keys : map (λ r. r.cells) (map as_bounded rows) ≡ map ranges (map (λ r. r.cells) rows) =
      map_map (λ r. r.cells) as_bounded rows ∙ sym (map_map ranges (λ r. r.cells) rows) in
      ap (map (λ cells. entry cells (total_counts (map (λ r. r.annot) (filter (λ r. same_ranges cells r.cells) (map as_bounded rows))))))
      (ap (distinct same_ranges) keys ∙ distinct_ranges (map (λ r. r.cells) rows))
      ∙ merged_rows (distinct same_row (map (λ r. r.cells) rows))

  sorted_of : (vs : Rows) → sorted (map (λ u. as_bounded (with_count u)) vs) ≡ map (λ u. as_bounded (with_count u)) (in_order vs)
  sorted_of vs =
      sym (map_sorted (λ u. as_bounded (with_count u)) row_at_most vs)
      ∙ (λ i. map (λ u. as_bounded (with_count u)) (sorted_by (λ v w. is_le (ranges_order_of v w i)) vs))

  -- the normal form is each row once, with its counts added
  pub normal_of : normal (map as_bounded rows) ≡ map as_bounded (counted rows)
  normal_of =
      ap sorted merge_equal_of
      ∙ sorted_of (distinct same_row (map (λ r. r.cells) rows))
      ∙ sym (map_map as_bounded with_count (in_order (distinct same_row (map (λ r. r.cells) rows))))

-- ---- from bounded rows to rows with counts

counted_again : (rows : List CountedRow) → map as_counted (map as_bounded rows) ≡ rows
counted_again [] = refl
counted_again (r ∷ rows) = λ i. entry (guesses_of r.cells i) r.annot ∷ counted_again rows i

-- equal bounded rows are of equal rows
pub counted_one : (xs ys : List CountedRow) → map as_bounded xs ≡ map as_bounded ys → xs ≡ ys
counted_one xs ys e = sym (counted_again xs) ∙ ap (map as_counted) e ∙ counted_again ys

-- rows in another order are counted alike
pub counted_shuffled : (xs ys : List CountedRow) → IsPermutation xs ys → counted ys ≡ counted xs
counted_shuffled xs ys p =
    counted_one (counted ys) (counted xs)
    (sym (normal_of ys) ∙ normal_shuffled (map as_bounded xs) (map as_bounded ys) (IsPermutation-map as_bounded xs ys p) ∙ normal_of xs)

-- ---- counts in the range

row_fits : (r : CountedRow) → r.annot < 2 ^ 127 → IsInRange (as_bounded r)
row_fits r h = record { triple = record { least_guess = le_refl r.annot; guess_most = le_refl r.annot }; most = h }

rows_fit : (rows : List CountedRow) → counts_fit rows ≡ true → AllByRecursion IsInRange (map as_bounded rows)
rows_fit [] h = tt
rows_fit (r ∷ rows) h =
    let p = and_parts (count_fits r.annot) (counts_fit rows) h in
    (row_fits r (ltb-true r.annot (2 ^ 127) p.0), rows_fit rows p.1)

-- a count is past the range where a triple is
pub counts_past : (rows : List CountedRow) → triples_fit (map as_bounded rows) ≡ false → counts_fit rows ≡ false
counts_past rows h =
    false_from_ne_true (counts_fit rows)
    (λ t. true≢false (sym (all_fit (map as_bounded rows) (rows_fit rows t)) ∙ h))
