-- What the triples of a grouping add up to: over rows of one copy at most, no more than there are rows.
use Rattle.std.specs.Prelude.{◌≡◌, ℕ, ◌+◌, ◌≤◌, ◌^◌, ◌&&◌, ◌||◌, not, Bool, true, false, cond, List, [], ◌∷◌, length, map, filter, sum_by, take, nat_le, nat_lt}
use Rattle.std.specs.List.{AllByRecursion, list_any}
use Rattle.std.proofs.Common.{arith, refl, ◌∙◌, lt-ltb}
use Rattle.std.proofs.lemmas.List.{length-map}
use Rattle.std.proofs.lemmas.List.Sums.{sum_by-cons, sum_by-le-sum_by}
use Rattle.au_value.specs.declared.value.Value.{Value}
use Rattle.au_value.specs.Ranges.{Span, guesses, all_certain}
use Rattle.au_value.specs.Lists.{distinct}
use Rattle.au_annot.specs.Triples.{Counts, none, plus, total_counts, is_none, in_range}
use Rattle.au_expr.specs.Terms.{Term}
use Rattle.au_expr.specs.OnRanges.{range_of}
use Rattle.au_algebra.specs.declared.query.Agg.{Agg}
use Rattle.au_algebra.specs.Entries.{entry}
use Rattle.au_algebra.specs.Lists.{same_row}
use Rattle.au_algebra.specs.Bounded.{RangeRow, Bounded, project, some_of, most_of, group_counts, output, guessed_keys, group_by, group, same_ranges, merge_equal, row_at_most, normal}
use Rattle.au_algebra.proofs.Copies.{same_row_is, same_row_refl}
use Rattle.au_algebra.proofs.DistinctSums.{sum_distinct}
use Rattle.au_algebra.proofs.Each.{all_filter}
use Rattle.au_algebra.proofs.KeptByMerging.{same_ranges_is, same_ranges_refl}
use Rattle.au_algebra.proofs.Sorting.{sum_sorted}

-- a component of triples: none of no copies, and it adds up
pub record IsComponent (f : Counts → ℕ) : Type 0 where
  pub of_none : f none ≡ 0
  pub of_sum : (a b : Counts) → f (plus a b) ≡ f a + f b

least_component : IsComponent (λ t. t.least)
least_component = record { of_none = refl; of_sum = λ a b. refl }

guess_component : IsComponent (λ t. t.guess)
guess_component = record { of_none = refl; of_sum = λ a b. refl }

most_component : IsComponent (λ t. t.most)
most_component = record { of_none = refl; of_sum = λ a b. refl }

-- the sum of numbers of the mapped items
sum_mapped : {A B : Type 0} (g : B → ℕ) (h : A → B) (xs : List A) → sum_by g (map h xs) ≡ sum_by (λ x. g (h x)) xs
sum_mapped g h [] = refl
sum_mapped g h (x ∷ xs) = omega (arith, sum_by-cons g (h x) (map h xs), sum_by-cons (λ y. g (h y)) x xs, sum_mapped g h xs)

-- what some of the items add up to
sum_of_some : {A : Type 0} (f : A → ℕ) (test : A → Bool) (xs : List A) → sum_by f (filter test xs) ≤ sum_by f xs
sum_of_some f test [] = omega arith
sum_of_some f test (x ∷ xs) = one (test x) (sum_of_some f test xs)
  where
    one : (b : Bool) → sum_by f (filter test xs) ≤ sum_by f xs → sum_by f (cond b (x ∷ filter test xs) (filter test xs)) ≤ sum_by f (x ∷ xs)
    one true h = omega (arith, h, sum_by-cons f x (filter test xs), sum_by-cons f x xs)
    one false h = omega (arith, h, sum_by-cons f x xs)

module _ (f : Counts → ℕ) (is : IsComponent f) where
  -- a component of the sum of the triples of some rows
  abbrev pub added : Bounded → ℕ
  added rows = sum_by (λ r. f r.annot) rows

  total_added : (rows : Bounded) → f (total_counts (map (λ r. r.annot) rows)) ≡ added rows
  total_added [] = is.of_none
  total_added (r ∷ rows) =
      omega (arith, is.of_sum r.annot (total_counts (map (λ s. s.annot) rows)), total_added rows, sum_by-cons (λ s. f s.annot) r rows)

  -- ---- the normal form

  merged_added : (rows : Bounded) → added (merge_equal rows) ≡ added rows
  merged_added rows =
      sum_mapped (λ r. f r.annot) (λ cells. entry cells (total_counts (map (λ r. r.annot) (filter (λ r. same_ranges cells r.cells) rows)))) (distinct same_ranges (map (λ r. r.cells) rows))
      ∙ (λ i. sum_by (λ cells. total_added (filter (λ r. same_ranges cells r.cells) rows) i) (distinct same_ranges (map (λ r. r.cells) rows)))
      ∙ sum_distinct same_ranges same_ranges_is same_ranges_refl (λ r. r.cells) (λ r. f r.annot) rows

  -- the normal form keeps the sum
  pub normal_added : (rows : Bounded) → added (normal rows) ≡ added rows
  normal_added rows = sum_sorted row_at_most (λ r. f r.annot) (merge_equal rows) ∙ merged_added rows

  -- ---- a projection

  pub project_added : (items : List Term) (rows : Bounded) → added (project items rows) ≤ added rows
  project_added items rows =
      let kept = sum_mapped (λ r. f r.annot) (λ (r : RangeRow). entry (map (λ e. range_of e r.cells) items) r.annot) rows in
      omega (arith, kept, sum_of_some (λ r. f r.annot) (λ r. not (is_none r.annot)) (map (λ r. entry (map (λ e. range_of e r.cells) items) r.annot) rows))

-- ---- a grouping

-- one copy at most
abbrev pub OneAtMost : Bounded → Type 0
OneAtMost rows = AllByRecursion (λ r. r.annot.most ≤ 1) rows

some_at_most : (test : RangeRow → Bool) (rows : Bounded) → some_of test rows ≤ length rows
some_at_most test [] = omega arith
some_at_most test (r ∷ rows) = one (list_any test (r ∷ rows))
  where
    one : (b : Bool) → cond b 1 0 ≤ length (r ∷ rows)
    one true = omega arith
    one false = omega arith

-- the rows that fail a test, by their most, and one for those that pass
most_at_most : (test : RangeRow → Bool) (rows : Bounded) → OneAtMost rows → most_of (filter (λ r. not (test r)) rows) + some_of test rows ≤ length rows
most_at_most test [] small = omega arith
most_at_most test (r ∷ rows) small = one (test r) (list_any test rows) refl (most_at_most test rows small.1)
  where
    one : (b c : Bool) → list_any test rows ≡ c → most_of (filter (λ s. not (test s)) rows) + cond c 1 0 ≤ length rows
        → most_of (cond (not b) (r ∷ filter (λ s. not (test s)) rows) (filter (λ s. not (test s)) rows)) + cond (b || c) 1 0 ≤ length (r ∷ rows)
    one true true e h = omega (arith, h)
    one true false e h = omega (arith, h)
    one false true e h = omega (arith, h, small.0, sum_by-cons (λ s. s.annot.most) r (filter (λ s. not (test s)) rows))
    one false false e h = omega (arith, h, small.0, sum_by-cons (λ s. s.annot.most) r (filter (λ s. not (test s)) rows))

length_sum : {A : Type 0} (xs : List A) → sum_by (λ (x : A). 1) xs ≡ length xs
length_sum [] = refl
length_sum {A} (x ∷ xs) = omega (arith, length_sum xs, sum_by-cons (λ (y : A). 1) x xs)

pub fewer : {A : Type 0} (test : A → Bool) (xs : List A) → length (filter test xs) ≤ length xs
fewer {A} test xs = omega (arith, length_sum (filter test xs), length_sum xs, sum_of_some (λ (x : A). 1) test xs)

module _ (f : Counts → ℕ) (is : IsComponent f) (few : (keys : List Span → List Span) (rows : Bounded) → OneAtMost rows → f (group_counts keys rows) ≤ length rows) where
  -- the outputs of a grouping
  group_added : (keys : List Span → List Span) (aggs : List Agg) (rows : Bounded) → OneAtMost rows → added f is (group_by keys aggs rows) ≤ length rows
  group_added keys aggs rows small =
      let keyed : RangeRow → List Value = λ r. guesses (keys r.cells) in
      let belonging : List Value → Bounded = λ k. filter (λ r. same_row k (keyed r)) rows in
      let ks = guessed_keys keys rows in
      let kept = sum_of_some (λ (r : RangeRow). f r.annot) (λ r. not (is_none r.annot)) (map (output keys aggs rows) ks) in
      let mapped = sum_mapped (λ (r : RangeRow). f r.annot) (output keys aggs rows) ks in
      let each : (k : List Value) → f (group_counts keys (belonging k)) ≤ sum_by (λ (r : RangeRow). 1) (belonging k) =
      (λ k. omega (arith, length_sum (belonging k), few keys (belonging k) (all_filter (λ r. r.annot.most ≤ 1) (λ r. same_row k (keyed r)) rows small))) in
      let less = sum_by-le-sum_by (λ k. f (group_counts keys (belonging k))) (λ k. sum_by (λ (r : RangeRow). 1) (belonging k)) ks each in
      let all = sum_distinct same_row same_row_is same_row_refl keyed (λ (r : RangeRow). 1) rows in
      omega (arith, kept, mapped, less, all, length_sum rows)

least_few : (keys : List Span → List Span) (rows : Bounded) → OneAtMost rows → (group_counts keys rows).least ≤ length rows
least_few keys rows small = some_at_most (λ r. all_certain (keys r.cells) && nat_le 1 r.annot.least) rows

guess_few : (keys : List Span → List Span) (rows : Bounded) → OneAtMost rows → (group_counts keys rows).guess ≤ length rows
guess_few keys rows small = some_at_most (λ r. nat_le 1 r.annot.guess) rows

most_few : (keys : List Span → List Span) (rows : Bounded) → OneAtMost rows → (group_counts keys rows).most ≤ length rows
most_few keys rows small = most_at_most (λ r. all_certain (keys r.cells)) rows small

-- ---- a projection of a table

project_small : (items : List Term) (rows : Bounded) → OneAtMost rows → OneAtMost (project items rows)
project_small items rows small = all_filter (λ r. r.annot.most ≤ 1) (λ r. not (is_none r.annot)) (map (λ r. entry (map (λ e. range_of e r.cells) items) r.annot) rows) (mapped rows small)
  where
    mapped : (rs : Bounded) → OneAtMost rs → OneAtMost (map (λ r. entry (map (λ e. range_of e r.cells) items) r.annot) rs)
    mapped [] h = tt
    mapped (r ∷ rs) h = (h.0, mapped rs h.1)

project_fewer : (items : List Term) (rows : Bounded) → length (project items rows) ≤ length rows
project_fewer items rows =
    omega (arith, fewer (λ (r : RangeRow). not (is_none r.annot)) (map (λ (r : RangeRow). entry (map (λ e. range_of e r.cells) items) r.annot) rows), length-map rows (λ (r : RangeRow). entry (map (λ e. range_of e r.cells) items) r.annot))

-- ---- a grouping between two projections, in its normal form

module _ (shown items : List Term) (keys : ℕ) (aggs : List Agg) (rows : Bounded) (small : OneAtMost rows) (many : length rows ≤ 100000) where
  abbrev answered : Bounded
  answered = project shown (group keys aggs (project items rows))

  part_small : (f : Counts → ℕ) (is : IsComponent f) → ((ks : List Span → List Span) (rs : Bounded) → OneAtMost rs → f (group_counts ks rs) ≤ length rs)
      → f (total_counts (map (λ r. r.annot) (normal answered))) ≤ 100000
  part_small f is few =
      omega (
        arith,
        total_added f is (normal answered),
        normal_added f is answered,
        project_added f is shown (group keys aggs (project items rows)),
        group_added f is few (take keys) aggs (project items rows) (project_small items rows small),
        project_fewer items rows,
        many,
      )

  fits_small : (n : ℕ) → n ≤ 100000 → nat_lt n (2 ^ 127) ≡ true
  fits_small n h = lt-ltb n (2 ^ 127) (omega arith)

  all_three : (a b c : Bool) → a ≡ true → b ≡ true → c ≡ true → (a && b && c) ≡ true
  all_three a b c p q r = rw (p, q, r) refl

  -- the sum of the triples lies in the range
  pub sum_in_range : in_range (total_counts (map (λ r. r.annot) (normal answered))) ≡ true
  sum_in_range =
      all_three _ _ _
      (fits_small _ (part_small (λ t. t.least) least_component least_few))
      (fits_small _ (part_small (λ t. t.guess) guess_component guess_few))
      (fits_small _ (part_small (λ t. t.most) most_component most_few))
