-- The rows of a guess are those of a world where the counts of each row of values add up to its copies in it.
use Rattle.std.specs.Prelude.{◌≡◌, ℕ, zero, suc, ◌<◌, true, false, not, ◌==◌, cond, List, [], ◌∷◌, map, filter, sum_by}
use Rattle.std.specs.List.{AllByRecursion}
use Rattle.std.proofs.Common.{arith, refl, sym, ◌∙◌, ap, inl, inr}
use Rattle.std.proofs.lemmas.Bool.{cases_Bool, true≢false, false_from_ne_true, eqb-true}
use Rattle.std.proofs.lemmas.List.Sums.{sum_by-cons}
use Rattle.au_value.specs.declared.value.Value.{Value}
use Rattle.au_value.specs.Ranges.{Span, guesses}
use Rattle.au_value.specs.Lists.{distinct}
use Rattle.au_annot.specs.Triples.{Counts, counts}
use Rattle.au_algebra.specs.Counted.{CountedRow, occurring, count_of, StandsFor, ones}
use Rattle.au_algebra.specs.Entries.{entry}
use Rattle.au_algebra.specs.Lists.{same_row}
use Rattle.au_algebra.specs.Ordinary.{Rows}
use Rattle.au_algebra.specs.Bounded.{same_ranges, normal}
use Rattle.au_algebra.proofs.Counted.{count_of-cons, count_of-if, ones_stand}
use Rattle.au_algebra.proofs.Each.{all_of, all_from, all_filter, passing}
use Rattle.au_algebra.proofs.Filters.{filter_none}
use Rattle.au_algebra.proofs.KeptByMerging.{same_ranges_is, same_ranges_refl}
use Rattle.au_algebra.proofs.NormalRows.{normal_rises, normal_tally}
use Rattle.au_algebra.proofs.Rising.{rising_is}
use Rattle.au_algebra.proofs.Tallies.{tally, summed}
use Rattle.au_print.specs.GuessTexts.{counted, guess_rows, in_order, world_rows}
use Rattle.au_print.proofs.CertainRows.{ranges, as_bounded, guesses_of, same_ranges_of, filter_mapped, total_of, normal_of, counted_one}

-- ---- rows whose count is 0 add nothing

count_occurring : (v : List Value) (rows : List CountedRow) → count_of (occurring rows) v ≡ count_of rows v
count_occurring v [] = refl
count_occurring v (r ∷ rows) = count_of-if (r.annot == 0) v r (occurring rows) (count_of rows v) refl (count_occurring v rows) ∙ sym (count_of-cons v r rows)

positive : (n : ℕ) → not (n == 0) ≡ true → 0 < n
positive zero h = absurd (true≢false (sym h))
positive (suc n) h = omega arith

-- each count is at least 1
abbrev Positive : List CountedRow → Type 0
Positive rows = AllByRecursion (λ r. 0 < r.annot) rows

occurring_positive : (rows : List CountedRow) → Positive (occurring rows)
occurring_positive rows =
    all_from (λ r. not (r.annot == 0) ≡ true) (λ r. 0 < r.annot) (occurring rows) (λ r. positive r.annot) (passing (λ r. not (r.annot == 0)) rows)

-- ---- the counts of each row of values determine the rows

-- the triple of a count, and none of 0
abbrev of_count : ℕ → List Counts
of_count n = cond (n == 0) [] (counts n n n ∷ [])

some_not_none : (n : ℕ) → 0 < n → (n == 0) ≡ false
some_not_none n h = false_from_ne_true (n == 0) (λ t. let z = eqb-true n 0 t in absurd (omega (arith, h, z)))

summed_of : (rows : List CountedRow) → Positive rows → summed (map (λ r. r.annot) (map as_bounded rows)) ≡ of_count (sum_by (λ r. r.annot) rows)
summed_of [] p = refl
summed_of (r ∷ rows) p =
    let n = sum_by (λ s. s.annot) (r ∷ rows) in
    let some : 0 < n = omega (arith, p.0, sum_by-cons (λ s. s.annot) r rows) in
    ap (λ t. t ∷ []) (total_of (r ∷ rows)) ∙ ap (λ b. cond b [] (counts n n n ∷ [])) (sym (some_not_none n some))

tally_at : (v : List Value) (rows : List CountedRow) → Positive rows → summed (tally (ranges v) (map as_bounded rows)) ≡ of_count (count_of rows v)
tally_at v rows p =
    ap (λ rs. summed (map (λ r. r.annot) rs)) (filter_mapped as_bounded (λ r. same_ranges (ranges v) r.cells) (λ r. same_row v r.cells) (λ r. same_ranges_of v r.cells) rows)
    ∙ summed_of (filter (λ r. same_row v r.cells) rows) (all_filter (λ r. 0 < r.annot) (λ r. same_row v r.cells) rows p)

-- ranges that are not those of values are the ranges of no row
other_ranges : (k : List Span) (r : CountedRow) → same_ranges k (ranges (guesses k)) ≡ false → same_ranges k (ranges r.cells) ≡ false
other_ranges k r f =
    false_from_ne_true (same_ranges k (ranges r.cells))
    (λ t.
    let is : k ≡ ranges r.cells = same_ranges_is k (ranges r.cells) t in
    let back : ranges (guesses k) ≡ k = ap (λ c. ranges (guesses c)) is ∙ ap ranges (guesses_of r.cells) ∙ sym is in
    true≢false (sym (ap (same_ranges k) back ∙ same_ranges_refl k) ∙ f))

none_at : (k : List Span) (rows : List CountedRow) → same_ranges k (ranges (guesses k)) ≡ false → tally k (map as_bounded rows) ≡ []
none_at k rows f =
    ap (map (λ r. r.annot)) (filter_mapped as_bounded (λ r. same_ranges k r.cells) (λ r. same_ranges k (ranges r.cells)) (λ r. refl) rows)
    ∙ ap (λ rs. map (λ r. r.annot) (map as_bounded rs)) (filter_none (λ r. same_ranges k (ranges r.cells)) rows (all_of (λ r. same_ranges k (ranges r.cells) ≡ false) rows (λ r. other_ranges k r f)))

module _ (xs ys : List CountedRow) (p : Positive xs) (q : Positive ys) (same : (v : List Value) → count_of xs v ≡ count_of ys v) where
  tallies_same : (k : List Span) → summed (tally k (map as_bounded xs)) ≡ summed (tally k (map as_bounded ys))
  tallies_same k = elim (cases_Bool (same_ranges k (ranges (guesses k)))) [
    | inl t ↦ (
        let is : k ≡ ranges (guesses k) = same_ranges_is k (ranges (guesses k)) t in
        ap (λ c. summed (tally c (map as_bounded xs))) is
        ∙ tally_at (guesses k) xs p
        ∙ ap of_count (same (guesses k))
        ∙ sym (tally_at (guesses k) ys q)
        ∙ ap (λ c. summed (tally c (map as_bounded ys))) (sym is))
    | inr f ↦ ap summed (none_at k xs f) ∙ ap summed (sym (none_at k ys f))
  ]

  counted_same : counted xs ≡ counted ys
  counted_same =
      counted_one (counted xs) (counted ys)
      (sym (normal_of xs)
      ∙ rising_is (normal (map as_bounded xs)) (normal (map as_bounded ys)) (normal_rises (map as_bounded xs)) (normal_rises (map as_bounded ys)) (λ k. normal_tally (map as_bounded xs) k ∙ tallies_same k ∙ sym (normal_tally (map as_bounded ys) k))
      ∙ normal_of ys)

-- ---- a world's rows, each with the count 1

ones_positive : (world : Rows) → Positive (ones world)
ones_positive [] = tt
ones_positive (v ∷ world) = (omega arith, ones_positive world)

ones_cells : (world : Rows) → map (λ r. r.cells) (ones world) ≡ world
ones_cells [] = refl
ones_cells (v ∷ world) = λ i. v ∷ ones_cells world i

world_counted : (world : Rows) → counted (ones world) ≡ world_rows world
world_counted world = λ i. map (λ v. entry v (sym (ones_stand world v) i)) (in_order (distinct same_row (ones_cells world i)))

-- the rows of a guess are the world's
pub guess_world : (rows : List CountedRow) (world : Rows) → StandsFor rows world → guess_rows rows ≡ world_rows world
guess_world rows world h =
    counted_same (occurring rows) (ones world) (occurring_positive rows) (ones_positive world)
    (λ v. count_occurring v rows ∙ sym (h v) ∙ ones_stand world v)
    ∙ world_counted world
