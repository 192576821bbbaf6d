-- Neighbours with the same ranges put into one, which makes the normal form of rows in order.
use Rattle.std.specs.Prelude.{◌≡◌, ◌+◌, Bool, true, false, cond, List, [], ◌∷◌, ◌++◌, map}
use Rattle.std.specs.List.{AllByRecursion}
use Rattle.std.specs.List.Sorted.{IsPermutation, IsSortedBy}
use Rattle.std.specs.declared.cmp.Ordering.{Ordering}
use Rattle.std.specs.declared.cmp.Ordering.TheVariants.{Less, Equal, Greater}
use Rattle.std.specs.Ordering.{is_eq, is_gt, is_lt}
use Rattle.std.proofs.Common.{arith, refl, sym, ◌∙◌, ap, subst, inl, inr, add-one}
use Rattle.std.proofs.lemmas.Bool.{cases_Bool}
use Rattle.au_value.specs.Ranges.{Span}
use Rattle.au_annot.specs.Triples.{Counts, counts, plus, total_counts}
use Rattle.au_algebra.specs.Entries.{entry}
use Rattle.au_algebra.specs.Bounded.{RangeRow, Bounded, same_ranges, ranges_order, normal}
use Rattle.au_algebra.proofs.Each.{all_from}
use Rattle.au_algebra.proofs.KeptByMerging.{same_ranges_is, same_ranges_refl}
use Rattle.au_algebra.proofs.RangesOrder.{ranges_total, ranges_tie, less_from, not_above, not_above_chains}
use Rattle.au_algebra.proofs.Tallies.{tally, summed, tally_same, tally_other, summed_same}
use Rattle.au_algebra.proofs.Rising.{AllAbove, Rising, none_above, rising_is}
use Rattle.au_algebra.proofs.NormalRows.{normal_rises, normal_tally}

-- whether two rows have the same ranges
abbrev pub joins : RangeRow → RangeRow → Bool
joins r s = is_eq (ranges_order r.cells s.cells)

-- the row that is done with, where the next has other ranges
abbrev pub finished : RangeRow → RangeRow → Bounded
finished r s = cond (joins r s) [] (r ∷ [])

-- the row that goes on: the sum of the two, or the next
abbrev pub carried : RangeRow → RangeRow → RangeRow
carried r s = cond (joins r s) (entry r.cells (plus r.annot s.annot)) s

-- a row and those after it, with neighbours of the same ranges in one
unfoldable pub runs_from : RangeRow → Bounded → Bounded
runs_from r [] = r ∷ []
runs_from r (s ∷ rows) = finished r s ++ runs_from (carried r s) rows

-- no row is below the one before it
abbrev pub Ascends : RangeRow → Bounded → Type 0
Ascends r [] = Unit {0}
Ascends r (s ∷ rows) = (is_gt (ranges_order r.cells s.cells) ≡ false) × Ascends s rows

-- no row is below these ranges
abbrev AllFrom : List Span → Bounded → Type 0
AllFrom k rows = AllByRecursion (λ s. is_gt (ranges_order k s.cells) ≡ false) rows

all_from_first : (k : List Span) (r : RangeRow) (rows : Bounded) → is_gt (ranges_order k r.cells) ≡ false → Ascends r rows → AllFrom k rows
all_from_first k r [] h a = tt
all_from_first k r (s ∷ rows) h a =
    let g = not_above_chains k r.cells s.cells h a.0 in
    (g, all_from_first k s rows g a.1)

above_by : (k : List Span) (r t : RangeRow) → ranges_order k r.cells ≡ Less → is_gt (ranges_order r.cells t.cells) ≡ false → ranges_order k t.cells ≡ Less
above_by k r t l g = by (ranges_order r.cells t.cells) refl g
  where
    by : (o : Ordering) → ranges_order r.cells t.cells ≡ o → is_gt o ≡ false → ranges_order k t.cells ≡ Less
    by Less e h = ranges_total.trans k r.cells t.cells l e
    by Equal e h = sym (right e) ∙ l
      where
        right : ranges_order r.cells t.cells ≡ Equal → ranges_order k r.cells ≡ ranges_order k t.cells
        right q = ap (λ c. ranges_order k c) (same_ranges_is r.cells t.cells (ranges_tie r.cells t.cells ∙ ap is_eq q))
    by Greater e h = absurd (let never : ⊥ = cc in never)

-- what is above the first row's ranges is above those of no row after it
above_all : (k : List Span) (r : RangeRow) (rows : Bounded) → ranges_order k r.cells ≡ Less → Ascends r rows → AllAbove k (r ∷ rows)
above_all k r rows l a =
    (l, all_from (λ s. is_gt (ranges_order r.cells s.cells) ≡ false) (λ s. ranges_order k s.cells ≡ Less) rows (λ s g. above_by k r s l g) (all_from_first r.cells r rows (itself r.cells) a))
  where
    itself : (c : List Span) → is_gt (ranges_order c c) ≡ false
    itself c = not_above c c (turned (ranges_order c c) (sym (ranges_tie c c) ∙ same_ranges_refl c))
      where
        turned : (o : Ordering) → is_eq o ≡ true → is_lt o ≡ false
        turned Less h = sym h
        turned Equal h = refl
        turned Greater h = refl

-- ---- the runs are in strict order

joins_is : (r s : RangeRow) → joins r s ≡ true → r.cells ≡ s.cells
joins_is r s e = same_ranges_is r.cells s.cells (ranges_tie r.cells s.cells ∙ e)

apart_below : (r s : RangeRow) → joins r s ≡ false → is_gt (ranges_order r.cells s.cells) ≡ false → ranges_order r.cells s.cells ≡ Less
apart_below r s e g = less_from r.cells s.cells g (ranges_tie r.cells s.cells ∙ e)

-- the row that goes on is below no row after it
ascends_cells : (j k : List Span) (t : Counts) (s : RangeRow) (rows : Bounded) → j ≡ s.cells → Ascends s rows → Ascends (entry j t) rows
ascends_cells j k t s [] e a = tt
ascends_cells j k t s (u ∷ rows) e a = (ap (λ c. is_gt (ranges_order c u.cells)) e ∙ a.0, a.1)

ascends_if : (b : Bool) (r s : RangeRow) (rows : Bounded) → joins r s ≡ b → Ascends s rows → Ascends (cond b (entry r.cells (plus r.annot s.annot)) s) rows
ascends_if true r s rows e a = ascends_cells r.cells r.cells (plus r.annot s.annot) s rows (joins_is r s e) a
ascends_if false r s rows e a = a

ascends_carried : (r s : RangeRow) (rows : Bounded) → Ascends s rows → Ascends (carried r s) rows
ascends_carried r s rows a = ascends_if (joins r s) r s rows refl a

above_if : (P : List Span → Type 0) (b : Bool) (r s : RangeRow) (more : Bounded) → P r.cells → AllByRecursion (λ t. P t.cells) more → AllByRecursion (λ t. P t.cells) (cond b [] (r ∷ []) ++ more)
above_if P true r s more p h = h
above_if P false r s more p h = (p, h)

first_if : (P : List Span → Type 0) (b : Bool) (r s : RangeRow) → P r.cells → P s.cells → P (cond b (entry r.cells (plus r.annot s.annot)) s).cells
first_if P true r s p q = p
first_if P false r s p q = q

-- the runs have the ranges of the rows
all_runs : (P : List Span → Type 0) (r : RangeRow) (rows : Bounded) → P r.cells → AllByRecursion (λ t. P t.cells) rows → AllByRecursion (λ t. P t.cells) (runs_from r rows)
unfolding runs_from
all_runs P r [] p h = (p, tt)
all_runs P r (s ∷ rows) p h =
    above_if P (joins r s) r s (runs_from (carried r s) rows) p
    (all_runs P (carried r s) rows (first_if P (joins r s) r s p h.0) h.1)

rising_if : (b : Bool) (r s : RangeRow) (rows : Bounded) → joins r s ≡ b → is_gt (ranges_order r.cells s.cells) ≡ false → Ascends s rows → Rising (runs_from (cond b (entry r.cells (plus r.annot s.annot)) s) rows) → Rising (cond b [] (r ∷ []) ++ runs_from (cond b (entry r.cells (plus r.annot s.annot)) s) rows)
rising_if true r s rows e g a h = h
rising_if false r s rows e g a h =
    let above = above_all r.cells s rows (apart_below r s e g) a in
    (all_runs (λ c. ranges_order r.cells c ≡ Less) s rows above.0 above.1, h)

runs_rise : (r : RangeRow) (rows : Bounded) → Ascends r rows → Rising (runs_from r rows)
unfolding runs_from
runs_rise r [] a = (tt, tt)
runs_rise r (s ∷ rows) a =
    rising_if (joins r s) r s rows refl a.0 a.1 (runs_rise (carried r s) rows (ascends_carried r s rows a.1))

-- ---- and have the sums of the triples

alone : (t : Counts) → t ∷ [] ≡ summed (t ∷ [])
alone t =
    let l : t.least ≡ t.least + 0 = omega arith in
    let g : t.guess ≡ t.guess + 0 = omega arith in
    let m : t.most ≡ t.most + 0 = omega arith in
    λ i. counts (l i) (g i) (m i) ∷ []

joined_sum : (t u : Counts) (ts : List Counts) → summed (plus t u ∷ ts) ≡ summed (t ∷ u ∷ ts)
joined_sum t u ts =
    let rest = total_counts ts in
    let l : (t.least + u.least) + rest.least ≡ t.least + (u.least + rest.least) = omega arith in
    let g : (t.guess + u.guess) + rest.guess ≡ t.guess + (u.guess + rest.guess) = omega arith in
    let m : (t.most + u.most) + rest.most ≡ t.most + (u.most + rest.most) = omega arith in
    λ i. counts (l i) (g i) (m i) ∷ []

sums_if : (b : Bool) (k : List Span) (r s : RangeRow) (rows : Bounded) → joins r s ≡ b → is_gt (ranges_order r.cells s.cells) ≡ false → Ascends s rows → tally k (runs_from (cond b (entry r.cells (plus r.annot s.annot)) s) rows) ≡ summed (tally k (cond b (entry r.cells (plus r.annot s.annot)) s ∷ rows)) → tally k (cond b [] (r ∷ []) ++ runs_from (cond b (entry r.cells (plus r.annot s.annot)) s) rows) ≡ summed (tally k (r ∷ s ∷ rows))
sums_if true k r s rows e g a h =
    let both : RangeRow = entry r.cells (plus r.annot s.annot) in
    elim (cases_Bool (same_ranges k r.cells)) [
      | inl t ↦ (
          let too : same_ranges k s.cells ≡ true = ap (λ c. same_ranges k c) (sym (joins_is r s e)) ∙ t in
          h
          ∙ ap summed (tally_same k both rows t)
          ∙ joined_sum r.annot s.annot (tally k rows)
          ∙ ap summed (ap (λ ts. r.annot ∷ ts) (sym (tally_same k s rows too)) ∙ sym (tally_same k r (s ∷ rows) t)))
      | inr f ↦ (
          let too : same_ranges k s.cells ≡ false = ap (λ c. same_ranges k c) (sym (joins_is r s e)) ∙ f in
          h
          ∙ ap summed (tally_other k both rows f)
          ∙ ap summed (sym (tally_other k s rows too) ∙ sym (tally_other k r (s ∷ rows) f)))
    ]
sums_if false k r s rows e g a h = elim (cases_Bool (same_ranges k r.cells)) [
  | inl t ↦ (
      let is : r.cells ≡ k = sym (same_ranges_is k r.cells t) in
      let above : AllAbove k (s ∷ rows) = subst (λ c. AllAbove c (s ∷ rows)) is (above_all r.cells s rows (apart_below r s e g) a) in
      let none : tally k (s ∷ rows) ≡ [] = none_above k (s ∷ rows) above in
      tally_same k r (runs_from s rows) t
      ∙ ap (λ ts. r.annot ∷ ts) (h ∙ ap summed none)
      ∙ alone r.annot
      ∙ ap (λ ts. summed (r.annot ∷ ts)) (sym none)
      ∙ ap summed (sym (tally_same k r (s ∷ rows) t)))
  | inr f ↦ tally_other k r (runs_from s rows) f ∙ h ∙ ap summed (sym (tally_other k r (s ∷ rows) f))
]

runs_tally : (k : List Span) (r : RangeRow) (rows : Bounded) → Ascends r rows → tally k (runs_from r rows) ≡ summed (tally k (r ∷ rows))
unfolding runs_from
runs_tally k r [] a = by (same_ranges k r.cells)
  where
    by : (b : Bool) → map (λ s. s.annot) (cond b (r ∷ []) []) ≡ summed (map (λ s. s.annot) (cond b (r ∷ []) []))
    by true = alone r.annot
    by false = refl
runs_tally k r (s ∷ rows) a =
    sums_if (joins r s) k r s rows refl a.0 a.1 (runs_tally k (carried r s) rows (ascends_carried r s rows a.1))

-- rows in order have their runs for their normal form
pub runs_normal : (r : RangeRow) (rows : Bounded) → Ascends r rows → runs_from r rows ≡ normal (r ∷ rows)
runs_normal r rows a =
    rising_is (runs_from r rows) (normal (r ∷ rows)) (runs_rise r rows a) (normal_rises (r ∷ rows))
    (λ k. runs_tally k r rows a ∙ sym (normal_tally (r ∷ rows) k))

-- rows in another order have the same normal form
pub normal_shuffled : (xs ys : Bounded) → IsPermutation xs ys → normal ys ≡ normal xs
normal_shuffled xs ys p =
    rising_is (normal ys) (normal xs) (normal_rises ys) (normal_rises xs)
    (λ k. normal_tally ys k ∙ sym (summed_same k xs ys p) ∙ sym (normal_tally xs k))

-- ---- what a sort ensures

abbrev pub row_below : {X : Type 0} → (X → RangeRow) → X → X → Bool
row_below f a b = is_lt (ranges_order (f a).cells (f b).cells)

sorted_rest : {X : Type 0} (lt : X → X → Bool) (x : X) (xs : List X) → IsSortedBy lt (x ∷ xs) → IsSortedBy lt xs
sorted_rest lt x xs up k d l h =
    let g = up (k + 1) d (omega arith) (omega arith) in
    simp add-one (simp add-one at g)

-- sorted rows ascend
pub sorted_ascends : {X : Type 0} (f : X → RangeRow) (x : X) (xs : List X) → IsSortedBy (row_below f) (x ∷ xs) → Ascends (f x) (map f xs)
sorted_ascends f x [] up = tt
sorted_ascends f x (y ∷ xs) up = (
  not_above (f x).cells (f y).cells (up 0 x (omega arith) (omega arith)),
  sorted_ascends f y xs (sorted_rest (row_below f) x (y ∷ xs) up),
)
