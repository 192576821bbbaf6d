-- Rows that have a copy in the guess world stay so under the four positive operators, so that none is left out: the answer over
-- pairs is the one over rows with two counts.
use Rattle.std.specs.Prelude.{◌≡◌, ℕ, zero, suc, ◌*◌, ◌<◌, ◌≤◌, Bool, true, false, not, cond, List, [], ◌∷◌, ◌++◌, map, filter, flat_map, nat_le, unwrap_or, slice_get}
use Rattle.std.specs.List.{AllByRecursion}
use Rattle.std.proofs.Common.{arith, refl, sym, ◌∙◌, ap, subst, leb-true, mul-le-mul}
use Rattle.std.proofs.lemmas.Bool.{and_parts, true≢false, false_from_ne_true}
use Rattle.std.proofs.lemmas.List.{map-append}
use Rattle.au_annot.specs.Pairs.{PairCounts, pair_of, none, times, at_most}
use Rattle.au_expr.specs.Ordinary.{ordinary, is_true, value_of}
use Rattle.au_expr.specs.Terms.{Term}
use Rattle.au_keval.specs.Weights.{twice_of}
use Rattle.au_algebra.specs.Entries.{entry}
use Rattle.au_algebra.specs.Positive as positive
use Rattle.au_algebra.specs.Positive.{is_positive}
use Rattle.au_algebra.specs.Trees.{Tree, Table, Select, Project, Product, Union, Difference, Distinct, Group, Total}
use Rattle.au_algebra.proofs.Each.{all_append, all_filter}
use Rattle.au_rwexpr.proofs.Gives.{map-map}
use Rattle.au_rwcounted.specs.Answers.{counted_answer}
use Rattle.au_rwcounted.specs.CountedRows.{CountsRow, two_counts}
use Rattle.au_rwcounted.specs.Operators as counts
use Rattle.au_rwcounted.specs.Operators.{pair}
use Rattle.au_rwcounted.specs.PairAnswers.{PairRow, IsGuessed as Guessed, AreGuessed, over_pairs, PairAnswersAreCounted}

abbrev positive_answer : Tree → List (List PairRow) → List PairRow
positive_answer q us = positive.positive ordinary over_pairs q us

-- ---- rows that are not left out

no_copies : (p : PairCounts) → at_most p none ≡ true → p.guess ≤ 0
no_copies p h = leb-true p.guess 0 (and_parts (nat_le p.certain 0) (nat_le p.guess 0) h).1

there : (p : PairCounts) → 0 < p.guess → at_most p none ≡ false
there p some = false_from_ne_true (at_most p none) (λ t. let n = no_copies p t in omega (arith, some, n))

none_left_out : (rows : List PairRow) → AreGuessed rows → positive.present ordinary over_pairs rows ≡ rows
none_left_out [] h = refl
none_left_out (r ∷ rows) h =
    (λ i. cond (not (there r.annot h.0 i)) (r ∷ positive.present ordinary over_pairs rows) (positive.present ordinary over_pairs rows))
    ∙ ap (λ rs. r ∷ rs) (none_left_out rows h.1)

-- ---- Select

module _ (e : Term) where
  abbrev holds : PairRow → Bool
  holds r = is_true (value_of e r.cells)

  abbrev weighed : PairRow → PairRow
  weighed r = entry r.cells (times r.annot (twice_of (holds r)))

  weight_if : (b : Bool) (p : PairCounts) → times p (twice_of b) ≡ cond b p none
  weight_if true p =
      let c : p.certain * 1 ≡ p.certain = omega arith in let g : p.guess * 1 ≡ p.guess = omega arith in λ i. pair_of (c i) (g i)
  weight_if false p =
      let c : p.certain * 0 ≡ 0 = omega arith in let g : p.guess * 0 ≡ 0 = omega arith in λ i. pair_of (c i) (g i)

  kept_if : (b : Bool) (r : PairRow) (rest : List PairRow) → Guessed r → cond (not (at_most (cond b r.annot none) none)) (entry r.cells (cond b r.annot none) ∷ rest) rest ≡ cond b (r ∷ rest) rest
  kept_if true r rest h = λ i. cond (not (there r.annot h i)) (r ∷ rest) rest
  kept_if false r rest h = refl

  select_is : (rows : List PairRow) → AreGuessed rows → positive.select ordinary over_pairs e rows ≡ filter holds rows
  select_is [] h = refl
  select_is (r ∷ rows) h =
      let rest = positive.present ordinary over_pairs (map weighed rows) in
      (λ i. cond (not (at_most (weight_if (holds r) r.annot i) none)) (entry r.cells (weight_if (holds r) r.annot i) ∷ rest) rest)
      ∙ kept_if (holds r) r rest h.0
      ∙ ap (λ rs. cond (holds r) (r ∷ rs) rs) (select_is rows h.1)

  select_guessed : (rows : List PairRow) → AreGuessed rows → AreGuessed (positive.select ordinary over_pairs e rows)
  select_guessed rows h = subst AreGuessed (sym (select_is rows h)) (all_filter Guessed holds rows h)

  passes_if : (b : Bool) (r : PairRow) (rows : List PairRow) → cond b (two_counts r ∷ map two_counts rows) (map two_counts rows) ≡ map two_counts (cond b (r ∷ rows) rows)
  passes_if true r rows = refl
  passes_if false r rows = refl

  passing_two : (rows : List PairRow) → counts.select e (map two_counts rows) ≡ map two_counts (filter holds rows)
  passing_two [] = refl
  passing_two (r ∷ rows) = ap (λ rs. cond (holds r) (two_counts r ∷ rs) rs) (passing_two rows) ∙ passes_if (holds r) r (filter holds rows)

  select_same : (rows : List PairRow) → AreGuessed rows → counts.select e (map two_counts rows) ≡ map two_counts (positive.select ordinary over_pairs e rows)
  select_same rows h =
      passing_two rows ∙ ap (map two_counts) (sym (select_is rows h))

-- ---- Project

module _ (items : List Term) where
  abbrev valued : PairRow → PairRow
  valued r = entry (map (λ e. value_of e r.cells) items) r.annot

  all_valued : (rows : List PairRow) → AreGuessed rows → AreGuessed (map valued rows)
  all_valued [] h = tt
  all_valued (r ∷ rows) h = (h.0, all_valued rows h.1)

  project_guessed : (rows : List PairRow) → AreGuessed rows → AreGuessed (positive.project ordinary over_pairs items rows)
  project_guessed rows h = all_filter Guessed _ (map valued rows) (all_valued rows h)

  project_same : (rows : List PairRow) → AreGuessed rows → counts.project items (map two_counts rows) ≡ map two_counts (positive.project ordinary over_pairs items rows)
  project_same rows h =
      map-map two_counts (λ (r : CountsRow). entry (map (λ e. value_of e r.cells) items) r.annot) rows
      ∙ sym (map-map valued two_counts rows)
      ∙ ap (map two_counts) (sym (none_left_out (map valued rows) (all_valued rows h)))

-- ---- Product

abbrev joined : PairRow → PairRow → PairRow
joined x y = entry (x.cells ++ y.cells) (times x.annot y.annot)

abbrev all_pairs : List PairRow → List PairRow → List PairRow
all_pairs xs ys = flat_map (λ x. map (joined x) ys) xs

both_guessed : (m n : ℕ) → 0 < m → 0 < n → 0 < m * n
both_guessed m n h g = let least : 1 * 1 ≤ m * n = mul-le-mul (let a : 1 ≤ m = omega (arith, h) in a) (let b : 1 ≤ n = omega (arith, g) in b) in omega (arith, least)

row_guessed : (x : PairRow) (ys : List PairRow) → Guessed x → AreGuessed ys → AreGuessed (map (joined x) ys)
row_guessed x [] h g = tt
row_guessed x (y ∷ ys) h g = (both_guessed x.annot.guess y.annot.guess h g.0, row_guessed x ys h g.1)

pairs_guessed : (xs ys : List PairRow) → AreGuessed xs → AreGuessed ys → AreGuessed (all_pairs xs ys)
pairs_guessed [] ys h g = tt
pairs_guessed (x ∷ xs) ys h g = all_append Guessed (map (joined x) ys) (all_pairs xs ys) (row_guessed x ys h.0 g) (pairs_guessed xs ys h.1 g)

row_same : (x : PairRow) (ys : List PairRow) → map (pair (two_counts x)) (map two_counts ys) ≡ map two_counts (map (joined x) ys)
row_same x ys = map-map two_counts (pair (two_counts x)) ys ∙ sym (map-map (joined x) two_counts ys)

pairs_same : (xs ys : List PairRow) → counts.product (map two_counts xs) (map two_counts ys) ≡ map two_counts (all_pairs xs ys)
pairs_same [] ys = refl
pairs_same (x ∷ xs) ys = (λ i. row_same x ys i ++ pairs_same xs ys i) ∙ sym (map-append two_counts (map (joined x) ys) (all_pairs xs ys))

-- ---- the tree

table_guessed : (us : List (List PairRow)) → AllByRecursion AreGuessed us → (i : ℕ) → AreGuessed (unwrap_or (slice_get us i) [])
table_guessed [] h i = tt
table_guessed (t ∷ us) h zero = h.0
table_guessed (t ∷ us) h (suc i) = table_guessed us h.1 i

table_same : (us : List (List PairRow)) (i : ℕ) → unwrap_or (slice_get (map (map two_counts) us) i) [] ≡ map two_counts (unwrap_or (slice_get us i) [])
table_same [] i = refl
table_same (t ∷ us) zero = refl
table_same (t ∷ us) (suc i) = table_same us i

module _ (us : List (List PairRow)) (guessed : AllByRecursion AreGuessed us) where
  answer_guessed : (q : Tree) → AreGuessed (positive_answer q us)
  answer_guessed (Table i) = table_guessed us guessed i
  answer_guessed (Select e q) = select_guessed e (positive_answer q us) (answer_guessed q)
  answer_guessed (Project items q) = project_guessed items (positive_answer q us) (answer_guessed q)
  answer_guessed (Product a b) =
      all_filter Guessed _ (all_pairs (positive_answer a us) (positive_answer b us)) (pairs_guessed (positive_answer a us) (positive_answer b us) (answer_guessed a) (answer_guessed b))
  answer_guessed (Union a b) =
      all_filter Guessed _ (positive_answer a us ++ positive_answer b us) (all_append Guessed (positive_answer a us) (positive_answer b us) (answer_guessed a) (answer_guessed b))
  answer_guessed (Difference a b) = tt
  answer_guessed (Distinct q) = tt
  answer_guessed (Group keys aggs q) = tt
  answer_guessed (Total aggs q) = tt

  -- the answer over rows with two counts is that over pairs
  pub answer_same : (q : Tree) → is_positive q ≡ true → counted_answer q (map (map two_counts) us) ≡ map two_counts (positive_answer q us)
  answer_same (Table i) p = table_same us i
  answer_same (Select e q) p = ap (counts.select e) (answer_same q p) ∙ select_same e (positive_answer q us) (answer_guessed q)
  answer_same (Project items q) p = ap (counts.project items) (answer_same q p) ∙ project_same items (positive_answer q us) (answer_guessed q)
  answer_same (Product a b) p =
      let h = and_parts (is_positive a) (is_positive b) p in
      let xs = positive_answer a us in
      let ys = positive_answer b us in
      (λ i. counts.product (answer_same a h.0 i) (answer_same b h.1 i))
      ∙ pairs_same xs ys
      ∙ ap (map two_counts) (sym (none_left_out (all_pairs xs ys) (pairs_guessed xs ys (answer_guessed a) (answer_guessed b))))
  answer_same (Union a b) p =
      let h = and_parts (is_positive a) (is_positive b) p in
      let xs = positive_answer a us in
      let ys = positive_answer b us in
      (λ i. answer_same a h.0 i ++ answer_same b h.1 i)
      ∙ sym (map-append two_counts xs ys)
      ∙ ap (map two_counts) (sym (none_left_out (xs ++ ys) (all_append Guessed xs ys (answer_guessed a) (answer_guessed b))))
  answer_same (Difference a b) p = absurd (true≢false (sym p))
  answer_same (Distinct q) p = absurd (true≢false (sym p))
  answer_same (Group keys aggs q) p = absurd (true≢false (sym p))
  answer_same (Total aggs q) p = absurd (true≢false (sym p))

pub pair_answers : PairAnswersAreCounted
pair_answers q us p guessed = answer_same us guessed q p
