-- What rows with one count, found in whatever order, hold and stand for.
use Rattle.std.specs.Prelude.{◌≡◌, ℕ, ◌+◌, ◌-◌, cond, List, [], ◌∷◌, ◌++◌, length, map, take, nat_abs, sum_by}
use Rattle.std.specs.List.{AllByRecursion}
use Rattle.std.proofs.Common.{arith, refl, sym, ◌∙◌, ap, subst}
use Rattle.std.proofs.lemmas.List.{length-append}
use Rattle.std.proofs.lemmas.List.Sums.{sum_by-cons}
use Rattle.au_value.specs.declared.kinds.Kind.{Kind}
use Rattle.au_value.specs.declared.value.Value.{Value}
use Rattle.au_expr.specs.Ordinary.{IsKind, number}
use Rattle.au_algebra.specs.Counted.{CountedRow, StandsFor, count_of}
use Rattle.au_algebra.specs.Lists.{copies, same_row, value_at}
use Rattle.au_algebra.specs.Ordinary.{Rows}
use Rattle.au_algebra.proofs.Counted.{count_of-cons}
use Rattle.au_algebra.proofs.Occurring.{SameCopies, sum_same_copies}
use Rattle.au_plan.proofs.UpToOrder.{all_same}
use Rattle.au_rwcounted.specs.CountedRows.{AreCountsRows, CountsRow, HoldCounts, count_value, counts_rows, one_count}
use Rattle.au_rwcounted.specs.Stands.{CopiesAt, copies_at, count_at}
use Rattle.au_rwcounted.proofs.CountsHold.{counts_hold}
use Rattle.au_rwcounted.proofs.Runs.{zip_long}
use Rattle.au_engine.specs.CountedInputs.{FoundRows}

-- ---- rows with one count, in whatever order

abbrev one_row : CountedRow → List Value
one_row r = r.cells ++ count_value r.annot ∷ []

-- the count of a plain row, where its values are these
abbrev weight : List Value → List Value → ℕ
weight v row = cond (same_row v (take (length row - 1) row)) (nat_abs (number (value_at row (length row - 1)))) 0

front : (cells : List Value) (x : Value) → take (length cells) (cells ++ x ∷ []) ≡ cells
front [] x = refl
front (c ∷ cells) x = ap (λ rest. c ∷ rest) (front cells x)

last : (cells : List Value) (x : Value) → value_at (cells ++ x ∷ []) (length cells) ≡ x
last [] x = refl
last (c ∷ cells) x = last cells x

one_weight : (v : List Value) (r : CountedRow) → weight v (one_row r) ≡ cond (same_row v r.cells) r.annot 0
one_weight v r =
    let wide : length (one_row r) - 1 ≡ length r.cells = omega (arith, length-append r.cells (count_value r.annot ∷ [])) in
    rw (wide, front r.cells (count_value r.annot), last r.cells (count_value r.annot)) refl

weighed : (v : List Value) (rows : List CountedRow) → count_of rows v ≡ sum_by (weight v) (map one_row rows)
weighed v [] = refl
weighed v (r ∷ rows) = omega (arith, count_of-cons v r rows, sum_by-cons (weight v) (one_row r) (map one_row rows), one_weight v r, weighed v rows)

same_counts : (xs ys : List CountedRow) → SameCopies (map one_row xs) (map one_row ys) → (v : List Value) → count_of xs v ≡ count_of ys v
same_counts xs ys same v = weighed v xs ∙ sum_same_copies (weight v) (map one_row xs) (map one_row ys) same ∙ sym (weighed v ys)

single : (ns : List ℕ) → length ns ≡ 1 → map count_value ns ≡ count_value (count_at 0 ns) ∷ []
single [] e = let never : ⊥ = omega (arith, e) in absurd never
single (n ∷ []) e = refl
single (m ∷ n ∷ ns) e = let never : ⊥ = omega (arith, e) in absurd never

-- rows with one count are those of their numbers of copies
as_one : (ks : List Kind) (rows : List CountsRow) → AreCountsRows 1 ks rows → counts_rows rows ≡ map one_row (copies_at 0 rows)
as_one ks [] h = refl
as_one ks (r ∷ rows) h = λ i. (r.cells ++ single r.annot h.0.counts i) ∷ as_one ks rows h.1 i

counted_again : (rows : List CountedRow) → counts_rows (map one_count rows) ≡ map one_row rows
counted_again [] = refl
counted_again (r ∷ rows) = ap (λ rest. one_row r ∷ rest) (counted_again rows)

-- ---- what is found

-- a row of so many values and a count
abbrev IsOne : ℕ → List Value → Type 0
IsOne n row = (cells : List Value) × (m : ℕ) × (row ≡ cells ++ count_value m ∷ []) × (length cells ≡ n)

are_one : (ks : List Kind) (rows : List CountsRow) → AreCountsRows 1 ks rows → AllByRecursion (IsOne (length ks)) (counts_rows rows)
are_one ks [] h = tt
are_one ks (r ∷ rows) h =
    ((r.cells, count_at 0 r.annot, ap (λ ns. r.cells ++ ns) (single r.annot h.0.counts), zip_long IsKind ks r.cells h.0.cells), are_one ks rows h.1)

module _ (ks : List Kind) (rows : List CountsRow) (found : Rows) (f : FoundRows 1 ks rows found) where
  found_one : AllByRecursion (IsOne (length ks)) found
  found_one = all_same (IsOne (length ks)) found (counts_rows rows) f.same (are_one ks rows f.relation)

  pub hold_counts : HoldCounts found
  hold_counts = each found found_one
    where
      each : (xs : Rows) → AllByRecursion (IsOne (length ks)) xs → HoldCounts xs
      each [] h = tt
      each (x ∷ xs) h = ((h.0.0, h.0.1, h.0.2), each xs h.1)

  module _ (made : List CountedRow) (is : counts_rows (map one_count made) ≡ found) where
    pub made_columns : AllByRecursion (λ r. length r.cells ≡ length ks) made
    made_columns = each made (subst (AllByRecursion (IsOne (length ks))) (sym is ∙ counted_again made) found_one)
      where
        each : (rs : List CountedRow) → AllByRecursion (IsOne (length ks)) (map one_row rs) → AllByRecursion (λ r. length r.cells ≡ length ks) rs
        each [] h = tt
        each (r ∷ rs) h =
            let here : length (one_row r) ≡ length h.0.0 + 1 = ap length h.0.2 ∙ length-append h.0.0 (count_value h.0.1 ∷ []) in
            let own : length (one_row r) ≡ length r.cells + 1 = length-append r.cells (count_value r.annot ∷ []) in
            let wide = h.0.3 in
            (omega (arith, here, own, wide), each rs h.1)

    pub made_stand : (w : Rows) → CopiesAt 0 rows w → StandsFor made w
    made_stand w copies_are v =
        let same : SameCopies (map one_row made) (map one_row (copies_at 0 rows)) =
        λ u. ap (copies u) (sym (counted_again made) ∙ is) ∙ f.same u ∙ ap (copies u) (as_one ks rows f.relation) in
        counts_hold.stands 0 rows w copies_are v ∙ sym (same_counts made (copies_at 0 rows) same v)
