-- The rows of a difference: what makes its work possible, and where its numbers lie in the range.
use Rattle.std.specs.Prelude.{◌≡◌, ℕ, ◌-◌, ◌^◌, ◌<◌, Bool, true, false, not, ◌&&◌, cond, List, [], ◌∷◌, ◌++◌, map, flat_map, pos}
use Rattle.std.specs.List.{AllByRecursion, AllZip, list_all}
use Rattle.std.proofs.Common.{arith, refl, sym, ◌∙◌, ap}
use Rattle.std.proofs.lemmas.Bool.{and_parts, and_from}
use Rattle.std.proofs.lemmas.List.Folds.{list_all-append}
use borrow.Author.Tests.{ltb-true, lt-ltb}
use Rattle.au_value.specs.declared.kinds.Kind.{Kind}
use Rattle.au_value.specs.Ranges.{Span, IsRangeOf}
use Rattle.au_value.specs.Numeral.{is_i128}
use Rattle.au_annot.specs.Triples.{is_none}
use Rattle.au_algebra.specs.Bounded.{RangeRow, Bounded, combine, difference, less, present}
use Rattle.au_algebra.specs.Fits.{triples_fit, triple_numbers, difference_sums}
use Rattle.au_algebra.specs.Laws.{IsRangeRow, IsRelation}
use Rattle.au_algebra.proofs.Cells.{cells_hold}
use Rattle.au_algebra.proofs.DifferenceRelation.{each_less}
use Rattle.au_algebra.proofs.Each.{all_from}
use Rattle.au_algebra.proofs.RelationRows.{IsLoose, relation_holds}
use Rattle.au_kfull.specs.Keys.{kinds, HasKinds}
use Rattle.au_kfull.specs.Numbers.{sums_fit, difference_fits, IsLike, IsReady}
use Rattle.au_kfull.proofs.Fitting.{count_in_range}

-- ranges of some kinds have these kinds
pub kinds_are : (ks : List Kind) (cells : List Span) → AllZip IsRangeOf ks cells → kinds cells ≡ ks
kinds_are [] [] z = refl
kinds_are [] (r ∷ rs) z = elim z [ ]
kinds_are (k ∷ ks) [] z = elim z [ ]
kinds_are (k ∷ ks) (r ∷ rs) z = λ i. z.0.kind i ∷ kinds_are ks rs z.1 i

-- the rows of a relation have its kinds
pub relation_kinds : (ks : List Kind) (rows : Bounded) → IsRelation ks rows → HasKinds ks rows
relation_kinds ks rows ok = all_from (IsRangeRow ks) (λ r. kinds r.cells ≡ ks) rows (λ r k. kinds_are ks r.cells k.cells) ok

module _ (ks : List Kind) (right : Bounded) (ok : IsRelation ks right) where
  ready_row : (t : RangeRow) → IsRangeRow ks t → HasKinds (kinds t.cells) right
  ready_row t p = all_from (IsRangeRow ks) (λ r. kinds r.cells ≡ kinds t.cells) right (λ r k. kinds_are ks r.cells k.cells ∙ sym (kinds_are ks t.cells p.cells)) ok

  like_row : (t : RangeRow) → IsRangeRow ks t → IsLike right t.cells
  like_row t p = record { one_kinds = ready_row t p; held = cells_hold ks t.cells p.cells; all_held = relation_holds ks right ok }

  ready_by : (rows : Bounded) → IsRelation ks rows → IsLoose ks (map (less right) rows) → AllByRecursion (IsReady right) rows
  ready_by [] p l = tt
  ready_by (t ∷ rows) p l = (record { like = like_row t p.0; ordered = l.0.triple }, ready_by rows p.1 l.1)

  -- each row of a relation of the same kinds is ready
  pub all_ready : (rows : Bounded) → IsRelation ks rows → AllByRecursion (IsReady right) rows
  all_ready rows p = ready_by rows p (each_less ks right ok rows p)

-- the numbers of all rows lie in the range where those of each do
pub list_all-flat_map : {A B : Type 0} (test : B → Bool) (f : A → List B) (xs : List A) → list_all test (flat_map f xs) ≡ list_all (λ x. list_all test (f x)) xs
list_all-flat_map test f [] = refl
list_all-flat_map test f (x ∷ xs) = list_all-append test (f x) (flat_map f xs) ∙ ap (λ b. list_all test (f x) && b) (list_all-flat_map test f xs)

lower_fits : (m k : ℕ) → is_i128 (pos m) ≡ true → is_i128 (pos (m - k)) ≡ true
lower_fits m k h =
    let lt = ltb-true m (2 ^ 127) (sym (count_in_range m) ∙ h) in
    count_in_range (m - k) ∙ lt-ltb (m - k) (2 ^ 127) (let less : m - k < 2 ^ 127 = omega (arith, lt) in less)

fit_if : (b : Bool) (r : RangeRow) (rows : Bounded) → is_i128 (pos r.annot.least) ≡ true → is_i128 (pos r.annot.guess) ≡ true → is_i128 (pos r.annot.most) ≡ true → triples_fit rows ≡ true → triples_fit (cond b (r ∷ rows) rows) ≡ true
fit_if true r rows l g m h = and_from _ _ l (and_from _ _ g (and_from _ _ m h))
fit_if false r rows l g m h = h

-- what is left of rows in the range lies in it
pub rest_fits : (right rows : Bounded) → triples_fit rows ≡ true → triples_fit (present (map (less right) rows)) ≡ true
rest_fits right [] h = refl
rest_fits right (t ∷ rows) h =
    let p = and_parts (is_i128 (pos t.annot.least)) _ h in
    let q = and_parts (is_i128 (pos t.annot.guess)) _ p.1 in
    let r = and_parts (is_i128 (pos t.annot.most)) (triples_fit rows) q.1 in
    fit_if (not (is_none (less right t).annot)) (less right t) (present (map (less right) rows))
    (lower_fits t.annot.least _ p.0) (lower_fits t.annot.guess _ q.0) (lower_fits t.annot.most _ r.0) (rest_fits right rows r.1)

-- whether the numbers fit, from those of each part
pub fits_by_parts : (left right : Bounded) → difference_fits left right ≡ (triples_fit (combine left) && (list_all (sums_fit right) (combine left) && triples_fit (difference left right)))
fits_by_parts left right =
    list_all-append is_i128 (triple_numbers (combine left)) (flat_map (difference_sums right) (combine left) ++ triple_numbers (difference left right))
    ∙ ap (λ b. triples_fit (combine left) && b)
    (list_all-append is_i128 (flat_map (difference_sums right) (combine left)) (triple_numbers (difference left right))
    ∙ ap (λ b. b && triples_fit (difference left right)) (list_all-flat_map is_i128 (difference_sums right) (combine left)))

-- a test that fails fails with any other
pub and_false : (a b : Bool) → b ≡ false → (a && b) ≡ false
and_false true b h = h
and_false false b h = refl

-- all numbers fit
pub all_numbers_fit : (left right : Bounded) → triples_fit (combine left) ≡ true → list_all (sums_fit right) (combine left) ≡ true → difference_fits left right ≡ true
all_numbers_fit left right h k =
    fits_by_parts left right ∙ and_from _ _ h (and_from _ _ k (rest_fits right (combine left) h))

-- a combined triple does not
pub triples_do_not : (left right : Bounded) → triples_fit (combine left) ≡ false → difference_fits left right ≡ false
triples_do_not left right h =
    fits_by_parts left right ∙ ap (λ b. b && (list_all (sums_fit right) (combine left) && triples_fit (difference left right))) h

-- or a sum does not
pub sums_do_not : (left right : Bounded) → list_all (sums_fit right) (combine left) ≡ false → difference_fits left right ≡ false
sums_do_not left right h =
    fits_by_parts left right
    ∙ and_false (triples_fit (combine left)) _ (ap (λ b. b && triples_fit (difference left right)) h)
