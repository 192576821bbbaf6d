-- Rows in the order of their values: lists with the same copies have one order, and a sort gives it.
use Rattle.std.specs.Prelude.{◌≡◌, ◌<◌, Bool, true, false, not, cond, List, [], ◌∷◌, map, Vec}
use Rattle.std.specs.List.{AllByRecursion}
use Rattle.std.specs.List.Sorted.{IsPermutation, IsSortedBy, IsStableBy}
use Rattle.std.specs.declared.alloc.Global.{Global}
use Rattle.std.specs.declared.cmp.Ordering.{Ordering}
use Rattle.std.specs.declared.cmp.Ordering.TheVariants.{Less, Equal, Greater}
use Rattle.std.specs.Ordering.{is_eq, is_le, is_lt, ordering_reverse}
use Rattle.std.specs.Cmp.{IsStrictWeakOrder, tied_itself}
use Rattle.std.specs.Cmp.Lexicographic.{lists_ties, slice_cmp}
use Rattle.std.proofs.Common.{arith, refl, sym, ◌∙◌, ap, subst}
use Rattle.std.proofs.lemmas.Cmp.{lists_total}
use Rattle.std.proofs.lemmas.List.Sorted.{IsPermutation-map, ranks_by, sum_by-IsPermutation}
use Rattle.au_value.specs.declared.value.Value.{Value}
use Rattle.au_value.specs.Order.{order}
use Rattle.au_value.proofs.OrderLaws.{order_total}
use Rattle.au_algebra.specs.Lists.{same_row, sorted_by}
use Rattle.au_algebra.specs.Ordinary.{Rows}
use Rattle.au_algebra.proofs.Choices.{counted}
use Rattle.au_algebra.proofs.Copies.{copies-cons, same_row_is}
use Rattle.au_algebra.proofs.Occurring.{SameCopies, first_occurs, occurring}
use Rattle.au_algebra.proofs.Sorting.{same_sorted}
use Rattle.au_print.specs.GuessTexts.{in_order, values_at_most}
use Rattle.au_engine.proofs.StableSorts as stable_sort

-- which of two rows is before the other
abbrev pub before : List Value → List Value → Bool
before a b = is_lt (slice_cmp order a b)

ranks : IsStrictWeakOrder before
ranks = ranks_by (lists_total order_total) (λ row. row)

-- ---- the order of the definition

turned : (o : Ordering) → is_le o ≡ not (is_lt (ordering_reverse o))
turned Less = refl
turned Equal = refl
turned Greater = refl

test_is : (a b : List Value) → values_at_most a b ≡ not (before b a)
test_is a b = turned (slice_cmp order a b) ∙ ap (λ o. not (is_lt o)) (sym ((lists_total order_total).antisymm b a))

order_is : (rows : Rows) → sorted_by (stable_sort.not_after before) rows ≡ in_order rows
order_is rows = λ i. sorted_by (λ a b. sym (test_is a b) i) rows

-- it rises
rising : (rows : Rows) → stable_sort.Up before (in_order rows)
rising rows = subst (stable_sort.Up before) (order_is rows) (stable_sort.up_sorted before ranks rows)

-- and has the same rows
pub same_in_order : (rows : Rows) → SameCopies (in_order rows) rows
same_in_order rows = same_sorted values_at_most rows

-- ---- rows that rise are given by their copies

-- two rows of which neither is before the other are one row
level : (o : Ordering) → is_lt o ≡ false → is_lt (ordering_reverse o) ≡ false → is_eq o ≡ true
level Less h g = sym h
level Equal h g = refl
level Greater h g = sym g

one_row : (x y : List Value) → before x y ≡ false → before y x ≡ false → x ≡ y
one_row x y h g =
    same_row_is x y
    (lists_ties order (λ a b. refl) x y ∙ level (slice_cmp order x y) h (ap is_lt (sym ((lists_total order_total).antisymm y x)) ∙ g))

-- what stands in a list is not before one that stands below the list
not_before : (y : List Value) (ys : Rows) → stable_sort.Above before y ys → AllByRecursion (λ w. before w y ≡ false) ys
not_before y [] h = tt
not_before y (z ∷ ys) h = (h.0, not_before y ys h.1)

itself : (y : List Value) → before y y ≡ false
itself y = ap is_lt (tied_itself (lists_total order_total) y)

module _ (x y : List Value) (xs ys : Rows) (same : SameCopies (x ∷ xs) (y ∷ ys)) where
  first_at_least : stable_sort.Above before y ys → before x y ≡ false
  first_at_least h = occurring (λ w. before w y ≡ false) x (y ∷ ys) (itself y, not_before y ys h) (subst (λ n. 0 < n) (same x) (first_occurs x xs))

pub unique : (xs ys : Rows) → stable_sort.Up before xs → stable_sort.Up before ys → SameCopies xs ys → xs ≡ ys
unique [] [] u v same = refl
unique [] (y ∷ ys) u v same = let never : ⊥ = omega (arith, same y, first_occurs y ys) in absurd never
unique (x ∷ xs) [] u v same = let never : ⊥ = omega (arith, same x, first_occurs x xs) in absurd never
unique (x ∷ xs) (y ∷ ys) u v same =
    let is : x ≡ y = one_row x y (first_at_least x y xs ys same v.0) (first_at_least y x ys xs (λ w. sym (same w)) u.0) in
    let rest : xs ≡ ys = unique xs ys u.1 v.1 (λ w. (let heads : counted (same_row w x) ≡ counted (same_row w y) = ap (λ r. counted (same_row w r)) is in
    omega (arith, heads, same w, copies-cons w x xs, copies-cons w y ys))) in
    λ i. is i ∷ rest i

-- lists with the same copies have one order
pub same_order : (xs ys : Rows) → SameCopies xs ys → in_order xs ≡ in_order ys
same_order xs ys same = unique (in_order xs) (in_order ys) (rising xs) (rising ys) (λ v. same_in_order xs v ∙ same v ∙ sym (same_in_order ys v))

-- ---- a sort

abbrev Row : Type 0
Row = Vec Value Global

pub row_ranks : IsStrictWeakOrder (λ (a b : Row). before a.items b.items)
row_ranks = ranks_by (lists_total order_total) (λ row. row.items)

above_read : (x : Row) (xs : List Row) → stable_sort.Above (λ (a b : Row). before a.items b.items) x xs → stable_sort.Above before x.items (map (λ row. row.items) xs)
above_read x [] h = tt
above_read x (y ∷ xs) h = (h.0, above_read x xs h.1)

up_read : (xs : List Row) → stable_sort.Up (λ (a b : Row). before a.items b.items) xs → stable_sort.Up before (map (λ row. row.items) xs)
up_read [] h = tt
up_read (x ∷ xs) h = (above_read x xs h.0, up_read xs h.1)

-- the rows that a stable sort gives
pub sorted_rows :
    (rows sorted : List Row) → IsSortedBy (λ (a b : Row). before a.items b.items) sorted → IsStableBy (λ (a b : Row). before a.items b.items) rows sorted
    → IsPermutation rows sorted → map (λ row. row.items) sorted ≡ in_order (map (λ row. row.items) rows)
sorted_rows rows sorted s stable permuted =
    let lt = λ (a b : Row). before a.items b.items in
    let up = subst (stable_sort.Up lt) (sym (stable_sort.sorted_is lt row_ranks rows sorted s stable)) (stable_sort.up_sorted lt row_ranks rows) in
    let given = map (λ (row : Row). row.items) rows in
    let made = map (λ (row : Row). row.items) sorted in
    let same : SameCopies made given = λ v. sum_by-IsPermutation (λ row. cond (same_row v row) 1 0) given made (IsPermutation-map (λ (row : Row). row.items) rows sorted permuted) in
    unique made (in_order given) (up_read sorted up) (rising given) (λ v. same v ∙ sym (same_in_order given v))
