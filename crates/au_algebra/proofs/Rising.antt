-- Rows in strict order, which their triples by ranges determine.
use Rattle.std.specs.Prelude.{◌≡◌, List, [], ◌∷◌}
use Rattle.std.specs.List.{AllByRecursion}
use Rattle.std.specs.declared.cmp.Ordering.{Ordering}
use Rattle.std.specs.declared.cmp.Ordering.TheVariants.{Less, Equal, Greater}
use Rattle.std.proofs.Common.{refl, sym, ◌∙◌, ap, subst, inl, inr}
use Rattle.std.proofs.lemmas.Bool.{cases_Bool}
use Rattle.au_value.specs.Ranges.{Span}
use Rattle.au_algebra.specs.Entries.{entry}
use Rattle.au_algebra.specs.Bounded.{RangeRow, Bounded, same_ranges, ranges_order}
use Rattle.au_algebra.proofs.Each.{all_from}
use Rattle.au_algebra.proofs.KeptByMerging.{same_ranges_is, same_ranges_refl}
use Rattle.au_algebra.proofs.RangesOrder.{ranges_total, tied_is, below_other, turned_over}
use Rattle.au_algebra.proofs.Tallies.{tally, tally_same, tally_other}

-- each row is above these ranges
abbrev pub AllAbove : List Span → Bounded → Type 0
AllAbove k rows = AllByRecursion (λ s. ranges_order k s.cells ≡ Less) rows

-- each row is below those after it
abbrev pub Rising : Bounded → Type 0
Rising [] = Unit {0}
Rising (r ∷ rows) = AllAbove r.cells rows × Rising rows

-- rows above these ranges do not have them
pub none_above : (k : List Span) (rows : Bounded) → AllAbove k rows → tally k rows ≡ []
none_above k [] h = refl
none_above k (s ∷ rows) h = tally_other k s rows (below_other k s.cells h.0) ∙ none_above k rows h.1

-- what is above the greater is above the lesser
pub all_above : (j k : List Span) (rows : Bounded) → ranges_order j k ≡ Less → AllAbove k rows → AllAbove j rows
all_above j k rows l h =
    all_from (λ s. ranges_order k s.cells ≡ Less) (λ s. ranges_order j s.cells ≡ Less) rows (λ s g. ranges_total.trans j k s.cells l g) h

-- two lists of rows have the same triples of each ranges
abbrev pub SameTallies : Bounded → Bounded → Type 0
SameTallies xs ys = (k : List Span) → tally k xs ≡ tally k ys

-- the first row is not below the other list's first
not_below : (x y : RangeRow) (xs ys : Bounded) → Rising (y ∷ ys) → SameTallies (x ∷ xs) (y ∷ ys) → ranges_order x.cells y.cells ≡ Less → ⊥
not_below x y xs ys b e l =
    let none : tally x.cells (y ∷ ys) ≡ [] = none_above x.cells (y ∷ ys) (l, all_above x.cells y.cells ys l b.0) in
    let some : tally x.cells (x ∷ xs) ≡ x.annot ∷ tally x.cells xs = tally_same x.cells x xs (same_ranges_refl x.cells) in
    let same = e x.cells in
    cc

first_by : (r : Ordering) (x y : RangeRow) (xs ys : Bounded) → ranges_order x.cells y.cells ≡ r → Rising (x ∷ xs) → Rising (y ∷ ys) → SameTallies (x ∷ xs) (y ∷ ys) → x.cells ≡ y.cells
first_by Less x y xs ys o a b e = absurd (not_below x y xs ys b e o)
first_by Equal x y xs ys o a b e = tied_is x.cells y.cells o
first_by Greater x y xs ys o a b e =
    absurd (not_below y x ys xs a (λ k. sym (e k)) (turned_over x.cells y.cells o))

module _ (x y : RangeRow) (xs ys : Bounded) (a : Rising (x ∷ xs)) (b : Rising (y ∷ ys)) (e : SameTallies (x ∷ xs) (y ∷ ys)) where
  first_cells : x.cells ≡ y.cells
  first_cells = first_by (ranges_order x.cells y.cells) x y xs ys refl a b e

  first_annot : x.annot ≡ y.annot
  first_annot =
      let left : tally x.cells (x ∷ xs) ≡ x.annot ∷ tally x.cells xs = tally_same x.cells x xs (same_ranges_refl x.cells) in
      let right : tally x.cells (y ∷ ys) ≡ y.annot ∷ tally x.cells ys =
      tally_same x.cells y ys (ap (λ c. same_ranges x.cells c) (sym first_cells) ∙ same_ranges_refl x.cells) in
      let same = e x.cells in
      cc

  rest_same : SameTallies xs ys
  rest_same k = elim (cases_Bool (same_ranges k x.cells)) [
    | inl t ↦ (
        let is : x.cells ≡ k = sym (same_ranges_is k x.cells t) in
        none_above k xs (subst (λ c. AllAbove c xs) is a.0) ∙ sym (none_above k ys (subst (λ c. AllAbove c ys) (sym first_cells ∙ is) b.0)))
    | inr f ↦ sym (tally_other k x xs f) ∙ e k ∙ tally_other k y ys (ap (λ c. same_ranges k c) (sym first_cells) ∙ f)
  ]

-- rows in strict order with the same triples are one list
pub rising_is : (xs ys : Bounded) → Rising xs → Rising ys → SameTallies xs ys → xs ≡ ys
rising_is [] [] a b e = refl
rising_is [] (y ∷ ys) a b e =
    let some = tally_same y.cells y ys (same_ranges_refl y.cells) in
    let same = e y.cells in
    absurd (let never : ⊥ = cc in never)
rising_is (x ∷ xs) [] a b e =
    let some = tally_same x.cells x xs (same_ranges_refl x.cells) in
    let same = e x.cells in
    absurd (let never : ⊥ = cc in never)
rising_is (x ∷ xs) (y ∷ ys) a b e =
    let rest = rising_is xs ys a.1 b.1 (rest_same x y xs ys a b e) in
    λ i. entry (first_cells x y xs ys a b e i) (first_annot x y xs ys a b e i) ∷ rest i
