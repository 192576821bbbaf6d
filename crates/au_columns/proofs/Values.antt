-- Columns that have an expression's careful values have its values, and its numbers fit.
use Rattle.std.specs.Prelude.{◌≡◌, ◌<◌, ℕ, zero, suc, Bool, true, false, ◌&&◌, List, [], ◌∷◌, ◌++◌, length, map, flat_map, get_or, ℤ, pos, Some, None, if◌then◌else◌}
use Rattle.std.proofs.Common.{refl, sym, ap, ◌∙◌, arith}
use Rattle.std.proofs.lemmas.List.{ext_get_or, get_or-map, length-map}
use Rattle.std.proofs.lemmas.List.Folds.{list_all-append}
use Rattle.au_value.specs.Numeral.{is_i128}
use Rattle.au_expr.specs.Figures.{fit}
use Rattle.au_plain.specs.PTerms.{PTerm}
use Rattle.au_codes.specs.Codes.{CellRows}
use Rattle.au_codes.specs.CellMeaning.{cell_value}
use Rattle.au_codes.specs.CellNumbers.{cell_numbers}
use Rattle.au_codes.specs.Careful.{careful}
use Rattle.au_codes.proofs.CarefulValues.{exact}
use Rattle.au_columns.specs.Steps.{number_at}
use Rattle.au_columns.specs.Evaluated.{Gives, IsEvaluated, Leaves, Refuses}

there : (b : Bool) (x z : ℤ) → (if b then Some x else None) ≡ Some z → (b ≡ true) × (x ≡ z)
there true x z h = (refl, cc)
there false x z h = cc

gone : (b : Bool) (x : ℤ) → (if b then Some x else None) ≡ None → b ≡ false
gone true x h = cc
gone false x h = refl

-- numbers of two parts
pub fit_both : (xs ys : List ℤ) → fit xs ≡ true → fit ys ≡ true → fit (xs ++ ys) ≡ true
fit_both xs ys p q = list_all-append is_i128 xs ys ∙ (λ j. p j && q j)

pub first_leaves : (xs ys : List ℤ) → fit xs ≡ false → fit (xs ++ ys) ≡ false
first_leaves xs ys p = list_all-append is_i128 xs ys ∙ ap (λ b. b && fit ys) p

neither : (b : Bool) → (b && false) ≡ false
neither true = refl
neither false = refl

pub second_leaves : (xs ys : List ℤ) → fit ys ≡ false → fit (xs ++ ys) ≡ false
second_leaves xs ys p = list_all-append is_i128 xs ys ∙ ap (λ b. fit xs && b) p ∙ neither (fit xs)

all_fit : (e : PTerm) (rows : CellRows) → ((i : ℕ) → i < length rows → fit (cell_numbers e (get_or rows i [])) ≡ true) → fit (flat_map (cell_numbers e) rows) ≡ true
all_fit e [] h = refl
all_fit e (row ∷ rows) h = fit_both (cell_numbers e row) (flat_map (cell_numbers e) rows) (h zero (omega arith)) (all_fit e rows (λ i below. h (suc i) (omega (arith, below))))

one_leaves : (e : PTerm) (rows : CellRows) (i : ℕ) → i < length rows → fit (cell_numbers e (get_or rows i [])) ≡ false → fit (flat_map (cell_numbers e) rows) ≡ false
one_leaves e [] i below h = let never : ⊥ = omega (arith, below) in absurd never
one_leaves e (row ∷ rows) zero below h = first_leaves (cell_numbers e row) (flat_map (cell_numbers e) rows) h
one_leaves e (row ∷ rows) (suc i) below h = second_leaves (cell_numbers e row) (flat_map (cell_numbers e) rows) (one_leaves e rows i (omega (arith, below)) h)

-- what is given is the value
pub evaluated : (e : PTerm) (rows : CellRows) (zs : List ℤ) → Gives (careful e) rows zs → IsEvaluated e rows zs
evaluated e rows zs given =
    let len = given.len in
    let at = λ (i : ℕ) (below : i < length rows). there (fit (cell_numbers e (get_or rows i []))) (cell_value e (get_or rows i [])) (number_at zs i) (sym (exact (get_or rows i []) e) ∙ given.each i below) in
    record {
      values =
          ext_get_or (pos 0) zs (map (cell_value e) rows) (len ∙ sym (length-map rows (cell_value e)))
          (λ i below.
          let within : i < length rows = omega (arith, len, below) in
          sym (at i within).1 ∙ sym (get_or-map (cell_value e) rows i [] (pos 0) within));
      fits = all_fit e rows (λ i below. (at i below).0);
    }

-- a row without a careful value has numbers that don't fit
pub refused : (e : PTerm) (rows : CellRows) → Refuses (careful e) rows → Leaves e rows
refused e rows (i, below, none) = one_leaves e rows i below (gone (fit (cell_numbers e (get_or rows i []))) (cell_value e (get_or rows i [])) (sym (exact (get_or rows i []) e) ∙ none))
