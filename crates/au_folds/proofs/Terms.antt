-- What is kept of an aggregate over the members of a group, one member more.
use Rattle.std.specs.Prelude.{◌≡◌, ◌<◌, ◌+◌, ℕ, true, false, cond, List, [], ◌∷◌, ◌++◌, length, ℤ, ◌+ℤ◌, nat_abs, sum_by}
use Rattle.std.proofs.Common.{refl, sym, ap, ◌∙◌, arith}
use Rattle.std.proofs.lemmas.Int.{ints}
use Rattle.std.proofs.lemmas.List.{map-append}
use Rattle.std.proofs.lemmas.List.Sums.{sum_by-append, sum_by-cons}
use Rattle.au_value.specs.Adding.{Sum, sum_of, with_term}
use Rattle.au_value.specs.Ranges.{greater, lesser}
use Rattle.au_value.specs.declared.value.Value.TheVariants.{Int}
use Rattle.au_value.proofs.RangeLaws.{greater_assoc, lesser_assoc}
use Rattle.au_expr.specs.Ordinary.{number}
use Rattle.au_algebra.specs.Lists.{int_sum}
use Rattle.au_codes.specs.Codes.{Cells, CellRows, number_at_most}
use Rattle.au_codes.specs.CellMeaning.{cell_in, greater_number, greatest_number, least_number, lesser_number}
use Rattle.au_folds.specs.Kept.{column_of}

-- a sum over rows, with its magnitudes
abbrev pub sum_over : ℕ → CellRows → Sum
sum_over c rows = sum_of (int_sum (column_of c rows)) (sum_by (λ row. nat_abs (cell_in row c)) rows)

sum_push : (c : ℕ) (rows : CellRows) (r : Cells) → int_sum (column_of c (rows ++ r ∷ [])) ≡ int_sum (column_of c rows) +ℤ cell_in r c
sum_push c [] r = let z = cell_in r c in omega (arith, ints)
sum_push c (y ∷ rows) r = let rest = sum_push c rows r in omega (arith, ints, rest)

magnitude_push : (c : ℕ) (rows : CellRows) (r : Cells) → sum_by (λ row. nat_abs (cell_in row c)) (rows ++ r ∷ []) ≡ sum_by (λ row. nat_abs (cell_in row c)) rows + nat_abs (cell_in r c)
magnitude_push c rows r =
    let all = sum_by-append (λ row. nat_abs (cell_in row c)) rows (r ∷ []) in
    let alone = sum_by-cons (λ row. nat_abs (cell_in row c)) r [] in
    omega (arith, all, alone)

pub sum_more : (c : ℕ) (rows : CellRows) (r : Cells) → sum_over c (rows ++ r ∷ []) ≡ with_term (sum_over c rows) (cell_in r c)
sum_more c rows r = λ i. sum_of (sum_push c rows r i) (magnitude_push c rows r i)

-- the lesser and the greater of three, in either order
int_lesser : (a b : ℤ) → Int (lesser_number a b) ≡ lesser (Int a) (Int b)
int_lesser a b = elim (number_at_most a b) as (λ t. Int (cond t a b) ≡ cond t (Int a) (Int b)) [
  | true ↦ refl
  | false ↦ refl
]

int_greater : (a b : ℤ) → Int (greater_number a b) ≡ greater (Int a) (Int b)
int_greater a b = elim (number_at_most a b) as (λ t. Int (cond t b a) ≡ cond t (Int b) (Int a)) [
  | true ↦ refl
  | false ↦ refl
]

pub lesser_three : (a b c : ℤ) → lesser_number a (lesser_number b c) ≡ lesser_number (lesser_number a b) c
lesser_three a b c =
    ap number
    (int_lesser a (lesser_number b c)
    ∙ ap (lesser (Int a)) (int_lesser b c)
    ∙ lesser_assoc (Int a) (Int b) (Int c)
    ∙ sym (ap (λ v. lesser v (Int c)) (int_lesser a b))
    ∙ sym (int_lesser (lesser_number a b) c))

pub greater_three : (a b c : ℤ) → greater_number a (greater_number b c) ≡ greater_number (greater_number a b) c
greater_three a b c =
    ap number
    (int_greater a (greater_number b c)
    ∙ ap (greater (Int a)) (int_greater b c)
    ∙ greater_assoc (Int a) (Int b) (Int c)
    ∙ sym (ap (λ v. greater v (Int c)) (int_greater a b))
    ∙ sym (int_greater (greater_number a b) c))

-- the least and the greatest of some numbers, one number more
least_push : (x : ℤ) (xs : List ℤ) (z : ℤ) → least_number ((x ∷ xs) ++ z ∷ []) ≡ lesser_number (least_number (x ∷ xs)) z
least_push x [] z = refl
least_push x (y ∷ ys) z = ap (lesser_number x) (least_push y ys z) ∙ lesser_three x (least_number (y ∷ ys)) z

greatest_push : (x : ℤ) (xs : List ℤ) (z : ℤ) → greatest_number ((x ∷ xs) ++ z ∷ []) ≡ greater_number (greatest_number (x ∷ xs)) z
greatest_push x [] z = refl
greatest_push x (y ∷ ys) z = ap (greater_number x) (greatest_push y ys z) ∙ greater_three x (greatest_number (y ∷ ys)) z

pub least_more : (c : ℕ) (rows : CellRows) (r : Cells) → 0 < length rows → least_number (column_of c (rows ++ r ∷ [])) ≡ lesser_number (least_number (column_of c rows)) (cell_in r c)
least_more c [] r some = absurd (omega arith)
least_more c (y ∷ rows) r some = ap least_number (map-append (λ row. cell_in row c) (y ∷ rows) (r ∷ [])) ∙ least_push (cell_in y c) (column_of c rows) (cell_in r c)

pub greatest_more : (c : ℕ) (rows : CellRows) (r : Cells) → 0 < length rows → greatest_number (column_of c (rows ++ r ∷ [])) ≡ greater_number (greatest_number (column_of c rows)) (cell_in r c)
greatest_more c [] r some = absurd (omega arith)
greatest_more c (y ∷ rows) r some = ap greatest_number (map-append (λ row. cell_in row c) (y ∷ rows) (r ∷ [])) ∙ greatest_push (cell_in y c) (column_of c rows) (cell_in r c)
