-- The careful value is the value, exactly where all numbers lie in the range.
use Rattle.std.specs.Prelude.{◌≡◌, Bool, true, false, not, ◌&&◌, ◌||◌, List, [], ◌∷◌, ◌++◌, ℤ, pos, ◌+ℤ◌, ◌-ℤ◌, ◌*ℤ◌, neg_ℤ, Option, Some, None, if◌then◌else◌}
use Rattle.std.proofs.Common.{refl, sym, ap, ◌∙◌}
use Rattle.std.proofs.lemmas.Bool.{and_parts}
use Rattle.std.proofs.lemmas.List.Folds.{list_all-append}
use Rattle.au_value.specs.Numeral.{is_i128}
use Rattle.au_value.specs.declared.extreme.Extreme.{Extreme}
use Rattle.au_value.specs.declared.extreme.Extreme.TheVariants as extreme
use Rattle.au_expr.specs.Figures.{fit}
use Rattle.au_plain.specs.PTerms.{PTerm, PTerms, nil, cons}
use Rattle.au_plain.specs.PTerms as term
use Rattle.au_codes.specs.Codes.{Cells, flag, number_at_most}
use Rattle.au_codes.specs.CellMeaning.{cell, cell_value, least_cell, greatest_cell, cell_in, truth, numbers_compare}
use Rattle.au_codes.specs.CellNumbers.{cell_numbers, parts_cells}
use Rattle.au_codes.specs.Careful.{careful, careful_extreme, extreme_number, fitting, from_one, from_both}

-- a number where a test holds
abbrev where_true : Bool → ℤ → Option ℤ
where_true b z = if b then Some z else None

append_fit : (xs ys : List ℤ) → fit (xs ++ ys) ≡ (fit xs && fit ys)
append_fit xs ys = list_all-append is_i128 xs ys

-- a test more
and_true : (r : Bool) (z : ℤ) → where_true r z ≡ where_true (r && true) z
and_true true z = refl
and_true false z = refl

and_false : (r : Bool) (z : ℤ) → None ≡ where_true (r && false) z
and_false true z = refl
and_false false z = refl

-- what numbers make that has to lie in the range, and what needs no test
both_made : (f : ℤ → ℤ → ℤ) (p q : Bool) (x y : ℤ) → from_both (λ m n. fitting (f m n)) (where_true p x) (where_true q y) ≡ where_true (is_i128 (f x y) && (p && q)) (f x y)
both_made f true true x y = and_true (is_i128 (f x y)) (f x y)
both_made f true false x y = and_false (is_i128 (f x y)) (f x y)
both_made f false q x y = and_false (is_i128 (f x y)) (f x y)

both_free : (f : ℤ → ℤ → ℤ) (p q : Bool) (x y : ℤ) → from_both (λ m n. Some (f m n)) (where_true p x) (where_true q y) ≡ where_true (p && q) (f x y)
both_free f true true x y = refl
both_free f true false x y = refl
both_free f false q x y = refl

one_made : (f : ℤ → ℤ) (p : Bool) (x : ℤ) → from_one (λ m. fitting (f m)) (where_true p x) ≡ where_true (is_i128 (f x) && p) (f x)
one_made f true x = and_true (is_i128 (f x)) (f x)
one_made f false x = and_false (is_i128 (f x)) (f x)

one_free : (f : ℤ → ℤ) (p : Bool) (x : ℤ) → from_one (λ m. Some (f m)) (where_true p x) ≡ where_true p (f x)
one_free f true x = refl
one_free f false x = refl

itself : (z : ℤ) → fitting z ≡ where_true (fit (z ∷ [])) z
itself z = and_true (is_i128 z) z

-- the chosen branch
picked : (t : Bool) (us vs : List ℤ) (y z : ℤ) → (if t then where_true (fit us) y else where_true (fit vs) z) ≡ where_true (fit (if t then us else vs)) (if t then y else z)
picked true us vs y z = refl
picked false us vs y z = refl

branch : (p : Bool) (x : ℤ) (us vs : List ℤ) (y z : ℤ) →
    from_one (λ m. if truth m then where_true (fit us) y else where_true (fit vs) z) (where_true p x) ≡ where_true (p && fit (if truth x then us else vs)) (if truth x then y else z)
branch true x us vs y z = picked (truth x) us vs y z
branch false x us vs y z = refl

-- one of two
one_fits : (t : Bool) (y z : ℤ) → is_i128 y ≡ true → is_i128 z ≡ true → is_i128 (if t then y else z) ≡ true
one_fits true y z h g = h
one_fits false y z h g = g

chosen_fits : (t : Bool) (us vs : List ℤ) (y z : ℤ) → (fit us ≡ true → is_i128 y ≡ true) → (fit vs ≡ true → is_i128 z ≡ true) → fit (if t then us else vs) ≡ true → is_i128 (if t then y else z) ≡ true
chosen_fits true us vs y z f g h = f h
chosen_fits false us vs y z f g h = g h

flag_fits : (b : Bool) → is_i128 (flag b) ≡ true
flag_fits true = refl
flag_fits false = refl

module _ (row : Cells) where
  abbrev value : PTerm → ℤ
  value e = cell_value e row

  abbrev numbers : PTerm → List ℤ
  numbers e = cell_numbers e row

  abbrev Exact : PTerm → Type 0
  Exact e = careful e row ≡ where_true (fit (numbers e)) (value e)

  made_exact : (f : ℤ → ℤ → ℤ) (a b : PTerm) → Exact a → Exact b → from_both (λ x y. fitting (f x y)) (careful a row) (careful b row) ≡ where_true (fit (f (value a) (value b) ∷ (numbers a ++ numbers b))) (f (value a) (value b))
  made_exact f a b h g =
      (λ i. from_both (λ x y. fitting (f x y)) (h i) (g i))
      ∙ both_made f (fit (numbers a)) (fit (numbers b)) (value a) (value b)
      ∙ ap (λ t. where_true (is_i128 (f (value a) (value b)) && t) (f (value a) (value b))) (sym (append_fit (numbers a) (numbers b)))

  free_exact : (f : ℤ → ℤ → ℤ) (a b : PTerm) → Exact a → Exact b → from_both (λ x y. Some (f x y)) (careful a row) (careful b row) ≡ where_true (fit (numbers a ++ numbers b)) (f (value a) (value b))
  free_exact f a b h g =
      (λ i. from_both (λ x y. Some (f x y)) (h i) (g i))
      ∙ both_free f (fit (numbers a)) (fit (numbers b)) (value a) (value b)
      ∙ ap (λ t. where_true t (f (value a) (value b))) (sym (append_fit (numbers a) (numbers b)))

  -- the extreme of some expressions
  abbrev extreme_cell : Extreme → PTerms → ℤ
  extreme_cell extreme.Least es = least_cell es row
  extreme_cell extreme.Greatest es = greatest_cell es row

  abbrev parts : PTerms → List ℤ
  parts es = parts_cells es row

  extreme_of_two : (how : Extreme) (e f : PTerm) (es : PTerms) → extreme_number how (value e) (extreme_cell how (cons f es)) ≡ extreme_cell how (cons e (cons f es))
  extreme_of_two extreme.Least e f es = refl
  extreme_of_two extreme.Greatest e f es = refl

  extreme_of_one : (how : Extreme) (e : PTerm) → value e ≡ extreme_cell how (cons e nil)
  extreme_of_one extreme.Least e = refl
  extreme_of_one extreme.Greatest e = refl

  extreme_of_none : (how : Extreme) → Some (pos 0) ≡ where_true (fit (parts nil)) (extreme_cell how nil)
  extreme_of_none extreme.Least = refl
  extreme_of_none extreme.Greatest = refl

  append_none : (xs : List ℤ) → fit xs ≡ fit (xs ++ [])
  append_none [] = refl
  append_none (x ∷ xs) = ap (λ t. is_i128 x && t) (append_none xs)

  -- the value of a Least or of a Greatest is one of those of its parts
  whole_fits : (p q : Bool) → (p ≡ true → q ≡ true) → p ≡ (q && p)
  whole_fits true q f = sym (ap (λ t. t && true) (f refl))
  whole_fits false true f = refl
  whole_fits false false f = refl

  mutual
    pub exact : (e : PTerm) → careful e row ≡ where_true (fit (cell_numbers e row)) (cell_value e row)
    exact (term.Column i) = itself (cell_in row i)
    exact (term.Literal v) = itself (cell v)
    exact (term.Add a b) = made_exact (λ x y. x +ℤ y) a b (exact a) (exact b)
    exact (term.Subtract a b) = made_exact (λ x y. x -ℤ y) a b (exact a) (exact b)
    exact (term.Multiply a b) = made_exact (λ x y. x *ℤ y) a b (exact a) (exact b)
    exact (term.Negate a) = ap (from_one (λ x. fitting (neg_ℤ x))) (exact a) ∙ one_made (λ x. neg_ℤ x) (fit (numbers a)) (value a)
    exact (term.Compare how a b) = free_exact (λ x y. flag (numbers_compare how x y)) a b (exact a) (exact b)
    exact (term.And a b) = free_exact (λ x y. flag (truth x && truth y)) a b (exact a) (exact b)
    exact (term.Or a b) = free_exact (λ x y. flag (truth x || truth y)) a b (exact a) (exact b)
    exact (term.Not a) = ap (from_one (λ x. Some (flag (not (truth x))))) (exact a) ∙ one_free (λ x. flag (not (truth x))) (fit (numbers a)) (value a)
    exact (term.Case c a b) =
        (λ i. from_one (λ x. if truth x then exact a i else exact b i) (exact c i))
        ∙ branch (fit (numbers c)) (value c) (numbers a) (numbers b) (value a) (value b)
        ∙ ap (λ t. where_true t (if truth (value c) then value a else value b)) (sym (append_fit (numbers c) (if truth (value c) then numbers a else numbers b)))
    exact (term.Least es) =
        extreme_exact extreme.Least es
        ∙ ap (λ t. where_true t (least_cell es row)) (whole_fits (fit (parts es)) (is_i128 (least_cell es row)) (extreme_fits extreme.Least es))
    exact (term.Greatest es) =
        extreme_exact extreme.Greatest es
        ∙ ap (λ t. where_true t (greatest_cell es row)) (whole_fits (fit (parts es)) (is_i128 (greatest_cell es row)) (extreme_fits extreme.Greatest es))

    extreme_exact : (how : Extreme) (es : PTerms) → careful_extreme how es row ≡ where_true (fit (parts es)) (extreme_cell how es)
    extreme_exact how nil = extreme_of_none how
    extreme_exact how (cons e nil) = exact e ∙ (λ i. where_true (append_none (numbers e) i) (extreme_of_one how e i))
    extreme_exact how (cons e (cons f es)) =
        (λ i. from_both (λ x y. Some (extreme_number how x y)) (exact e i) (extreme_exact how (cons f es) i))
        ∙ both_free (extreme_number how) (fit (numbers e)) (fit (parts (cons f es))) (value e) (extreme_cell how (cons f es))
        ∙ (λ i. where_true (sym (append_fit (numbers e) (parts (cons f es))) i) (extreme_of_two how e f es i))

    -- the value fits where all numbers do
    value_fits : (e : PTerm) → fit (numbers e) ≡ true → is_i128 (value e) ≡ true
    value_fits (term.Column i) h = (and_parts (is_i128 (cell_in row i)) true h).0
    value_fits (term.Literal v) h = (and_parts (is_i128 (cell v)) true h).0
    value_fits (term.Add a b) h = (and_parts (is_i128 (value (term.Add a b))) (fit (numbers a ++ numbers b)) h).0
    value_fits (term.Subtract a b) h = (and_parts (is_i128 (value (term.Subtract a b))) (fit (numbers a ++ numbers b)) h).0
    value_fits (term.Multiply a b) h = (and_parts (is_i128 (value (term.Multiply a b))) (fit (numbers a ++ numbers b)) h).0
    value_fits (term.Negate a) h = (and_parts (is_i128 (value (term.Negate a))) (fit (numbers a)) h).0
    value_fits (term.Compare how a b) h = flag_fits (numbers_compare how (value a) (value b))
    value_fits (term.And a b) h = flag_fits (truth (value a) && truth (value b))
    value_fits (term.Or a b) h = flag_fits (truth (value a) || truth (value b))
    value_fits (term.Not a) h = flag_fits (not (truth (value a)))
    value_fits (term.Case c a b) h =
        chosen_fits (truth (value c)) (numbers a) (numbers b) (value a) (value b) (value_fits a) (value_fits b)
        (and_parts (fit (numbers c)) (fit (if truth (value c) then numbers a else numbers b)) (sym (append_fit (numbers c) (if truth (value c) then numbers a else numbers b)) ∙ h)).1
    value_fits (term.Least es) h = (and_parts (is_i128 (value (term.Least es))) (fit (parts es)) h).0
    value_fits (term.Greatest es) h = (and_parts (is_i128 (value (term.Greatest es))) (fit (parts es)) h).0

    extreme_fits : (how : Extreme) (es : PTerms) → fit (parts es) ≡ true → is_i128 (extreme_cell how es) ≡ true
    extreme_fits extreme.Least nil h = refl
    extreme_fits extreme.Greatest nil h = refl
    extreme_fits extreme.Least (cons e nil) h = value_fits e (append_none (numbers e) ∙ h)
    extreme_fits extreme.Greatest (cons e nil) h = value_fits e (append_none (numbers e) ∙ h)
    extreme_fits extreme.Least (cons e (cons f es)) h =
        let p = and_parts (fit (numbers e)) (fit (parts (cons f es))) (sym (append_fit (numbers e) (parts (cons f es))) ∙ h) in
        one_fits (number_at_most (value e) (least_cell (cons f es) row)) (value e) (least_cell (cons f es) row) (value_fits e p.0) (extreme_fits extreme.Least (cons f es) p.1)
    extreme_fits extreme.Greatest (cons e (cons f es)) h =
        let p = and_parts (fit (numbers e)) (fit (parts (cons f es))) (sym (append_fit (numbers e) (parts (cons f es))) ∙ h) in
        one_fits (number_at_most (value e) (greatest_cell (cons f es) row)) (greatest_cell (cons f es) row) (value e) (extreme_fits extreme.Greatest (cons f es) p.1) (value_fits e p.0)
