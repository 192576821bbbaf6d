-- The value of an expression over cells where all its numbers lie in the range of 128 bits, and none where one does not.
use Rattle.std.specs.Prelude.{◌≡◌, not, ◌&&◌, ◌||◌, ℤ, pos, ◌+ℤ◌, ◌-ℤ◌, ◌*ℤ◌, neg_ℤ, Option, Some, None, option_and_then, if◌then◌else◌}
use Rattle.au_value.specs.Numeral.{is_i128}
use Rattle.au_value.specs.declared.extreme.Extreme.{Extreme}
use Rattle.au_value.specs.declared.extreme.Extreme.TheVariants.{Least, Greatest}
use Rattle.au_expr.specs.Figures.{fit}
use Rattle.au_plain.specs.PTerms.{PTerm, PTerms, nil, cons}
use Rattle.au_plain.specs.PTerms as term
use Rattle.au_codes.specs.Codes.{Cells, flag}
use Rattle.au_codes.specs.CellMeaning.{cell, cell_in, cell_value, truth, numbers_compare, lesser_number, greater_number}
use Rattle.au_codes.specs.CellNumbers.{cell_numbers}

-- the number, where it lies in the range
abbrev pub fitting : ℤ → Option ℤ
fitting z = if is_i128 z then Some z else None

-- what is made of one number, and of two, where they are there
abbrev pub from_one : (ℤ → Option ℤ) → Option ℤ → Option ℤ
from_one f x = option_and_then f x

abbrev pub from_both : (ℤ → ℤ → Option ℤ) → Option ℤ → Option ℤ → Option ℤ
from_both f x y = option_and_then (λ m. option_and_then (λ n. f m n) y) x

-- the lesser, or the greater, of two
abbrev pub extreme_number : Extreme → ℤ → ℤ → ℤ
extreme_number Least a b = lesser_number a b
extreme_number Greatest a b = greater_number a b

abbrev mutual
  pub careful : PTerm → Cells → Option ℤ
  careful (term.Column i) row = fitting (cell_in row i)
  careful (term.Literal v) row = fitting (cell v)
  careful (term.Add a b) row = from_both (λ x y. fitting (x +ℤ y)) (careful a row) (careful b row)
  careful (term.Subtract a b) row = from_both (λ x y. fitting (x -ℤ y)) (careful a row) (careful b row)
  careful (term.Multiply a b) row = from_both (λ x y. fitting (x *ℤ y)) (careful a row) (careful b row)
  careful (term.Negate a) row = from_one (λ x. fitting (neg_ℤ x)) (careful a row)
  careful (term.Compare how a b) row = from_both (λ x y. Some (flag (numbers_compare how x y))) (careful a row) (careful b row)
  careful (term.And a b) row = from_both (λ x y. Some (flag (truth x && truth y))) (careful a row) (careful b row)
  careful (term.Or a b) row = from_both (λ x y. Some (flag (truth x || truth y))) (careful a row) (careful b row)
  careful (term.Not a) row = from_one (λ x. Some (flag (not (truth x)))) (careful a row)
  careful (term.Case c a b) row = from_one (λ x. if truth x then careful a row else careful b row) (careful c row)
  careful (term.Least es) row = careful_extreme Least es row
  careful (term.Greatest es) row = careful_extreme Greatest es row

  pub careful_extreme : Extreme → PTerms → Cells → Option ℤ
  careful_extreme how nil row = Some (pos 0)
  careful_extreme how (cons e nil) row = careful e row
  careful_extreme how (cons e (cons f es)) row = from_both (λ x y. Some (extreme_number how x y)) (careful e row) (careful_extreme how (cons f es) row)

-- it is the value, exactly where the numbers lie in the range
abbrev pub CarefulIsExact : Type 0
CarefulIsExact =
    (e : PTerm) (row : Cells) →
    careful e row ≡ (if fit (cell_numbers e row) then Some (cell_value e row) else None)
