-- Whether the numbers of a single operator lie in the range,
-- and what makes its work possible.
use Rattle.std.specs.Prelude.{◌≡◌, Bool, true, List, ◌++◌, flat_map}
use Rattle.std.specs.List.{AllByRecursion, list_all}
use Rattle.au_value.specs.Numeral.{is_i128}
use Rattle.au_value.specs.Ranges.{Span, all_hold, guesses}
use Rattle.au_annot.specs.Triples.{IsTriple}
use Rattle.au_algebra.specs.Bounded.{RangeRow, Bounded, combine, difference, guessing, less}
use Rattle.au_algebra.specs.Fits.{triple_numbers, difference_sums}
use Rattle.au_kfull.specs.Keys.{kinds, HasKinds}

-- the three sums over the right rows
abbrev pub sums_fit : Bounded → RangeRow → Bool
sums_fit right t = list_all is_i128 (difference_sums right t)

-- the right rows have the kinds of these ranges, and all hold their guesses
pub record IsLike (right : Bounded) (cells : List Span) : Type 0 where
  pub one_kinds : HasKinds (kinds cells) right
  pub held : all_hold cells (guesses cells) ≡ true
  pub all_held : AllByRecursion (λ r. all_hold r.cells (guesses r.cells) ≡ true) right

-- the right rows are like the row, and what is left of it is a triple
pub record IsReady (right : Bounded) (t : RangeRow) : Type 0 where
  pub like : IsLike right t.cells
  pub ordered : IsTriple (less right t).annot

-- the right rows are like these ranges, and these are the ones with the same guesses
pub record IsFound (right same : Bounded) (cells : List Span) : Type 0 where
  pub like : IsLike right cells
  pub same_are : same ≡ guessing (guesses cells) right

-- the combined triples, the sums of each combined row, and what is left of it
abbrev pub difference_fits : Bounded → Bounded → Bool
difference_fits left right =
    list_all is_i128
    (triple_numbers (combine left)
    ++ (flat_map (difference_sums right) (combine left) ++ triple_numbers (difference left right)))
