-- The three operators that are not positive, over cells with any annotations: at ranges with triples those of bounded
-- relations, at values with counts the guesses of these over the embedded rows.
use Rattle.std.specs.Prelude.{ℕ, Bool, List}
use Rattle.au_expr.specs.Holding.{WhichWorld, possible, guess}
use Rattle.au_algebra.specs.Counted.{CountedRow, StandsFor}
use Rattle.au_algebra.specs.declared.query.Agg.{Agg}
use Rattle.au_algebra.specs.Bounded as bounded
use Rattle.au_algebra.specs.Bounded.{Bounded, RangeRow}
use Rattle.au_algebra.specs.Distribution.{Bounds}
use Rattle.au_algebra.specs.Laws.{Guesses}
use Rattle.au_algebra.specs.Ordinary.{Rows}
use Rattle.au_algebra.specs.Positive.{guessed_rows}
use Rattle.au_kfull.specs.declared.keys.Keys.TheVariants.{Leading}
use Rattle.au_kfull.specs.Embedding.{embedded}
use Rattle.au_kfull.specs.Numbers as numbers
use Rattle.au_kfull.specs.Outputs as outputs

-- what is said of each operator, given the rows that it works on
pub record NonPositive (Row R : Type 0) : Type 0 where
  pub difference : List Row → List Row → R
  pub group : ℕ → List Agg → List Row → R
  pub total : List Agg → List Row → R

-- the bounded operators, and whether their numbers lie in the range
abbrev pub bounded_operators : NonPositive RangeRow Bounded
bounded_operators = record { difference = bounded.difference; group = bounded.group; total = bounded.total }

abbrev pub ranges_fit : NonPositive RangeRow Bool
ranges_fit = record {
  difference = numbers.difference_fits;
  group = λ keys aggs rows. outputs.group_fits (Leading keys) aggs rows;
  total = outputs.total_fits;
}

-- a relation stands for the lists that it bounds in a possible world, and for those that it guesses in the guess world
abbrev pub RangesStandFor : WhichWorld → Bounded → Rows → Type 0
RangesStandFor possible rows world = Bounds rows world
RangesStandFor guess rows world = Guesses rows world

-- the guesses over the embedded rows, and whether the numbers of these lie in the range
abbrev pub counted_operators : NonPositive CountedRow (List CountedRow)
counted_operators = record {
  difference = λ left right. guessed_rows (bounded.difference (embedded left) (embedded right));
  group = λ keys aggs rows. guessed_rows (bounded.group keys aggs (embedded rows));
  total = λ aggs rows. guessed_rows (bounded.total aggs (embedded rows));
}

abbrev pub values_fit : NonPositive CountedRow Bool
values_fit = record {
  difference = λ left right. numbers.difference_fits (embedded left) (embedded right);
  group = λ keys aggs rows. outputs.group_fits (Leading keys) aggs (embedded rows);
  total = λ aggs rows. outputs.total_fits aggs (embedded rows);
}

-- rows with counts stand for a list in each world alike
abbrev pub ValuesStandFor : WhichWorld → List CountedRow → Rows → Type 0
ValuesStandFor w rows world = StandsFor rows world
