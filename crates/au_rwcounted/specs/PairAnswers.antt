-- Rows with pairs, of certain and guessed copies, are rows with two counts: the positive operators over either give the same rows,
-- in the same order.
use Rattle.std.specs.Prelude.{◌≡◌, ◌<◌, IsTrue, List, map}
use Rattle.std.specs.List.{AllByRecursion}
use Rattle.au_value.specs.declared.value.Value.{Value}
use Rattle.au_annot.specs.Pairs.{PairCounts, none, one, plus, times, at_most}
use Rattle.au_expr.specs.Ordinary.{ordinary, is_true}
use Rattle.au_algebra.specs.Entries.{Entry}
use Rattle.au_algebra.specs.Positive.{Annotations, is_positive, positive}
use Rattle.au_algebra.specs.Trees.{Tree}
use Rattle.au_keval.specs.Reading.{annotations}
use Rattle.au_keval.specs.Weights.{twice_of}
use Rattle.au_rwcounted.specs.Answers.{counted_answer}
use Rattle.au_rwcounted.specs.CountedRows.{two_counts}

-- a row of values with a pair
abbrev pub PairRow : Type 0
PairRow = Entry Value PairCounts

-- pairs with their order, which weigh values
abbrev pub over_pairs : Annotations Value PairCounts
over_pairs = annotations none one plus times at_most twice_of is_true

-- a row that has a copy in the guess world
abbrev pub IsGuessed : PairRow → Type 0
IsGuessed r = 0 < r.annot.guess

abbrev pub AreGuessed : List PairRow → Type 0
AreGuessed rows = AllByRecursion IsGuessed rows

-- The positive operators over pairs leave out rows without copies. Where each table's rows have one, there are none of these.
abbrev pub PairAnswersAreCounted : Type 0
PairAnswersAreCounted =
    (q : Tree) (us : List (List PairRow)) →
    IsTrue (is_positive q) → AllByRecursion AreGuessed us →
    counted_answer q (map (map two_counts) us) ≡ map two_counts (positive ordinary over_pairs q us)
