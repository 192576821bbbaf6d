-- The answer over rows with pairs, by operators over rows with two counts.
use Rattle.std.specs.Prelude.{◌≡◌, IsTrue, List, map}
use Rattle.std.specs.List.{AllByRecursion}
use Rattle.au_algebra.specs.Positive.{is_positive}
use Rattle.au_algebra.specs.Trees.{Tree}
use Rattle.au_blocks.specs.Tables.{BlockTable, IsBlockTable}
use Rattle.au_rwcounted.specs.Answers.{counted_answer}
use Rattle.au_rwcounted.specs.CountedRows.{CountsRow, two_counts}
use Rattle.au_ua.specs.UaAnswers.{ua_answer}
use Rattle.au_ua.specs.UaTables.{ua_table}

-- the rows of a table, each with its certain count and its guess
abbrev pub counted_table : BlockTable → List CountsRow
counted_table t = map two_counts (ua_table t)

-- They give the same rows, in the same order.
abbrev pub UaAnswerIsCounted : Type 0
UaAnswerIsCounted =
    (q : Tree) (ts : List BlockTable) →
    AllByRecursion IsBlockTable ts → IsTrue (is_positive q) →
    counted_answer q (map counted_table ts) ≡ map two_counts (ua_answer q (map ua_table ts))
