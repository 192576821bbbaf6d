-- The answer of a positive statement over named block tables, each row with how often it is certain and its guess.
use Rattle.std.specs.Prelude.{Bool, List, map}
use Rattle.au_algebra.specs.Fits.{guess_fits}
use Rattle.au_algebra.specs.Trees.{Tree}
use Rattle.au_parse.specs.Tree.{QueryTree}
use Rattle.au_ua.specs.Relations.{PairRow}
use Rattle.au_ua.specs.UaAnswers.{CountsHoldInEveryWorld, ua_answer}
use Rattle.au_ua.specs.UaTables.{ua_table}
use Rattle.au_translate.specs.Translate.{guessed_table}
use Rattle.au_engine.specs.Answers.{Named, answer_tree, blocks_of}

-- the rows of a tree, and of a statement
abbrev pub tree_ua_rows : List Named → Tree → List PairRow
tree_ua_rows ts q = ua_answer q (map ua_table (blocks_of ts))

abbrev pub ua_rows : List Named → QueryTree → List PairRow
ua_rows ts s = tree_ua_rows ts (answer_tree ts s)

-- in every world there are as many copies of a row as are certain, and in the guess world as many as are guessed
abbrev pub TreeUaHolds : List Named → Tree → Type 0
TreeUaHolds ts q = CountsHoldInEveryWorld q (blocks_of ts) (tree_ua_rows ts q)

abbrev pub UaHolds : List Named → QueryTree → Type 0
UaHolds ts s = TreeUaHolds ts (answer_tree ts s)

-- whether the numbers of the ordinary answer over the guess world lie in 128 bits, the counts of its rows among them
abbrev pub tree_ua_fits : List Named → Tree → Bool
tree_ua_fits ts q = guess_fits q (map guessed_table (blocks_of ts))

abbrev pub ua_answer_fits : List Named → QueryTree → Bool
ua_answer_fits ts s = tree_ua_fits ts (answer_tree ts s)
