-- The aggregates of a term, in the order in which they are written, and what is taken of the columns of their arguments.
-- A count is the sum of a column of ones.
use Rattle.std.specs.Prelude.{ℕ, ◌+◌, List, [], ◌∷◌, ◌++◌, Option, Some, None}
use Rattle.au_algebra.specs.declared.query.Agg.{Agg}
use Rattle.au_algebra.specs.declared.query.Agg.TheVariants as agg
use Rattle.au_parse.specs.declared.AggWord.{AggWord}
use Rattle.au_parse.specs.declared.AggWord.TheVariants.{Count, Sum, Min, Max}
use Rattle.au_parse.specs.Tree.{TermTree}

-- an aggregate that is written: its word, and its argument but for COUNT(*)
pub record Written : Type 0 where
  pub word : AggWord
  pub argument : Option TermTree

-- the aggregates of a term, those inside aggregates left out
abbrev pub written : TermTree → List Written
written (TermTree.binary at operator left right) = written left ++ written right
written (TermTree.negate at e) = written e
written (TermTree.not at e) = written e
written (TermTree.case at parts) = written parts
written (TermTree.when condition value rest) = written condition ++ written value ++ written rest
written (TermTree.count_rows at) = record { word = Count; argument = None } ∷ []
written (TermTree.aggregate at word e) = record { word = word; argument = Some e } ∷ []
written _ = []

-- what is taken of a column
abbrev pub column_agg : AggWord → ℕ → Agg
column_agg Count place = agg.Sum place
column_agg Sum place = agg.Sum place
column_agg Min place = agg.Min place
column_agg Max place = agg.Max place

-- the same of the columns from this place on
abbrev pub taken_from : ℕ → List Written → List Agg
taken_from place [] = []
taken_from place (w ∷ ws) = column_agg w.word place ∷ taken_from (place + 1) ws
