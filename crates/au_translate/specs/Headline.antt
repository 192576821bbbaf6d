-- What the bounded answer says of every world:
-- its rows bound the ordinary answer there, and guess it exactly in the guess world.
use Rattle.std.specs.Prelude.{Bool, List, map}
use Rattle.std.specs.List.{AllByRecursion}
use Rattle.au_blocks.specs.Tables.{BlockTable, IsBlockTable, column_kinds}
use Rattle.au_blocks.specs.Worlds.{World, IsWorld, tables_in, guess_world}
use Rattle.au_algebra.specs.Trees.{Tree}
use Rattle.au_algebra.specs.Typing.{IsTyped}
use Rattle.au_algebra.specs.Ordinary.{answer}
use Rattle.au_algebra.specs.Bounded.{Bounded, bounded_answer}
use Rattle.au_algebra.specs.Distribution.{Bounds}
use Rattle.au_algebra.specs.Laws.{Guesses}
use Rattle.au_translate.specs.Translate.{bounded_table}

-- rows that bound the ordinary answer in every world, and guess it exactly in the guess world
pub record HoldsInEveryWorld (q : Tree) (ts : List BlockTable) (rows : Bounded) : Type 0 where
  pub bounds : (w : World) → IsWorld ts w → Bounds rows (answer q (tables_in ts w))
  pub guesses : Guesses rows (answer q (tables_in ts (guess_world ts)))

-- the bounded answer of each typed tree, combined or not, holds in every world
abbrev pub BoundedAnswerHolds : Type 0
BoundedAnswerHolds =
    (combined : Bool) (q : Tree) (ts : List BlockTable) →
    AllByRecursion IsBlockTable ts → IsTyped (map column_kinds ts) q →
    HoldsInEveryWorld q ts (bounded_answer combined q (map bounded_table ts))
