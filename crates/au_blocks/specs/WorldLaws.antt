-- What holds of the worlds of block tables: there is one, and there may be others.
use Rattle.std.specs.Prelude.{◌≢◌, ℕ, true, false, List, [], ◌∷◌, map, Some, codes, pos}
use Rattle.std.specs.List.{AllByRecursion}
use Rattle.au_value.specs.declared.kinds.Kind.TheVariants as kind
use Rattle.au_value.specs.declared.value.Value.TheVariants.{Int, Text}
use Rattle.au_value.specs.Ranges.{certain}
use Rattle.au_blocks.specs.Blocks.{Candidate, candidate, once, choices}
use Rattle.au_blocks.specs.Tables.{BlockTable, IsBlockTable, table}
use Rattle.au_blocks.specs.Worlds.{World, IsWorld, tables_in, guess_world}

-- the guess world of block tables is one of their worlds
abbrev pub GuessWorldIsWorld : Type 0
GuessWorldIsWorld = (ts : List BlockTable) → AllByRecursion IsBlockTable ts → IsWorld ts (guess_world ts)

-- two worlds in which the tables have different rows
pub record HaveTwoWorlds (ts : List BlockTable) : Type 0 where
  pub one : World
  pub one_is : IsWorld ts one
  pub other : World
  pub other_is : IsWorld ts other
  pub differ : tables_in ts one ≢ tables_in ts other

-- an order, which there is once
abbrev pub order : ℕ → List ℕ → ℕ → Candidate
order id city amount = candidate (map certain (Int (pos id) ∷ Text city ∷ Int (pos amount) ∷ [])) once

-- the table of the file examples/orders.csv: by the guess the first order goes to Oslo, and it may go to Bergen; the third may be absent
abbrev pub orders : BlockTable
orders =
    table
    (record { name = codes "id"; kind = kind.Int } ∷ record { name = codes "city"; kind = kind.Text } ∷ record { name = codes "amount"; kind = kind.Int } ∷ [])
    (
    choices (order 1 (codes "Oslo") 10 ∷ order 1 (codes "Bergen") 12 ∷ []) false (Some 0)
    ∷ choices (order 2 (codes "Bergen") 5 ∷ []) false (Some 0)
    ∷ choices (order 3 (codes "Oslo") 7 ∷ []) true (Some 0)
    ∷ []
    )

-- the orders are a block table, and have two worlds
abbrev pub OrdersHaveTwoWorlds : Type 0
OrdersHaveTwoWorlds = IsBlockTable orders × HaveTwoWorlds (orders ∷ [])
