-- The demonstration: a query over a generated block table.
use Rattle.std.specs.Prelude.{ℕ, ◌≡◌, List, [], ◌∷◌, Some, Ok, codes}
use Rattle.au_parse.specs.Tree.{QueryTree}
use Rattle.au_blocks.specs.Read.{table_of}
use Rattle.au_blocks.specs.Tables.{BlockTable}
use Rattle.au_gen.specs.Generator.{text}
use Rattle.au_engine.specs.Answers.{Named}
use Rattle.au_engine.specs.Reading.{statement_of}

-- the name of the table, and the query over it
abbrev pub demo_name : List ℕ
demo_name = codes "demo"

abbrev pub demo_query : List ℕ
demo_query = codes "SELECT grp, COUNT(*) AS n, SUM(amount) AS total FROM demo GROUP BY grp"

-- what holds of the table that is generated for a start and a number of blocks, and of the query's statement
abbrev pub Demonstrates : ℕ → ℕ → (List Named → QueryTree → Type 0) → Type 0
Demonstrates start blocks Holds =
    (t : BlockTable) × (s : QueryTree) × (table_of (text start blocks) ≡ Ok t) × (statement_of demo_query ≡ Some s) × Holds ((demo_name, t) ∷ []) s
