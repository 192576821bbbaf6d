-- The schemas so far, with those of the tables that are left, are those of all tables.
use Rattle.std.proofs.Common.{◌≡◌, ◌++◌, drop}
use Rattle.std.specs.List.{AllByRecursion}
use Rattle.au_blocks.specs.Tables.{IsBlockTable}
use Rattle.au_typing.specs.Queries.{relations}
use Rattle.au_engine.specs.Answers.{blocks_of, relations_of}
use Rattle.au_engine.proofs.answers.tables.schemas.Given as goal

abbrev pub invariant-loop-table : goal.invariant-loop-table
invariant-loop-table l = record {
  relations : relations l.schemas.items ++ relations_of (drop l.table-index l.tables) ≡ relations_of l.tables;
  tables : AllByRecursion IsBlockTable (blocks_of (drop l.table-index l.tables)) → AllByRecursion IsBlockTable (blocks_of l.tables);
}
