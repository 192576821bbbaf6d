-- The rows so far, with those of the tables that are left, are those of all tables, and their numbers lie in the range.
use Rattle.std.proofs.Common.{◌≡◌, ◌++◌, drop}
use Rattle.std.specs.List.{AllByRecursion}
use Rattle.au_blocks.specs.Tables.{IsBlockTable}
use Rattle.au_plain.specs.PlanKinds.{FitTables}
use Rattle.au_engine.specs.Answers.{blocks_of, guess_tables}
use Rattle.au_engine.proofs.answers.guess_rows.guess_tables.Given as goal

abbrev pub invariant-loop-table : goal.invariant-loop-table
invariant-loop-table l = record {
  rows : l.rows.items ++ guess_tables (drop l.table-index l.tables) ≡ guess_tables l.tables;
  fit : FitTables l.rows.items;
  tables : AllByRecursion IsBlockTable (blocks_of (drop l.table-index l.tables)) → AllByRecursion IsBlockTable (blocks_of l.tables);
}
