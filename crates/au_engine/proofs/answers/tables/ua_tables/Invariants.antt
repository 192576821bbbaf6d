-- The relations so far, with those of the tables that are left, are those of all tables.
use Rattle.std.proofs.Common.{◌≡◌, ◌++◌, drop, map}
use Rattle.std.specs.List.{AllByRecursion}
use Rattle.au_blocks.specs.Tables.{IsBlockTable}
use Rattle.au_ua.specs.UaTables.{ua_table}
use Rattle.au_engine.specs.Answers.{blocks_of}
use Rattle.au_engine.proofs.answers.tables.ua_tables.Given as goal

abbrev pub invariant-loop-table : goal.invariant-loop-table
invariant-loop-table l = record {
  rows : l.relations.items ++ map ua_table (blocks_of (drop l.table-index l.tables)) ≡ map ua_table (blocks_of l.tables);
  tables : AllByRecursion IsBlockTable (blocks_of (drop l.table-index l.tables)) → AllByRecursion IsBlockTable (blocks_of l.tables);
}
