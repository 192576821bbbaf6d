-- The sources so far, with the tables that are left, are all tables.
use Rattle.std.proofs.Common.{◌≡◌, ◌++◌, drop, map}
use Rattle.au_exec.specs.HeldRows.{rows_of}
use Rattle.au_exec.proofs.advance.sources_of.Given as goal

abbrev pub invariant-loop-table : goal.invariant-loop-table
invariant-loop-table l = l.sources.items ++ map rows_of (drop l.table-index l.tables) ≡ map rows_of l.tables
