-- The sources so far, with the tables that are left, are all tables.
use Rattle.std.proofs.Common.{◌≡◌, ◌++◌, drop}
use Rattle.au_engine.proofs.running.held.sources_of.Given as goal

abbrev pub invariant-loop-table : goal.invariant-loop-table
invariant-loop-table l = l.sources.items ++ drop l.table-index l.held ≡ l.held
