-- The kinds so far, with those of the tables that are left, are those of all tables.
use Rattle.std.proofs.Common.{◌≡◌, ◌++◌, drop, map}
use Rattle.au_engine.specs.Exchange.{value_kinds}
use Rattle.au_engine.proofs.answers.guess_rows.value_kinds.Given as goal

abbrev pub invariant-loop-table : goal.invariant-loop-table
invariant-loop-table l = map (λ ks. ks.items) l.kinds.items ++ value_kinds (drop l.table-index l.tables) ≡ value_kinds l.tables
