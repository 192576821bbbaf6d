-- The tables so far, with those that are left, are all.
use Rattle.std.proofs.Common.{◌≡◌, ◌++◌, map, drop}
use Rattle.au_kfull.specs.Embedding.{embedded}
use Rattle.au_kfull.proofs.embedding.embed_all.Given as goal

abbrev pub invariant-loop-table : goal.invariant-loop-table
invariant-loop-table l = l.all.items ++ map embedded (drop l.table-index l.tables) ≡ map embedded l.tables
