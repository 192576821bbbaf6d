-- The kinds so far, with those of the sources that are left, are those of all.
use Rattle.std.proofs.Common.{◌≡◌, ◌++◌, drop, map}
use Rattle.au_exec.specs.KnownKinds.{all_held, first_kinds}
use Rattle.au_exec.proofs.answer_kinds.source_kinds.Given as goal

abbrev pub invariant-loop-source : goal.invariant-loop-source
invariant-loop-source l = all_held l.tables.items ++ map first_kinds (drop l.source-index l.sources) ≡ map first_kinds l.sources
