-- What is left of the sources adds what all add.
use Rattle.std.proofs.Common.{◌≡◌, drop}
use Rattle.au_codes.specs.Gathering.{with_tables}
use Rattle.au_exec.proofs.gathering.add_all.Given as goal

abbrev pub invariant-loop-source : goal.invariant-loop-source
invariant-loop-source l = with_tables l.texts (drop l.source-index l.sources) ≡ with_tables l.initial.texts l.sources
