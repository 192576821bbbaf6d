-- The tests so far are copied.
use Rattle.std.proofs.Common.{◌≡◌, map, take}
use Rattle.au_plain.specs.PTerms.{pterm}
use Rattle.au_passes.proofs.pushdown.copies_of.Given as goal

abbrev pub invariant-loop-test : goal.invariant-loop-test
invariant-loop-test l = map pterm l.copies.items ≡ map pterm (take l.test-index l.tests)
