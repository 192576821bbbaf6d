-- The expressions so far are copied.
use Rattle.std.proofs.Common.{◌≡◌, map, take}
use Rattle.au_plain.specs.PTerms.{pterm}
use Rattle.au_plain.proofs.copies.+copies.Given as goal

abbrev pub invariant-copy_all-loop-e : goal.invariant-copy_all-loop-e
invariant-copy_all-loop-e l = map pterm l.copied.items ≡ map pterm (take l.e-index l.es)
