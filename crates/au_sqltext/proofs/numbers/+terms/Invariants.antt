-- The expressions that are left tell of all.
use Rattle.std.proofs.Common.{◌≡◌, drop, map}
use Rattle.std.specs.List.{list_all}
use Rattle.au_plain.specs.PTerms.{pterm}
use Rattle.au_sqltext.specs.Fitting.{term_fits}
use Rattle.au_sqltext.proofs.numbers.+terms.Given as goal

abbrev pub invariant-read_terms-loop-e : goal.invariant-read_terms-loop-e
invariant-read_terms-loop-e l = list_all term_fits (map pterm (drop l.e-index l.es)) ≡ list_all term_fits (map pterm l.es)
