-- What is left decides.
use Rattle.std.proofs.Common.{◌≡◌, map, drop}
use Rattle.std.specs.List.{list_all}
use Rattle.au_plain.specs.PTerms.{pterm}
use Rattle.au_passes.specs.Places.{is_among}
use Rattle.au_passes.specs.Tests.{reads_only}
use Rattle.au_passes.proofs.columns.are_reading_only.Given as goal

abbrev pub invariant-loop-e : goal.invariant-loop-e
invariant-loop-e l = list_all (reads_only (is_among l.places)) (map pterm (drop l.e-index l.es)) ≡ list_all (reads_only (is_among l.places)) (map pterm l.es)
