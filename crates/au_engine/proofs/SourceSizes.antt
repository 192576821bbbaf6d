-- How many sources there are, with those that steps and products have of their own.
use Rattle.std.specs.Prelude.{ℕ, ◌+◌}
use Rattle.au_program.specs.declared.sources.Sources.{Sources}
use Rattle.au_program.specs.declared.sources.Sources.TheVariants as code

abbrev pub sources_size : Sources → ℕ
sources_size code.Nothing = 0
sources_size (code.Table' p before place kept) = sources_size before + 1
sources_size (code.Step' p before q own how) = (sources_size before + sources_size own) + 1
sources_size (code.Pairs' p before q left r right pairing) = (sources_size before + (sources_size left + sources_size right)) + 1
