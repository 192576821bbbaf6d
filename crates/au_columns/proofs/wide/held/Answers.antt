-- A number that is held fits.
use Rattle.std.proofs.Common.{sym, ap, ◌∙◌}
use Rattle.std.specs.Int.{w128}
use Rattle.std.proofs.lemmas.Int.{to_z-of_z}
use Rattle.au_value.specs.Numeral.{is_i128}
use Rattle.au_columns.proofs.Held.{held_fits}
use Rattle.au_columns.proofs.wide.held.Goals as goal

pub returns-clause-fits : goal.returns-clause-fits
returns-clause-fits c = held_fits c.args.number (sym (ap is_i128 (to_z-of_z w128 c.args.number c.ranges.number)) ∙ c.fits.ensures)
