-- The rows are their own normal form, and their counts were read.
use Rattle.std.proofs.Common.{◌∙◌}
use Rattle.au_settled.proofs.OwnForm.{apart_rows, own_fits}
use Rattle.au_settled.proofs.settling.apart.Goals as goal

pub returns-in-Ok-clause-rows : goal.returns-in-Ok-clause-rows
returns-in-Ok-clause-rows c = c.in-Ok.ensures ∙ apart_rows c.args.columns c.args.rows.now c.requires.counts c.args.places.now c.requires.below c.requires.normal

pub returns-in-Ok-clause-fits : goal.returns-in-Ok-clause-fits
returns-in-Ok-clause-fits c = own_fits c.args.columns c.args.rows.now c.args.places.now c.requires.normal c.read.ensures
