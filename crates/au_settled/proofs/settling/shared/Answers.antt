-- The rows are their own normal form, and their counts were read.
use Rattle.std.proofs.Common.{◌≡◌, true, length, subst, ◌∙◌}
use Rattle.au_algebra.specs.Bounded.{normal}
use Rattle.au_algebra.specs.Fits.{triples_fit}
use Rattle.au_settled.proofs.OwnForm.{all_rows, own_fits, own_rows, places_below}
use Rattle.au_settled.proofs.settling.shared.Goals as goal

pub read-requires-clause-below : goal.read-requires-clause-below
read-requires-clause-below c = places_below (length c.args.rows.now) c.args.places.now c.requires.all

pub returns-in-Ok-clause-rows : goal.returns-in-Ok-clause-rows
returns-in-Ok-clause-rows c = c.in-Ok.ensures ∙ own_rows c.args.columns c.args.rows.now c.requires.counts c.args.places.now c.requires.all c.requires.normal

pub returns-in-Ok-clause-fits : goal.returns-in-Ok-clause-fits
returns-in-Ok-clause-fits c =
    subst (λ relation. triples_fit (normal relation) ≡ true) (all_rows c.args.columns c.args.rows.now c.requires.counts c.args.places.now c.requires.all)
    (own_fits c.args.columns c.args.rows.now c.args.places.now c.requires.normal c.read.ensures)
