-- The rows of the relation are grouped by its leading columns.
use Rattle.au_algebra.specs.Bounded.{group}
use Rattle.au_kfull.specs.declared.keys.Keys.TheVariants.{Leading}
use Rattle.au_kfull.specs.Outputs.{group_fits}
use Rattle.std.proofs.Common.{◌≡◌, refl}
use Rattle.au_kfull.proofs.GivesMore.{gives_ok, gives_fits, gives_overflow}
use Rattle.au_kfull.proofs.groups.group.Goals as goal

pub returns-clause-rows : goal.returns-clause-rows
returns-clause-rows c =
    let aggs = c.args.aggs.now in
    gives_ok c.grouped.result (λ r. r ≡ group c.args.keys aggs c.args.of.now) (group_fits (Leading c.args.keys) aggs c.args.of.now) (let h = c.grouped.ensures in rw c.rows.ensures at h) _ (λ r e. e)

pub returns-clause-fits : goal.returns-clause-fits
returns-clause-fits c =
    let aggs = c.args.aggs.now in
    gives_fits c.grouped.result (λ r. r ≡ group c.args.keys aggs c.args.of.now) (group_fits (Leading c.args.keys) aggs c.args.of.now) (let h = c.grouped.ensures in rw c.rows.ensures at h) _ refl

pub returns-clause-overflow : goal.returns-clause-overflow
returns-clause-overflow c =
    let aggs = c.args.aggs.now in
    gives_overflow c.grouped.result (λ r. r ≡ group c.args.keys aggs c.args.of.now) (group_fits (Leading c.args.keys) aggs c.args.of.now) (let h = c.grouped.ensures in rw c.rows.ensures at h) _ refl
