-- The rows of the relation are grouped by all columns.
use Rattle.std.proofs.Common.{◌≡◌, [], refl}
use Rattle.au_algebra.specs.Bounded.{distinct_rows}
use Rattle.au_kfull.specs.declared.keys.Keys.TheVariants.{All}
use Rattle.au_kfull.specs.Outputs.{group_fits}
use Rattle.au_kfull.proofs.GivesMore.{gives_ok, gives_overflow}
use Rattle.au_kfull.proofs.groups.distinct.Goals as goal

pub returns-clause-rows : goal.returns-clause-rows
returns-clause-rows c =
    gives_ok c.grouped.result (λ r. r ≡ distinct_rows c.args.of.now) (group_fits All [] c.args.of.now) (let h = c.grouped.ensures in rw c.rows.ensures at h) _ (λ r e. e)

pub returns-clause-overflow : goal.returns-clause-overflow
returns-clause-overflow c =
    gives_overflow c.grouped.result (λ r. r ≡ distinct_rows c.args.of.now) (group_fits All [] c.args.of.now) (let h = c.grouped.ensures in rw c.rows.ensures at h) _ refl
