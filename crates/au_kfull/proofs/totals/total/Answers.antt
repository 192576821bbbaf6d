-- The sums are those over the rows of the relation.
use Rattle.std.proofs.Common.{◌≡◌, refl}
use Rattle.au_algebra.specs.Bounded.{total}
use Rattle.au_kfull.specs.Outputs.{total_fits}
use Rattle.au_kfull.proofs.GivesMore.{gives_ok, gives_overflow}
use Rattle.au_kfull.proofs.totals.total.Goals as goal

pub returns-clause-rows : goal.returns-clause-rows
returns-clause-rows c =
    let aggs = c.args.aggs.now in
    gives_ok c.summed.result (λ r. r ≡ total aggs c.args.of.now) (total_fits aggs c.args.of.now) (let h = c.summed.ensures in rw c.rows.ensures at h) _ (λ r e. e)

pub returns-clause-overflow : goal.returns-clause-overflow
returns-clause-overflow c =
    let aggs = c.args.aggs.now in
    gives_overflow c.summed.result (λ r. r ≡ total aggs c.args.of.now) (total_fits aggs c.args.of.now) (let h = c.summed.ensures in rw c.rows.ensures at h) _ refl
