-- The closure answers by the order of the ranges.
use Rattle.std.proofs.Common.{rules}
use Rattle.std.proofs.lemmas.Fn.{always_returns_same}
use Rattle.au_algebra.specs.Entries.{entry}
use Rattle.au_algebra.proofs.Runs.{row_below}
use Rattle.au_algebra.proofs.StrictRows.{strict_normal}
use Rattle.au_algebra.proofs.normal_form.rise.Goals as goal

pub returns : goal.returns
returns c =
    strict_normal (λ r. entry r.0.items r.1) c.args.rows.now c.is_sorted_by.result
    (c.is_sorted_by.ensures.cases (row_below (λ r. entry r.0.items r.1)) (always_returns_same _ _ _ (λ a r f k. search rules)))
