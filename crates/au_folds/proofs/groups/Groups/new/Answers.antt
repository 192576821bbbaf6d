-- The table of no rows.
use Rattle.au_folds.specs.Held.{held_table}
use Rattle.au_folds.specs.Tables.{table_with}
use Rattle.au_folds.proofs.TableShapes.{empty_is_table}
use Rattle.au_folds.proofs.groups.Groups.new.Goals as goal

pub invariant_of-result : goal.invariant_of-result
invariant_of-result c =
    empty_is_table c.args.keys.now c.args.aggs.now (held_table c.in_ok-seen.seen c.in_ok-folds.folds.items)
    (λ i. table_with (c.in_ok-seen.ensures.0 i) (c.in_ok-seen.ensures.1 i) (c.in_ok-folds.ensures i))
