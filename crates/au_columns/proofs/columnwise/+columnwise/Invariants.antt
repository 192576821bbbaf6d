-- The best so far is the best of the expressions from here on.
use Rattle.std.proofs.Common.{◌<◌, drop, length}
use Rattle.std.specs.Prelude.{IfOk}
use Rattle.au_codes.specs.Careful.{careful_extreme}
use Rattle.au_codes.specs.Gathering.{terms}
use Rattle.au_columns.specs.Evaluated.{Gives}
use Rattle.au_columns.specs.Operands.{seen}
use Rattle.au_columns.proofs.columnwise.+columnwise.Given as goal

abbrev pub invariant-extreme-loop-i : goal.invariant-extreme-loop-i
invariant-extreme-loop-i l = record {
  below : l.i < length l.es;
  given : IfOk l.best (λ v. Gives (careful_extreme l.how (terms (drop l.i l.es))) l.batch (seen v));
}

abbrev pub decreases-extreme-loop-i : goal.decreases-extreme-loop-i
decreases-extreme-loop-i l = l.i
