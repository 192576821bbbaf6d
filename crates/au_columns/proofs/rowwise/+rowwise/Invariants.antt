-- The best so far is the best of the expressions from here on.
use Rattle.std.proofs.Common.{◌≡◌, ◌<◌, [], drop, get_or, length}
use Rattle.au_codes.specs.Careful.{careful_extreme}
use Rattle.au_codes.specs.Gathering.{terms}
use Rattle.au_columns.proofs.rowwise.+rowwise.Given as goal

abbrev pub invariant-careful_extreme-loop-i : goal.invariant-careful_extreme-loop-i
invariant-careful_extreme-loop-i l = record {
  below : l.i < length l.es;
  is : l.best ≡ careful_extreme l.how (terms (drop l.i l.es)) (get_or l.batch l.row []);
}

abbrev pub decreases-careful_extreme-loop-i : goal.decreases-careful_extreme-loop-i
decreases-careful_extreme-loop-i l = l.i
