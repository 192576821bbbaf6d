-- The sum of two lists' terms is in the range where it is given.
use Rattle.std.proofs.Common.{◌++◌}
use Rattle.au_evaltests.specs.SumLaws.{joined_fits}
use Rattle.au_evaltests.proofs.sum_tests.SummingPartialI128Adder.merge.Goals as goal

pub returns : goal.returns
returns c = λ xs ys _ _ a b. joined_fits c.joined.result (xs ++ ys) (c.joined.ensures xs ys a b)
