-- The three intervals stand in order, and numbers are compared with numbers.
use Rattle.std.proofs.Common.{refl}
use Rattle.au_value.specs.declared.value.Value.TheVariants.{Int}
use Rattle.au_evaltests.proofs.Probed.{any_los, any_his, all_los, all_his, ordered}
use Rattle.au_evaltests.proofs.index_tests.places_met.Goals as goal

pub build-requires-clause-los : goal.build-requires-clause-los
build-requires-clause-los g c = rw c.in_ok-entries.ensures any_los

pub build-requires-clause-his : goal.build-requires-clause-his
build-requires-clause-his g c = rw c.in_ok-entries.ensures any_his

pub build-requires-clause-ordered : goal.build-requires-clause-ordered
build-requires-clause-ordered g c = rw c.in_ok-entries.ensures ordered

pub probe-requires-clause-los : goal.probe-requires-clause-los
probe-requires-clause-los g c = rw (c.in_ok-index.ensures.holds, c.in_ok-entries.ensures) (all_los (Int c.args.hi) refl)

pub probe-requires-clause-his : goal.probe-requires-clause-his
probe-requires-clause-his g c = rw (c.in_ok-index.ensures.holds, c.in_ok-entries.ensures) (all_his (Int c.args.lo) refl)
