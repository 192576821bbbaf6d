-- The conjuncts so far are parted.
use Rattle.std.specs.Prelude.{◌≡◌, ◌++◌, filter, map, not}
use Rattle.std.specs.Vec.Iter.{into_iter_items}
use Rattle.au_plain.specs.PTerms.{pterm}
use Rattle.au_passes.specs.Tests.{without_arithmetic}
use Rattle.au_passes.proofs.pushdown.add_movable.Given as goal

abbrev pub invariant-loop-conjunct : goal.invariant-loop-conjunct
invariant-loop-conjunct l = record {
  tests : map pterm l.tests.items ++ filter without_arithmetic (map pterm (into_iter_items l.conjunct-iterator)) ≡ map pterm l.fn.first.items ++ filter without_arithmetic (map pterm l.fn.conjuncts.items);
  staying : map pterm l.staying.items ++ filter (λ e. not (without_arithmetic e)) (map pterm (into_iter_items l.conjunct-iterator)) ≡ filter (λ e. not (without_arithmetic e)) (map pterm l.fn.conjuncts.items);
}
