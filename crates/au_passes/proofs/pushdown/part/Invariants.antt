-- The tests so far are parted.
use Rattle.std.specs.Prelude.{◌≡◌, ◌++◌, map}
use Rattle.std.specs.Vec.Iter.{into_iter_items}
use Rattle.au_plain.specs.PTerms.{pterm}
use Rattle.au_passes.specs.Places.{is_among}
use Rattle.au_passes.specs.Pushing.{reading_only, reading_more}
use Rattle.au_passes.proofs.pushdown.part.Given as goal

abbrev pub invariant-loop-test : goal.invariant-loop-test
invariant-loop-test l = record {
  only : map pterm l.only.items ++ reading_only (is_among l.places) (map pterm (into_iter_items l.test-iterator)) ≡ reading_only (is_among l.places) (map pterm l.fn.tests.items);
  more : map pterm l.more.items ++ reading_more (is_among l.places) (map pterm (into_iter_items l.test-iterator)) ≡ reading_more (is_among l.places) (map pterm l.fn.tests.items);
}
