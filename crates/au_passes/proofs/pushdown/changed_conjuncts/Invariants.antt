-- The tests so far are followed.
use Rattle.std.proofs.Common.{◌≡◌, map, take}
use Rattle.std.specs.Prelude.{flat_map}
use Rattle.au_plain.specs.PTerms.{pterm}
use Rattle.au_passes.specs.Conditions.{conjuncts}
use Rattle.au_passes.specs.Tests.{with_columns}
use Rattle.au_passes.specs.Places.{column_in}
use Rattle.au_passes.proofs.pushdown.changed_conjuncts.Given as goal

abbrev pub invariant-loop-test : goal.invariant-loop-test
invariant-loop-test l = map pterm l.all.items ≡ flat_map (λ e. conjuncts (with_columns (column_in l.change) e)) (map pterm (take l.test-index l.tests))
