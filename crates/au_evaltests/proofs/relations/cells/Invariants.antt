-- The cells so far are ranges of numbers.
use Rattle.std.specs.List.{AllByRecursion}
use Rattle.au_value.specs.Ranges.{IsRangeOf}
use Rattle.au_value.specs.declared.kinds.Kind.TheVariants.{Int}
use Rattle.au_evaltests.proofs.relations.cells.Given as goal

abbrev pub invariant-loop-word : goal.invariant-loop-word
invariant-loop-word g l = AllByRecursion (IsRangeOf Int) l.cells.items
