-- The rows so far have so many ranges of numbers, and a triple.
use Rattle.std.proofs.Common.{replicate}
use Rattle.au_value.specs.declared.kinds.Kind.TheVariants.{Int}
use Rattle.au_algebra.specs.Laws.{IsRelation}
use Rattle.au_evaltests.proofs.relations.relation.Given as goal

abbrev pub invariant-loop-part : goal.invariant-loop-part
invariant-loop-part g l = IsRelation (replicate l.columns Int) l.rel
