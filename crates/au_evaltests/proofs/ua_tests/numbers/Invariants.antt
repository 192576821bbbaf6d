-- The rows so far have one number and a pair.
use Rattle.std.specs.List.{AllByRecursion}
use Rattle.std.proofs.Common.{◌≡◌, ◌∷◌, [], length}
use Rattle.au_annot.specs.Pairs.{IsPair}
use Rattle.au_expr.specs.Ordinary.{IsKind}
use Rattle.au_keval.specs.Reading.{IsRelationOver}
use Rattle.au_value.specs.declared.kinds.Kind.TheVariants.{Int}
use Rattle.au_evaltests.proofs.ua_tests.numbers.Given as goal

abbrev pub invariant-loop-word : goal.invariant-loop-word
invariant-loop-word g l = record {
  relation : IsRelationOver IsKind IsPair (Int ∷ []) l.rel;
  widths : AllByRecursion (λ r. length r.cells ≡ 1) l.rel;
}
