-- The numbers that a block holds lie between -2^127 and 2^127 - 1.
use Rattle.std.specs.Prelude.{◌≡◌, true}
use Rattle.std.specs.List.{AllByRecursion}
use Rattle.au_value.specs.declared.value.Value.{Value}
use Rattle.au_value.specs.Ranges.{Span}
use Rattle.au_expr.specs.Figures.{fit}
use Rattle.au_expr.specs.Numbers.{number_if_any}
use Rattle.au_blocks.specs.Blocks.{Candidate, Choices}

abbrev pub FitValue : Value → Type 0
FitValue v = fit (number_if_any v) ≡ true

pub record FitSpan (s : Span) : Type 0 where
  pub lo : FitValue s.lo
  pub sg : FitValue s.sg
  pub hi : FitValue s.hi

abbrev pub FitCandidate : Candidate → Type 0
FitCandidate a = AllByRecursion FitSpan a.cells

abbrev pub FitBlock : Choices → Type 0
FitBlock b = AllByRecursion FitCandidate b.alternatives
