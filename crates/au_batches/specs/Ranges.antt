-- The range whose ends and guess stand from a place of a row on.
use Rattle.std.specs.Prelude.{ℕ, ◌+◌, List}
use Rattle.au_value.specs.declared.value.Value.{Value}
use Rattle.au_value.specs.Ranges.{Span, range}
use Rattle.au_algebra.specs.Lists.{value_at}

abbrev pub range_at : List Value → ℕ → Span
range_at row n = range (value_at row n) (value_at row (n + 1)) (value_at row (n + 2))
