use Rattle.std.proofs.Common.{◌≡◌, ◌<◌, ℕ, true}
use Rattle.au_value.specs.Numeral.{is_i128}
use Rattle.au_columns.specs.Steps.{number_at}
use Rattle.au_columns.proofs.narrow.read.Given as goal

abbrev pub invariant-loop-i : goal.invariant-loop-i
invariant-loop-i l = (k : ℕ) → k < l.i → is_i128 (number_at l.numbers k) ≡ true
