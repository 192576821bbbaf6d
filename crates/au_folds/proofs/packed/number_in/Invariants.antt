-- The number stands so many places further on in what is left.
use Rattle.std.proofs.Common.{◌≡◌, ◌-◌}
use Rattle.au_columns.specs.Steps.{number_at}
use Rattle.au_folds.specs.Packed.{unpacked}
use Rattle.au_folds.proofs.packed.number_in.Given as goal

abbrev pub invariant-loop : goal.invariant-loop
invariant-loop l = number_at (unpacked l.width (l.deep - l.counter) l.rest) (l.place - l.counter) ≡ number_at (unpacked l.width l.deep l.key) l.place
