-- The numbers so far, with those that are left.
use Rattle.std.proofs.Common.{◌≡◌, ◌-◌, ◌++◌}
use Rattle.au_folds.specs.Packed.{unpacked}
use Rattle.au_folds.proofs.packed.unpacked_list.Given as goal

abbrev pub invariant-loop : goal.invariant-loop
invariant-loop l = l.numbers.items ++ unpacked l.width (l.deep - l.counter) l.rest ≡ unpacked l.width l.deep l.key
