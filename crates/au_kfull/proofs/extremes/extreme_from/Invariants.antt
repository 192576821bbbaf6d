-- The best so far, with the rows that are left, has the extreme of all.
use Rattle.std.proofs.Common.{◌≡◌, ◌∷◌, drop}
use Rattle.au_value.specs.declared.kinds.Kind.{Kind}
use Rattle.au_value.specs.Order.{kind_of}
use Rattle.au_kfull.specs.Extremes.{extreme_of, values_at, HaveColumn}
use Rattle.au_kfull.proofs.extremes.extreme_from.Given as goal

abbrev pub invariant-loop-row : goal.invariant-loop-row
invariant-loop-row l = record {
  best : extreme_of l.which (l.best ∷ values_at l.bound l.at (drop l.row-index l.others)) ≡ extreme_of l.which (values_at l.bound l.at (l.first ∷ l.others));
  one_kind : (k : Kind) × (kind_of l.best ≡ k) × HaveColumn k l.at (drop l.row-index l.others);
}
