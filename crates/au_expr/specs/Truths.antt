-- The truths of a domain's flags: whether a condition holds, or for a range of flags whether it holds certainly,
-- in the guess and possibly.
use Rattle.std.specs.Prelude.{◌≡◌, true, Bool}
use Rattle.au_value.specs.Ranges.{Span}
use Rattle.au_expr.specs.Ordinary.{is_true}
use Rattle.au_expr.specs.OnRanges.{flags}
use Rattle.au_expr.specs.declared.truth.ThreeWay.{ThreeWay}

-- least ≤ guess ≤ most, with false below true
pub record IsThreeWay (t : ThreeWay) : Type 0 where
  pub least_guess : t.least ≡ true → t.guess ≡ true
  pub guess_most : t.guess ≡ true → t.most ≡ true

-- the three flags of a range
abbrev pub three_way : Span → ThreeWay
three_way r = record { least = is_true r.lo; guess = is_true r.sg; most = is_true r.hi }

-- the range of the three flags
abbrev pub range_of_truth : ThreeWay → Span
range_of_truth t = flags t.least t.guess t.most

-- a bool is always valid
abbrev pub IsAnyBool : Bool → Type 0
IsAnyBool b = Unit {0}
