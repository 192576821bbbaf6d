-- When a cell stands for an ordinary value: a value for itself, a range for each value that it holds,
-- and, in the guess, for its guess.
use Rattle.std.specs.Prelude.{◌≡◌, true, List, Some, IsTrue}
use Rattle.std.specs.List.{AllZip}
use Rattle.au_value.specs.declared.kinds.Kind.{Kind}
use Rattle.au_value.specs.declared.value.Value.{Value}
use Rattle.au_value.specs.Order.{at_most, kind_of}
use Rattle.au_value.specs.Ranges.{Span, IsRangeOf, holds, all_hold, guesses}
use Rattle.au_expr.specs.Terms.{Term}
use Rattle.au_expr.specs.Kinds.{kind_in}
use Rattle.au_expr.specs.Ordinary.{value_of}
use Rattle.au_expr.specs.OnRanges.{range_of}

-- a value of a kind between two ends of that kind
pub record Within (k : Kind) (r : Span) (v : Value) : Type 0 where
  pub lo_kind : kind_of r.lo ≡ k
  pub hi_kind : kind_of r.hi ≡ k
  pub kind : kind_of v ≡ k
  pub lo : at_most r.lo v ≡ true
  pub hi : at_most v r.hi ≡ true

-- the value is the guess of a range that holds it
pub record GuessIs (k : Kind) (r : Span) (v : Value) : Type 0 where
  pub valid : Within k r r.sg
  pub is : r.sg ≡ v

-- one value of a kind
pub record Same (k : Kind) (u v : Value) : Type 0 where
  pub kind : kind_of u ≡ k
  pub is : u ≡ v

-- any possible world, and the selected-guess world
pub data WhichWorld : Type 0 where
  possible : WhichWorld
  guess : WhichWorld

-- a value stands for itself in each world
abbrev pub ValueIs : WhichWorld → Kind → Value → Value → Type 0
ValueIs w k u v = Same k u v

-- a range stands for what it holds in a possible world, and for its guess in the guess world
abbrev pub RangeIs : WhichWorld → Kind → Span → Value → Type 0
RangeIs possible k r v = Within k r v
RangeIs guess k r v = GuessIs k r v

-- Where a row of ranges holds a row of values, the range of a typed expression holds its ordinary value,
-- and the guess of that range is the ordinary value on the guesses.
pub record RangesHoldValues : Type 0 where
  pub holds :
      (e : Term) (k : Kind) (ks : List Kind) (rs : List Span) (vs : List Value) →
      kind_in ks e ≡ Some k → AllZip IsRangeOf ks rs → IsTrue (all_hold rs vs) → IsTrue (holds (range_of e rs) (value_of e vs))
  pub guesses :
      (e : Term) (k : Kind) (ks : List Kind) (rs : List Span) →
      kind_in ks e ≡ Some k → AllZip IsRangeOf ks rs → (range_of e rs).sg ≡ value_of e (guesses rs)
  pub ranges :
      (e : Term) (k : Kind) (ks : List Kind) (rs : List Span) →
      kind_in ks e ≡ Some k → AllZip IsRangeOf ks rs → IsRangeOf k (range_of e rs)
