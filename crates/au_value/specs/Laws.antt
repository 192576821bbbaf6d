-- What every user of values may rest on: the order of values is total, and a hull holds what its parts hold.
use Rattle.std.specs.Prelude.{IsTrue}
use Rattle.std.specs.Cmp.{IsTotalOrder}
use Rattle.au_value.specs.declared.value.Value.{Value}
use Rattle.au_value.specs.Order.{order}
use Rattle.au_value.specs.Ranges.{Span, holds, hull}

-- values are ordered totally, and only a value itself is equal to it in the order
abbrev pub OrderIsTotal : Type 0
OrderIsTotal = IsTotalOrder order

-- the hull of two ranges holds each value that either holds
pub record HullHoldsBoth : Type 0 where
  pub first : (a b : Span) (v : Value) → IsTrue (holds a v) → IsTrue (holds (hull a b) v)
  pub second : (a b : Span) (v : Value) → IsTrue (holds b v) → IsTrue (holds (hull a b) v)
