-- The value of an expression on a row has the kind for which the expression is typed.
use Rattle.std.specs.Prelude.{◌≡◌, ℕ, zero, suc, Bool, true, false, List, [], ◌∷◌, map, slice_get, Some, if◌then◌else◌}
use Rattle.std.proofs.Common.{sym}
use Rattle.au_value.specs.declared.kinds.Kind.{Kind}
use Rattle.au_value.specs.declared.kinds.Kind.TheVariants as kind
use Rattle.au_value.specs.declared.value.Value.{Value}
use Rattle.au_value.specs.Order.{at_most, kind_of}
use Rattle.au_expr.specs.Ordinary.{is_true}
use Rattle.au_expr.proofs.Along.{agreed_is, both_of, is_kind_is, kind_if_is, one_of, only_if_is}
use Rattle.au_algebra.specs.Lists.{value_at}
use Rattle.au_plain.specs.PTerms.{PTerm, PTerms, nil, cons, greatest_value, least_value, plain_value}
use Rattle.au_plain.specs.PTerms.{Column, Literal, Add, Subtract, Multiply, Negate, Compare, And, Or, Not, Case, Least, Greatest}
use Rattle.au_plain.specs.PlanKinds.{common_kind, plain_kind}

-- the value in a place of a known kind
pub cell_kind : (row : List Value) (i : ℕ) (k : Kind) → slice_get (map kind_of row) i ≡ Some k → kind_of (value_at row i) ≡ k
cell_kind [] i k h = cc
cell_kind (v ∷ row) zero k h = let same : kind_of v ≡ k = cc in same
cell_kind (v ∷ row) (suc i) k h = cell_kind row i k h

pub one_of_two : (t : Bool) (k : Kind) (a b : Value) → kind_of a ≡ k → kind_of b ≡ k → kind_of (if t then a else b) ≡ k
one_of_two true k a b p q = p
one_of_two false k a b p q = q

mutual
  pub value_kind : (row : List Value) (e : PTerm) (k : Kind) → plain_kind (map kind_of row) e ≡ Some k → kind_of (plain_value e row) ≡ k
  value_kind row (Column i) k h = cell_kind row i k h
  value_kind row (Literal v) k h = let e : kind_of v ≡ k = cc in e
  value_kind row (Add a b) k h = (both_of kind.Int kind.Int _ _ k h).2
  value_kind row (Subtract a b) k h = (both_of kind.Int kind.Int _ _ k h).2
  value_kind row (Multiply a b) k h = (both_of kind.Int kind.Int _ _ k h).2
  value_kind row (Negate a) k h = (one_of kind.Int kind.Int _ k h).1
  value_kind row (Compare how a b) k h = (kind_if_is _ _ _ h).1
  value_kind row (And a b) k h = (both_of kind.Flag kind.Flag _ _ k h).2
  value_kind row (Or a b) k h = (both_of kind.Flag kind.Flag _ _ k h).2
  value_kind row (Not a) k h = (one_of kind.Flag kind.Flag _ k h).1
  value_kind row (Case c a b) k h =
      let p = only_if_is _ _ _ h in
      let q = agreed_is _ _ _ p.1 in
      one_of_two (is_true (plain_value c row)) k (plain_value a row) (plain_value b row) (value_kind row a k q.0) (value_kind row b k q.1)
  value_kind row (Least es) k h = least_kind row es k h
  value_kind row (Greatest es) k h = greatest_kind row es k h

  least_kind : (row : List Value) (es : PTerms) (k : Kind) → common_kind (map kind_of row) es ≡ Some k → kind_of (least_value es row) ≡ k
  least_kind row nil k h = cc
  least_kind row (cons e nil) k h = value_kind row e k h
  least_kind row (cons e (cons f es)) k h =
      let q = agreed_is (plain_kind (map kind_of row) e) (common_kind (map kind_of row) (cons f es)) k h in
      one_of_two (at_most (plain_value e row) (least_value (cons f es) row)) k (plain_value e row) (least_value (cons f es) row) (value_kind row e k q.0) (least_kind row (cons f es) k q.1)

  greatest_kind : (row : List Value) (es : PTerms) (k : Kind) → common_kind (map kind_of row) es ≡ Some k → kind_of (greatest_value es row) ≡ k
  greatest_kind row nil k h = cc
  greatest_kind row (cons e nil) k h = value_kind row e k h
  greatest_kind row (cons e (cons f es)) k h =
      let q = agreed_is (plain_kind (map kind_of row) e) (common_kind (map kind_of row) (cons f es)) k h in
      one_of_two (at_most (plain_value e row) (greatest_value (cons f es) row)) k (greatest_value (cons f es) row) (plain_value e row) (greatest_kind row (cons f es) k q.1) (value_kind row e k q.0)
