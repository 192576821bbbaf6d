-- The kinds that expressions have over columns are those that they have on a row.
use Rattle.std.specs.Prelude.{◌≡◌, ℕ, zero, suc, List, [], ◌∷◌, slice_get, Some}
use Rattle.std.specs.List.{AllZip}
use Rattle.std.proofs.Common.{refl, sym, subst}
use Rattle.au_value.specs.Order.{kind_of}
use Rattle.au_value.specs.declared.kinds.Kind.{Kind}
use Rattle.au_value.specs.declared.kinds.Kind.TheVariants.{Int, Flag}
use Rattle.au_expr.specs.Terms.{Term, Column, Literal, Add, Subtract, Multiply, Negate, Compare, And, Or, Not, Case}
use Rattle.au_expr.specs.Evaluate.{HasKind}
use Rattle.au_expr.specs.Kinds.{kind_in}
use Rattle.au_expr.proofs.Along.{is_kind_is, kind_if_is, only_if_is, some_agreed, agreed_is, both_of, one_of}

module _ {C : Type 0} (V : Kind → C → Type 0) where
  cell_there : (ks : List Kind) (row : List C) → AllZip V ks row → (i : ℕ) (k : Kind) → slice_get ks i ≡ Some k → (c : C) × (slice_get row i ≡ Some c) × V k c
  cell_there [] [] z i k h = cc
  cell_there [] (x ∷ row) z i k h = elim z [ ]
  cell_there (j ∷ ks) [] z i k h = elim z [ ]
  cell_there (j ∷ ks) (x ∷ row) z zero k h = (x, refl, subst (λ m. V m x) (let e : j ≡ k = cc in e) z.0)
  cell_there (j ∷ ks) (x ∷ row) z (suc i) k h = cell_there ks row z.1 i k h

  module _ (ks : List Kind) (row : List C) (cells : AllZip V ks row) where
    -- the expression has its kind on the row
    pub has_kind : (e : Term) (k : Kind) → kind_in ks e ≡ Some k → HasKind V row e k
    has_kind (Column i) k h = cell_there ks row cells i k h
    has_kind (Literal v) k h = (let e : kind_of v ≡ k = cc in e)
    has_kind (Add a b) k h = let p = both_of Int Int _ _ k h in (has_kind a Int p.0, has_kind b Int p.1, sym p.2)
    has_kind (Subtract a b) k h = let p = both_of Int Int _ _ k h in (has_kind a Int p.0, has_kind b Int p.1, sym p.2)
    has_kind (Multiply a b) k h = let p = both_of Int Int _ _ k h in (has_kind a Int p.0, has_kind b Int p.1, sym p.2)
    has_kind (Negate a) k h = let p = one_of Int Int _ k h in (has_kind a Int p.0, sym p.1)
    has_kind (Compare how a b) k h =
        let p = kind_if_is _ _ _ h in
        let q = some_agreed _ _ p.0 in
        ((q.0, has_kind a q.0 q.1, has_kind b q.0 q.2), sym p.1)
    has_kind (And a b) k h = let p = both_of Flag Flag _ _ k h in (has_kind a Flag p.0, has_kind b Flag p.1, sym p.2)
    has_kind (Or a b) k h = let p = both_of Flag Flag _ _ k h in (has_kind a Flag p.0, has_kind b Flag p.1, sym p.2)
    has_kind (Not a) k h = let p = one_of Flag Flag _ k h in (has_kind a Flag p.0, sym p.1)
    has_kind (Case t a b) k h =
        let p = only_if_is _ _ _ h in
        let q = agreed_is _ _ _ p.1 in
        (has_kind t Flag (is_kind_is Flag _ p.0), has_kind a k q.0, has_kind b k q.1)
