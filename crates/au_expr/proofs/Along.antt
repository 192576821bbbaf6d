-- Related domains give related values.
use Rattle.std.specs.Prelude.{◌≡◌, ℕ, zero, suc, Bool, true, false, ◌&&◌, List, [], ◌∷◌, slice_get, Option, Some, None, is_some}
use Rattle.std.proofs.Common.{refl, sym, ◌∙◌, ap, subst}
use Rattle.std.proofs.lemmas.Bool.{and_parts, true≢false}
use Rattle.au_value.specs.declared.kinds.Kind.{Kind}
use Rattle.au_value.specs.declared.kinds.Kind.TheVariants.{Int, Flag}
use Rattle.au_value.specs.Order.{kind_of, kind_eq}
use Rattle.au_value.specs.KindLaws.{kind_eq_is}
use Rattle.au_expr.specs.Terms.{Term, Column, Literal, Add, Subtract, Multiply, Negate, Compare, And, Or, Not, Case}
use Rattle.au_expr.specs.Evaluate.{Operators, evaluate, cell_at}
use Rattle.au_expr.specs.Kinds.{kind_in, kind_if, is_kind, agreed, only_if}
use Rattle.au_expr.specs.Related.{Related, RelatedRows}

-- a kind that is found is there
pub is_kind_is : (k : Kind) (o : Option Kind) → is_kind k o ≡ true → o ≡ Some k
is_kind_is k None h = absurd (true≢false (sym h))
is_kind_is k (Some j) h = ap Some (sym (kind_eq_is k j h))

-- what the kind of an expression says of its parts
pub kind_if_is : (b : Bool) (j k : Kind) → kind_if b j ≡ Some k → (b ≡ true) × (j ≡ k)
kind_if_is true j k h = (refl, cc)
kind_if_is false j k h = cc

pub only_if_is : (b : Bool) (o : Option Kind) (k : Kind) → only_if b o ≡ Some k → (b ≡ true) × (o ≡ Some k)
only_if_is true o k h = (refl, h)
only_if_is false o k h = cc

some_kind_if : (t : Bool) (j : Kind) → is_some (kind_if t j) ≡ true → t ≡ true
some_kind_if true j h = refl
some_kind_if false j h = h

pub some_agreed : (a b : Option Kind) → is_some (agreed a b) ≡ true → (k : Kind) × (a ≡ Some k) × (b ≡ Some k)
some_agreed None b h = absurd (true≢false (sym h))
some_agreed (Some j) b h = (j, refl, is_kind_is j b (some_kind_if _ j h))

pub agreed_is : (a b : Option Kind) (k : Kind) → agreed a b ≡ Some k → (a ≡ Some k) × (b ≡ Some k)
agreed_is None b k h = cc
agreed_is (Some j) b k h = let p = kind_if_is (is_kind j b) j k h in (ap Some p.1, is_kind_is j b p.0 ∙ ap Some p.1)

pub both_of : (m n : Kind) (a b : Option Kind) (k : Kind) → kind_if (is_kind m a && is_kind m b) n ≡ Some k → (a ≡ Some m) × (b ≡ Some m) × (n ≡ k)
both_of m n a b k h =
    let p = kind_if_is _ _ _ h in
    let q = and_parts _ _ p.0 in
    (is_kind_is m a q.0, is_kind_is m b q.1, p.1)

pub one_of : (m n : Kind) (a : Option Kind) (k : Kind) → kind_if (is_kind m a) n ≡ Some k → (a ≡ Some m) × (n ≡ k)
one_of m n a k h = let p = kind_if_is _ _ _ h in (is_kind_is m a p.0, p.1)

module _ {C D : Type 0} (R : Kind → C → D → Type 0) (c : Operators C) (d : Operators D) (along : Related R c d) where
  cell_along : (ks : List Kind) (xs : List C) (us : List D) → RelatedRows R ks xs us → (i : ℕ) (k : Kind) → slice_get ks i ≡ Some k → R k (cell_at c xs i) (cell_at d us i)
  cell_along [] [] [] rows i k h = cc
  cell_along (j ∷ ks) (x ∷ xs) (u ∷ us) rows zero k h = subst (λ m. R m x u) (let e : j ≡ k = cc in e) rows.0
  cell_along (j ∷ ks) (x ∷ xs) (u ∷ us) rows (suc i) k h = cell_along ks xs us rows.1 i k h
  cell_along _ _ _ rows i k h = absurd rows

  module _ (ks : List Kind) (xs : List C) (us : List D) (rows : RelatedRows R ks xs us) where
    at_kind : (e : Term) (m k : Kind) → m ≡ k → R m (evaluate c e xs) (evaluate d e us) → R k (evaluate c e xs) (evaluate d e us)
    at_kind e m k same r = subst (λ j. R j (evaluate c e xs) (evaluate d e us)) same r

    pub evaluate_along : (e : Term) (k : Kind) → kind_in ks e ≡ Some k → R k (evaluate c e xs) (evaluate d e us)
    evaluate_along (Column i) k h = cell_along ks xs us rows i k h
    evaluate_along (Literal v) k h = at_kind (Literal v) _ k (let e : kind_of v ≡ k = cc in e) (along.literal v)
    evaluate_along (Add a b) k h =
        let p = both_of Int Int _ _ k h in
        at_kind (Add a b) _ k p.2 (along.add _ _ _ _ (evaluate_along a Int p.0) (evaluate_along b Int p.1))
    evaluate_along (Subtract a b) k h =
        let p = both_of Int Int _ _ k h in
        at_kind (Subtract a b) _ k p.2 (along.subtract _ _ _ _ (evaluate_along a Int p.0) (evaluate_along b Int p.1))
    evaluate_along (Multiply a b) k h =
        let p = both_of Int Int _ _ k h in
        at_kind (Multiply a b) _ k p.2 (along.multiply _ _ _ _ (evaluate_along a Int p.0) (evaluate_along b Int p.1))
    evaluate_along (And a b) k h =
        let p = both_of Flag Flag _ _ k h in
        at_kind (And a b) _ k p.2 (along.and _ _ _ _ (evaluate_along a Flag p.0) (evaluate_along b Flag p.1))
    evaluate_along (Or a b) k h =
        let p = both_of Flag Flag _ _ k h in
        at_kind (Or a b) _ k p.2 (along.or _ _ _ _ (evaluate_along a Flag p.0) (evaluate_along b Flag p.1))
    evaluate_along (Negate a) k h =
        let p = one_of Int Int _ k h in
        at_kind (Negate a) _ k p.1 (along.negate _ _ (evaluate_along a Int p.0))
    evaluate_along (Not a) k h =
        let p = one_of Flag Flag _ k h in
        at_kind (Not a) _ k p.1 (along.not _ _ (evaluate_along a Flag p.0))
    evaluate_along (Compare how a b) k h =
        let p = kind_if_is _ _ _ h in
        let q = some_agreed _ _ p.0 in
        at_kind (Compare how a b) _ k p.1 (along.compare how q.0 _ _ _ _ (evaluate_along a q.0 q.1) (evaluate_along b q.0 q.2))
    evaluate_along (Case t a b) k h =
        let p = only_if_is _ _ _ h in
        let q = agreed_is _ _ _ p.1 in
        along.choose k _ _ _ _ _ _ (evaluate_along t Flag (is_kind_is Flag _ p.0)) (evaluate_along a k q.0) (evaluate_along b k q.1)
