-- The steps of an evaluation, put together.
use Rattle.std.specs.Prelude.{◌≡◌, ℕ, zero, suc, List, [], ◌∷◌, ◌++◌, Some, Option, slice_get, unwrap_or, get_or, pos, ◌&&◌}
use Rattle.std.proofs.Common.{refl, sym, ◌∙◌, ap, subst}
use Rattle.au_value.specs.declared.kinds.Kind.{Kind}
use Rattle.au_value.specs.declared.kinds.Kind.TheVariants as kind
use Rattle.au_value.specs.declared.value.Value.{Value}
use Rattle.au_value.specs.declared.value.Value.TheVariants.{Int}
use Rattle.au_value.specs.declared.comparison.Comparison.{Comparison}
use Rattle.au_expr.specs.Evaluate.{Operators, evaluate, HasKind, cell_at}
use Rattle.au_expr.specs.Figures.{Figures, Fit, numbers_of}
use Rattle.au_expr.specs.Holding.{WhichWorld}
use Rattle.au_expr.specs.Kinds.{kind_in, is_kind, kind_if}
use Rattle.au_expr.specs.Ordinary.{ordinary, value_of}
use Rattle.au_expr.specs.Related.{RelatedRows}
use Rattle.au_expr.specs.Steps.{Both, Combined, Found, Held, combined, formed, kind_given}
use Rattle.au_expr.specs.Terms.{Term, Column, Literal, Add, Subtract, Multiply, Negate, Compare, And, Or, Not, Case}
use Rattle.au_expr.proofs.Along.{kind_if_is, some_agreed, both_of, one_of}
use Rattle.au_expr.proofs.Fits.{fit_both, fit_parts}

-- the parts of an operator
pub data Parts : Term → Term → Term → Type 0 where
  sum : {a b : Term} → Parts (Add a b) a b
  difference : {a b : Term} → Parts (Subtract a b) a b
  product : {a b : Term} → Parts (Multiply a b) a b
  negation : {a : Term} → Parts (Negate a) a a
  comparison : {how : Comparison} {a b : Term} → Parts (Compare how a b) a b
  conjunction : {a b : Term} → Parts (And a b) a b
  disjunction : {a b : Term} → Parts (Or a b) a b
  opposite : {a : Term} → Parts (Not a) a a

some_is : {A : Type 0} (x y : A) → Some x ≡ Some y → x ≡ y
some_is x y h = ap (λ o. unwrap_or o x) h

-- the kinds of an operator's parts, where it has a kind
pair_of : (m n : Kind) (a b : Option Kind) (k : Kind) → kind_if (is_kind m a && is_kind m b) n ≡ Some k → ((a ≡ Some m) × (b ≡ Some m)) × (n ≡ k)
pair_of m n a b k h = let p = both_of m n a b k h in ((p.0, p.1), p.2)

kinds_below : (ks : List Kind) (e l r : Term) (k : Kind) → Parts e l r → kind_in ks e ≡ Some k → Both (λ j. kind_in ks l ≡ Some j) (λ j. kind_in ks r ≡ Some j) e × (kind_given e ≡ k)
kinds_below ks _ l r k sum h = pair_of kind.Int kind.Int _ _ k h
kinds_below ks _ l r k difference h = pair_of kind.Int kind.Int _ _ k h
kinds_below ks _ l r k product h = pair_of kind.Int kind.Int _ _ k h
kinds_below ks _ l r k negation h = let p = one_of kind.Int kind.Int _ k h in ((p.0, p.0), p.1)
kinds_below ks _ l r k comparison h = let p = kind_if_is _ _ _ h in (some_agreed _ _ p.0, p.1)
kinds_below ks _ l r k conjunction h = pair_of kind.Flag kind.Flag _ _ k h
kinds_below ks _ l r k disjunction h = pair_of kind.Flag kind.Flag _ _ k h
kinds_below ks _ l r k opposite h = let p = one_of kind.Flag kind.Flag _ k h in ((p.0, p.0), p.1)

both_map : (P Q S T : Kind → Type 0) → ((j : Kind) → P j → S j) → ((j : Kind) → Q j → T j) → (e : Term) → Both P Q e → Both S T e
both_map P Q S T f g (Add a b) h = (f kind.Int h.0, g kind.Int h.1)
both_map P Q S T f g (Subtract a b) h = (f kind.Int h.0, g kind.Int h.1)
both_map P Q S T f g (Multiply a b) h = (f kind.Int h.0, g kind.Int h.1)
both_map P Q S T f g (Negate a) h = (f kind.Int h.0, g kind.Int h.1)
both_map P Q S T f g (Compare how a b) h = (h.0, f h.0 h.1, g h.0 h.2)
both_map P Q S T f g (And a b) h = (f kind.Flag h.0, g kind.Flag h.1)
both_map P Q S T f g (Or a b) h = (f kind.Flag h.0, g kind.Flag h.1)
both_map P Q S T f g (Not a) h = (f kind.Flag h.0, g kind.Flag h.1)
both_map P Q S T f g (Column i) h = absurd h
both_map P Q S T f g (Literal v) h = absurd h
both_map P Q S T f g (Case c a b) h = absurd h

value_parts : (e l r : Term) (vs : List Value) → Parts e l r → combined ordinary e (value_of l vs) (value_of r vs) ≡ value_of e vs
value_parts _ _ _ vs sum = refl
value_parts _ _ _ vs difference = refl
value_parts _ _ _ vs product = refl
value_parts _ _ _ vs negation = refl
value_parts _ _ _ vs comparison = refl
value_parts _ _ _ vs conjunction = refl
value_parts _ _ _ vs disjunction = refl
value_parts _ _ _ vs opposite = refl

-- an item that is there is read, whatever stands for one that is not
pub get_or_some : {C : Type 0} (xs : List C) (i : ℕ) (x z : C) → slice_get xs i ≡ Some x → get_or xs i z ≡ x
get_or_some [] i x z h = cc
get_or_some (y ∷ ys) zero x z h = some_is y x h
get_or_some (y ∷ ys) (suc i) x z h = get_or_some ys i x z h

module _ {C : Type 0} (d : Operators C) (is_of : Kind → C → Type 0) (n : Figures C) (R : WhichWorld → Kind → C → Value → Type 0) (row : List C) where
  cell_kept : (w : WhichWorld) (ks : List Kind) (xs : List C) (vs : List Value) → RelatedRows (R w) ks xs vs → (i : ℕ) (k : Kind) (c : C) → slice_get ks i ≡ Some k → slice_get xs i ≡ Some c → R w k c (cell_at ordinary vs i)
  cell_kept w [] [] [] rows i k c h g = cc
  cell_kept w (j ∷ ks) (x ∷ xs) (u ∷ us) rows zero k c h g = subst (λ m. R w m c u) (some_is j k h) (subst (λ y. R w j y u) (some_is x c g) rows.0)
  cell_kept w (j ∷ ks) (x ∷ xs) (u ∷ us) rows (suc i) k c h g = cell_kept w ks xs us rows.1 i k c h g
  cell_kept w _ _ _ rows i k c h g = absurd rows

  -- a cell of the row
  pub column_found : (i : ℕ) (c : C) → slice_get row i ≡ Some c → Found d is_of n R row (Column i) c
  column_found i c h =
      let value : c ≡ cell_at d row i = sym (ap (λ o. unwrap_or o (d.literal (Int (pos 0)))) h) in
      record {
        value = value;
        kind = λ k p. subst (λ x. is_of k x) (some_is p.0 c (sym p.1 ∙ h)) p.2;
        fits = λ f. subst (λ x. Fit (n.components x)) value f;
        keeps = λ w ks vs k rows g. cell_kept w ks row vs rows i k c g h;
      }

  at_parts : (e l r : Term) → Parts e l r → combined d e (evaluate d l row) (evaluate d r row) ≡ evaluate d e row
  at_parts _ _ _ sum = refl
  at_parts _ _ _ difference = refl
  at_parts _ _ _ product = refl
  at_parts _ _ _ negation = refl
  at_parts _ _ _ comparison = refl
  at_parts _ _ _ conjunction = refl
  at_parts _ _ _ disjunction = refl
  at_parts _ _ _ opposite = refl

  kind_only : (e l r : Term) (k : Kind) → Parts e l r → HasKind is_of row e k → k ≡ kind_given e
  kind_only _ _ _ k sum h = h.2
  kind_only _ _ _ k difference h = h.2
  kind_only _ _ _ k product h = h.2
  kind_only _ _ _ k negation h = h.1
  kind_only _ _ _ k comparison h = h.1
  kind_only _ _ _ k conjunction h = h.2
  kind_only _ _ _ k disjunction h = h.2
  kind_only _ _ _ k opposite h = h.1

  numbers_fit : (e l r : Term) → Parts e l r → Fit (formed d n e (evaluate d l row) (evaluate d r row)) → Fit (numbers_of d n l row) → Fit (numbers_of d n r row) → Fit (numbers_of d n e row)
  numbers_fit (Add a b) _ _ sum f p q = fit_both (n.components (evaluate d (Add a b) row)) (numbers_of d n a row ++ numbers_of d n b row) f (fit_both (numbers_of d n a row) (numbers_of d n b row) p q)
  numbers_fit (Subtract a b) _ _ difference f p q = fit_both (n.components (evaluate d (Subtract a b) row)) (numbers_of d n a row ++ numbers_of d n b row) f (fit_both (numbers_of d n a row) (numbers_of d n b row) p q)
  numbers_fit (Multiply a b) _ _ product f p q =
      let products = n.products (evaluate d a row) (evaluate d b row) in
      let components = n.components (evaluate d (Multiply a b) row) in
      let both = fit_parts products components f in
      fit_both products (components ++ (numbers_of d n a row ++ numbers_of d n b row)) both.0
      (fit_both components (numbers_of d n a row ++ numbers_of d n b row) both.1 (fit_both (numbers_of d n a row) (numbers_of d n b row) p q))
  numbers_fit (Negate a) _ _ negation f p q = fit_both (n.components (evaluate d (Negate a) row)) (numbers_of d n a row) f p
  numbers_fit (Compare how a b) _ _ comparison f p q = fit_both (numbers_of d n a row) (numbers_of d n b row) p q
  numbers_fit (And a b) _ _ conjunction f p q = fit_both (numbers_of d n a row) (numbers_of d n b row) p q
  numbers_fit (Or a b) _ _ disjunction f p q = fit_both (numbers_of d n a row) (numbers_of d n b row) p q
  numbers_fit (Not a) _ _ opposite f p q = p
  numbers_fit (Column _) l r h f p q = elim h [ ]
  numbers_fit (Literal _) l r h f p q = elim h [ ]
  numbers_fit (Case _ _ _) l r h f p q = elim h [ ]

  held_parts : (e l r : Term) (x y : C) → Parts e l r → (Parts e l r → l ≡ r → Fit (n.components x) → Fit (n.components y)) → Held n e x y → Fit (n.components x) × Fit (n.components y)
  held_parts _ _ _ x y sum same h = h
  held_parts _ _ _ x y difference same h = h
  held_parts _ _ _ x y product same h = h
  held_parts _ _ _ x y negation same h = (h, same negation refl h)
  held_parts _ _ _ x y comparison same h = h
  held_parts _ _ _ x y conjunction same h = h
  held_parts _ _ _ x y disjunction same h = h
  held_parts _ _ _ x y opposite same h = (h, same opposite refl h)

  -- an operator that gave a cell formed numbers that fit, as those below it do
  pub step_fits : (e l r : Term) (x y c : C) → Parts e l r → Found d is_of n R row l x → Found d is_of n R row r y → Combined d is_of n R e x y c → Fit (numbers_of d n e row)
  step_fits e l r x y c parts fx fy g =
      let held = held_parts e l r x y parts (λ _ s f. subst (λ z. Fit (n.components z)) (fx.value ∙ ((λ i. evaluate d (s i) row) ∙ sym fy.value)) f) g.held in
      numbers_fit e l r parts (subst (λ z. Fit (formed d n e z (evaluate d r row))) fx.value (subst (λ z. Fit (formed d n e x z)) fy.value g.fits)) (fx.fits held.0) (fy.fits held.1)

  -- a cell that an operator gave on what its parts were found to be
  pub step_found : (e l r : Term) (x y c : C) → Parts e l r → Found d is_of n R row l x → Found d is_of n R row r y → Combined d is_of n R e x y c → Found d is_of n R row e c
  step_found e l r x y c parts fx fy g =
      let value : c ≡ evaluate d e row = g.value ∙ ((λ i. combined d e (fx.value i) (fy.value i)) ∙ at_parts e l r parts) in
      record {
        value = value;
        kind = λ k h. subst (λ j. is_of j c) (sym (kind_only e l r k parts h)) g.kind;
        fits = λ _. step_fits e l r x y c parts fx fy g;
        keeps = λ w ks vs k rows h.
            let below = kinds_below ks e l r k parts h in
            let kept = g.keeps w (value_of l vs) (value_of r vs) (both_map _ _ _ _ (λ j q. fx.keeps w ks vs j rows q) (λ j q. fy.keeps w ks vs j rows q) e below.0) in
            let at_kind = subst (λ j. R w j (combined d e x y) (combined ordinary e (value_of l vs) (value_of r vs))) below.1 kept in
            let at_cell = subst (λ z. R w k z (combined ordinary e (value_of l vs) (value_of r vs))) (sym g.value) at_kind in
            subst (λ z. R w k c z) (value_parts e l r vs parts) at_cell;
      }
