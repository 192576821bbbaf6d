-- Domains that go along with one another.
use Rattle.std.specs.Prelude.{List, [], ◌∷◌}
use Rattle.au_value.specs.declared.kinds.Kind.{Kind}
use Rattle.au_value.specs.declared.kinds.Kind.TheVariants.{Int, Flag}
use Rattle.au_value.specs.declared.value.Value.{Value}
use Rattle.au_value.specs.declared.comparison.Comparison.{Comparison}
use Rattle.au_value.specs.Order.{kind_of}
use Rattle.au_expr.specs.Evaluate.{Operators}

-- each operator keeps the relation, on cells whose kinds fit
pub record Related {C D : Type 0} (R : Kind → C → D → Type 0) (c : Operators C) (d : Operators D) : Type 0 where
  pub literal : (v : Value) → R (kind_of v) (c.literal v) (d.literal v)
  pub add : (x y : C) (u v : D) → R Int x u → R Int y v → R Int (c.add x y) (d.add u v)
  pub subtract : (x y : C) (u v : D) → R Int x u → R Int y v → R Int (c.subtract x y) (d.subtract u v)
  pub multiply : (x y : C) (u v : D) → R Int x u → R Int y v → R Int (c.multiply x y) (d.multiply u v)
  pub negate : (x : C) (u : D) → R Int x u → R Int (c.negate x) (d.negate u)
  pub compare : (how : Comparison) (k : Kind) (x y : C) (u v : D) → R k x u → R k y v → R Flag (c.compare how x y) (d.compare how u v)
  pub and : (x y : C) (u v : D) → R Flag x u → R Flag y v → R Flag (c.and x y) (d.and u v)
  pub or : (x y : C) (u v : D) → R Flag x u → R Flag y v → R Flag (c.or x y) (d.or u v)
  pub not : (x : C) (u : D) → R Flag x u → R Flag (c.not x) (d.not u)
  pub choose : (k : Kind) (p x y : C) (q u v : D) → R Flag p q → R k x u → R k y v → R k (c.choose p x y) (d.choose q u v)

-- cells of these kinds, related one by one
abbrev pub RelatedRows : {C D : Type 0} → (Kind → C → D → Type 0) → List Kind → List C → List D → Type 0
RelatedRows R [] [] [] = Unit {0}
RelatedRows R (k ∷ ks) (x ∷ xs) (u ∷ us) = R k x u × RelatedRows R ks xs us
RelatedRows R _ _ _ = ⊥
