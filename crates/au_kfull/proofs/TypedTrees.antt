-- What each operator needs of the relations of its parts, from the tree's type.
use Rattle.std.specs.Prelude.{◌≡◌, ◌<◌, true, ℕ, zero, suc, List, [], ◌∷◌, length, slice_get, is_some, Some, map}
use Rattle.std.specs.List.{AllZip}
use Rattle.std.proofs.Common.{arith, refl, sym, subst}
use Rattle.au_value.specs.declared.kinds.Kind.{Kind}
use Rattle.au_value.specs.declared.kinds.Kind.TheVariants.{Flag}
use Rattle.au_expr.specs.Terms.{Term}
use Rattle.au_expr.specs.Kinds.{kind_in}
use Rattle.au_expr.proofs.Along.{is_kind_is}
use Rattle.au_algebra.specs.declared.query.Agg.{Agg}
use Rattle.au_algebra.specs.Bounded.{Bounded, bounded}
use Rattle.au_algebra.specs.Laws.{IsRelation}
use Rattle.au_algebra.specs.Trees.{Tree, Table, Select, Project, Product, Union, Difference, Distinct, Group, Total}
use Rattle.au_algebra.specs.Typing.{kinds_of, all_kinds, agg_kind}
use Rattle.au_algebra.proofs.Items.{and_then_is, chosen_is}
use Rattle.au_algebra.proofs.PositiveRelation.{same_kinds_is}
use Rattle.au_algebra.proofs.TreeRelation.{its_kinds, tree_relation}
use Rattle.au_kfull.specs.Typed.{IsTypedOver, CanSelect, CanProject, CanJoin, AreAlike, IsGroupable, IsSummable}

module _ (ts : List Bounded) where
  pub can_select : (e : Term) (q : Tree) → IsTypedOver (Select e q) ts → CanSelect e (bounded q ts)
  can_select e q o =
      let k = its_kinds (kinds_of o.0 (Select e q)) o.1 in
      let p = and_then_is _ (kinds_of o.0 q) k.0 k.1 in
      let s = chosen_is _ (Some p.0) k.0 p.2 in
      (p.0, is_kind_is Flag (kind_in p.0 e) s.0, tree_relation o.0 ts o.2 q p.0 p.1)

  pub can_project : (items : List Term) (q : Tree) → IsTypedOver (Project items q) ts → CanProject items (bounded q ts)
  can_project items q o =
      let k = its_kinds (kinds_of o.0 (Project items q)) o.1 in
      let p = and_then_is _ (kinds_of o.0 q) k.0 k.1 in
      (p.0, k.0, p.2, tree_relation o.0 ts o.2 q p.0 p.1)

  pub can_join : (a b : Tree) → IsTypedOver (Product a b) ts → CanJoin (bounded a ts) (bounded b ts)
  can_join a b o =
      let k = its_kinds (kinds_of o.0 (Product a b)) o.1 in
      let p = and_then_is _ (kinds_of o.0 a) k.0 k.1 in
      let s = and_then_is _ (kinds_of o.0 b) k.0 p.2 in
      (p.0, s.0, tree_relation o.0 ts o.2 a p.0 p.1, tree_relation o.0 ts o.2 b s.0 s.1)

  pub alike_union : (a b : Tree) → IsTypedOver (Union a b) ts → AreAlike (bounded a ts) (bounded b ts)
  alike_union a b o =
      let k = its_kinds (kinds_of o.0 (Union a b)) o.1 in
      let p = and_then_is _ (kinds_of o.0 a) k.0 k.1 in
      let s = and_then_is _ (kinds_of o.0 b) k.0 p.2 in
      let u = chosen_is _ (Some p.0) k.0 s.2 in
      (p.0, tree_relation o.0 ts o.2 a p.0 p.1, subst (λ js. IsRelation js (bounded b ts)) (sym (same_kinds_is p.0 s.0 u.0)) (tree_relation o.0 ts o.2 b s.0 s.1))

  pub alike_difference : (a b : Tree) → IsTypedOver (Difference a b) ts → AreAlike (bounded a ts) (bounded b ts)
  alike_difference a b o = alike_union a b o

  pub can_distinct : (q : Tree) → IsTypedOver (Distinct q) ts → IsGroupable [] (bounded q ts)
  can_distinct q o =
      let k = its_kinds (kinds_of o.0 q) o.1 in (k.0, tree_relation o.0 ts o.2 q k.0 k.1, record { made = []; typed = refl })

  pub can_group : (keys : ℕ) (aggs : List Agg) (q : Tree) → IsTypedOver (Group keys aggs q) ts → IsGroupable aggs (bounded q ts)
  can_group keys aggs q o =
      let k = its_kinds (kinds_of o.0 (Group keys aggs q)) o.1 in
      let p = and_then_is _ (kinds_of o.0 q) k.0 k.1 in
      let s = chosen_is _ _ k.0 p.2 in
      let m = and_then_is _ (all_kinds (map (agg_kind p.0) aggs)) k.0 s.1 in
      (p.0, tree_relation o.0 ts o.2 q p.0 p.1, record { made = m.0; typed = m.1 })

  pub can_total : (aggs : List Agg) (q : Tree) → IsTypedOver (Total aggs q) ts → IsSummable aggs (bounded q ts)
  can_total aggs q o =
      let k = its_kinds (kinds_of o.0 (Total aggs q)) o.1 in
      let p = and_then_is _ (kinds_of o.0 q) k.0 k.1 in
      let s = chosen_is _ (all_kinds (map (agg_kind p.0) aggs)) k.0 p.2 in
      (p.0, tree_relation o.0 ts o.2 q p.0 p.1, record { made = k.0; typed = s.1; sums = s.0 })

there : (kinds : List (List Kind)) (ts : List Bounded) → AllZip IsRelation kinds ts → (i : ℕ) → is_some (slice_get kinds i) ≡ true → i < length ts
there [] [] z i h = cc
there [] (t ∷ ts) z i h = elim z [ ]
there (k ∷ kinds) [] z i h = elim z [ ]
there (k ∷ kinds) (t ∷ ts) z zero h = omega arith
there (k ∷ kinds) (t ∷ ts) z (suc i) h = let l = there kinds ts z.1 i h in omega arith

-- a table that a tree names is there
pub table_there : (i : ℕ) (ts : List Bounded) → IsTypedOver (Table i) ts → i < length ts
table_there i ts o = there o.0 ts o.2 i o.1
