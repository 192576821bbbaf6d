-- The kinds of a typed tree's parts, and how many there are.
use Rattle.std.specs.Prelude.{◌≡◌, ℕ, ◌+◌, List, [], ◌∷◌, ◌++◌, length, map, take, Option, Some, nat_le, suc, ◌≤◌}
use Rattle.std.proofs.Common.{arith, sym, ◌∙◌, ap, leb-true}
use Rattle.std.proofs.lemmas.List.{length-append, length-map, length-take}
use Rattle.au_value.specs.declared.kinds.Kind.{Kind}
use Rattle.au_algebra.specs.declared.query.Agg.{Agg}
use Rattle.au_algebra.specs.Trees.{Tree, Product, Union}
use Rattle.au_algebra.specs.Typing.{agg_kind, all_kinds, group_kinds, kinds_of}
use Rattle.au_algebra.proofs.Items.{and_then_is, chosen_is, some_is}
use Rattle.au_algebra.proofs.PositiveRelation.{same_kinds_is}

-- ---- how many kinds there are

-- all kinds are as many as there are to be
pub all_length : (os : List (Option Kind)) (ks : List Kind) → all_kinds os ≡ Some ks → length ks ≡ length os
all_length [] ks h = ap length (sym (some_is [] ks h))
all_length (o ∷ os) ks h =
    let p = and_then_is _ o ks h in
    let q = and_then_is _ (all_kinds os) ks p.2 in
    ap length (sym (some_is (p.0 ∷ q.0) ks q.2)) ∙ ap suc (all_length os q.0 q.1)

-- the keys of a group are among the columns
keys_within : (keys : ℕ) (aggs : List Agg) (ks js : List Kind) → group_kinds keys aggs ks ≡ Some js → keys ≤ length ks
keys_within keys aggs ks js h = leb-true keys (length ks) (chosen_is (nat_le keys (length ks)) _ js h).0

-- the kinds of a group are the keys' and the aggregates'
pub group_length : (keys : ℕ) (aggs : List Agg) (ks js : List Kind) → group_kinds keys aggs ks ≡ Some js → length js ≡ keys + length aggs
group_length keys aggs ks js h =
    let s = chosen_is (nat_le keys (length ks)) _ js h in
    let m = and_then_is _ (all_kinds (map (agg_kind ks) aggs)) js s.1 in
    let more : length m.0 ≡ length aggs = all_length (map (agg_kind ks) aggs) m.0 m.1 ∙ length-map aggs (agg_kind ks) in
    let whole : length js ≡ length (take keys ks ++ m.0) = ap length (sym (some_is (take keys ks ++ m.0) js m.2)) in
    let within = keys_within keys aggs ks js h in
    whole ∙ length-append (take keys ks) m.0 ∙ omega (arith, more, length-take keys ks, within)

-- ---- of two trees

module _ (kinds : List (List Kind)) (a b : Tree) (ks : List Kind) where
  -- both sides of a union, or a difference, have its kinds
  module _ (typed : kinds_of kinds (Union a b) ≡ Some ks) where
    pub left_kinds : kinds_of kinds a ≡ Some ks
    left_kinds =
        let p = and_then_is _ (kinds_of kinds a) ks typed in
        let s = and_then_is _ (kinds_of kinds b) ks p.2 in
        p.1 ∙ (chosen_is _ (Some p.0) ks s.2).1

    pub right_kinds : kinds_of kinds b ≡ Some ks
    right_kinds =
        let p = and_then_is _ (kinds_of kinds a) ks typed in
        let s = and_then_is _ (kinds_of kinds b) ks p.2 in
        let u = chosen_is _ (Some p.0) ks s.2 in
        s.1 ∙ ap Some (sym (same_kinds_is p.0 s.0 u.0)) ∙ u.1

  -- the kinds of a product are those of its sides
  pub product_kinds : kinds_of kinds (Product a b) ≡ Some ks → (hs : List Kind) × ((js : List Kind) × ((kinds_of kinds a ≡ Some hs) × ((kinds_of kinds b ≡ Some js) × (hs ++ js ≡ ks))))
  product_kinds typed =
      let p = and_then_is _ (kinds_of kinds a) ks typed in
      let s = and_then_is _ (kinds_of kinds b) ks p.2 in
      (p.0, (s.0, (p.1, (s.1, some_is (p.0 ++ s.0) ks s.2))))
