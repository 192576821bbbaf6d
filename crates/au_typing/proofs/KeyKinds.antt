-- The rows of groups: the kinds of the keys, and then those of the aggregates.
use Rattle.std.specs.Prelude.{◌≡◌, ℕ, zero, suc, ◌==◌, nat_le, Bool, true, false, List, [], ◌∷◌, ◌++◌, length, map, flat_map, take, Option, Some, None, option_and_then, option_map, slice_get, is_some, is_none, unwrap_or, if◌then◌else◌}
use Rattle.std.specs.List.{AllByRecursion}
use Rattle.std.proofs.Common.{arith, refl, ◌∙◌, ap, subst}
use Rattle.std.proofs.lemmas.Bool.{true≢false, eqb-true, le-leb}
use Rattle.std.proofs.lemmas.List.{length-append}
use Rattle.std.proofs.lemmas.Option.{slice_get-map}
use Rattle.std.proofs.Math.Seq.{take-append_seam}
use Rattle.au_value.specs.declared.kinds.Kind.{Kind}
use Rattle.au_value.specs.Order.{data_kind}
use Rattle.au_expr.specs.Terms.{Column as column}
use Rattle.au_expr.specs.Kinds.{kind_in}
use Rattle.au_algebra.specs.declared.query.Agg.{Agg}
use Rattle.au_algebra.specs.Trees.{Tree as Query, Group, Total}
use Rattle.au_algebra.specs.Typing.{all_kinds, agg_kind, items_kinds, group_kinds, total_kinds, kinds_of}
use Rattle.au_parse.specs.declared.Name.{Name}
use Rattle.au_typing.specs.Aggregates.{Written, taken_from}
use Rattle.au_typing.specs.Scopes.{Scope, name_faults}
use Rattle.au_typing.specs.Terms.{Grouping, groups, key_of, argument_of}
use Rattle.au_typing.specs.Selects.{key_places}
use Rattle.au_typing.specs.declared.fault.TypingFault.TheVariants as fault
use Rattle.au_typing.proofs.Faults.{none_of, no_fault}
use Rattle.au_typing.proofs.Found.{found, all_known, known, known_is, IsKnown, stands_behind}
use Rattle.au_typing.proofs.TermKinds.{Fits, meant, field_kinds, rows_fit, written_kind}
use Rattle.au_typing.proofs.GroupKinds.{IsFine, argument_kind, taken_kinds, all_sums, written_known, arguments_known}

-- the kinds of keys
abbrev pub key_kinds : Scope → List ℕ → List Kind
key_kinds s keys = map known (map (slice_get (field_kinds s)) keys)

-- the kinds of the rows of groups
abbrev pub grouped_kinds : Scope → List ℕ → List Written → List Kind
grouped_kinds s keys ws = key_kinds s keys ++ map known (map (written_kind s) ws)

-- keys without a fault have kinds
pub keys_known : (s : Scope) (keys : List Name) → flat_map (name_faults s) keys ≡ [] → AllByRecursion IsKnown (map (slice_get (field_kinds s)) (key_places s keys))
keys_known s [] h = tt
keys_known s (key ∷ keys) h =
    let p = none_of (name_faults s key) (flat_map (name_faults s) keys) h in
    let m = meant s key p.0 in (
      ap (λ o. is_some (slice_get (field_kinds s) (unwrap_or o 0))) m.found ∙ ap is_some (slice_get-map (λ f. data_kind f.kind) s.fields m.place ∙ ap (option_map (λ f. data_kind f.kind)) m.there),
      keys_known s keys p.1,
    )

-- as many kinds as keys
pub length-key_kinds : (s : Scope) (keys : List ℕ) → length (key_kinds s keys) ≡ length keys
length-key_kinds s [] = refl
length-key_kinds s (key ∷ keys) = omega (arith, length-key_kinds s keys)

-- one more kind that is known
one_more : (o : Option Kind) (os : List (Option Kind)) (ks : List Kind) → IsKnown o → all_kinds os ≡ Some ks → all_kinds (o ∷ os) ≡ Some (known o ∷ ks)
one_more o os ks k h = let e = known_is o k in λ i. option_and_then (λ j. option_and_then (λ js. Some (j ∷ js)) (h i)) (e i)

-- the keys and the arguments have kinds
pub arguments_kinds :
    (s : Scope) (by : Bool) (keys : List ℕ) (ws : List Written) → AllByRecursion IsKnown (map (slice_get (field_kinds s)) keys) → AllByRecursion (IsFine s by) ws →
    items_kinds (field_kinds s) (map column keys ++ map (argument_of s) ws) ≡ Some (key_kinds s keys ++ map known (map (argument_kind s) ws))
arguments_kinds s by [] [] k a = refl
arguments_kinds s by [] (w ∷ ws) k a =
    one_more (argument_kind s w) (map (kind_in (field_kinds s)) (map (argument_of s) ws)) (map known (map (argument_kind s) ws)) a.0.argument (arguments_kinds s by [] ws tt a.1)
arguments_kinds s by (key ∷ keys) ws k a =
    one_more (slice_get (field_kinds s) key) (map (kind_in (field_kinds s)) (map column keys ++ map (argument_of s) ws)) (key_kinds s keys ++ map known (map (argument_kind s) ws)) k.0
    (arguments_kinds s by keys ws k.1 a)

-- the first columns and the aggregates over all of them
group_is :
    (front back more : List Kind) (aggs : List Agg) → all_kinds (map (agg_kind (front ++ back)) aggs) ≡ Some more →
    group_kinds (length front) aggs (front ++ back) ≡ Some (front ++ more)
group_is front back more aggs h =
    let fits : nat_le (length front) (length (front ++ back)) ≡ true = le-leb _ _ (omega (arith, length-append front back)) in
    ap (λ b. if b then option_and_then (λ m. Some (take (length front) (front ++ back) ++ m)) (all_kinds (map (agg_kind (front ++ back)) aggs)) else None) fits
    ∙ (λ i. option_and_then (λ m. Some (take-append_seam front back i ++ m)) (h i))

-- keys and aggregates over the rows of keys and arguments
module _ (ts : List (List Kind)) (s : Scope) (ws : List Written) (q : Query) where
  -- the aggregates over keys and arguments
  aggregates_kinds : (by : Bool) (keys : List ℕ) → AllByRecursion (IsFine s by) ws →
      all_kinds (map (agg_kind (key_kinds s keys ++ map known (map (argument_kind s) ws))) (taken_from (length keys) ws)) ≡ Some (map known (map (written_kind s) ws))
  aggregates_kinds by keys a =
      ap all_kinds (taken_kinds s by (key_kinds s keys ++ map known (map (argument_kind s) ws)) (length keys) ws a
      (stands_behind (argument_kind s) (key_kinds s keys) (length keys) ws (length-key_kinds s keys) (arguments_known s by ws a)))
      ∙ all_known (map (written_kind s) ws) (written_known s by ws a)

  -- the groups, or the sums over all rows
  pub grouping_kinds : (by : Bool) (keys : List ℕ) → (by ≡ false → keys ≡ []) → AllByRecursion (IsFine s by) ws →
      kinds_of ts q ≡ Some (key_kinds s keys ++ map known (map (argument_kind s) ws)) →
      kinds_of ts (if by then Group (length keys) (taken_from (length keys) ws) q else Total (taken_from (length keys) ws) q) ≡ Some (grouped_kinds s keys ws)
  grouping_kinds true keys e a h =
      ap (option_and_then (λ ks. group_kinds (length keys) (taken_from (length keys) ws) ks)) h
      ∙ subst (λ n. group_kinds n (taken_from (length keys) ws) (key_kinds s keys ++ map known (map (argument_kind s) ws)) ≡ Some (grouped_kinds s keys ws)) (length-key_kinds s keys)
      (group_is (key_kinds s keys) (map known (map (argument_kind s) ws)) (map known (map (written_kind s) ws)) (taken_from (length keys) ws) (aggregates_kinds true keys a))
  grouping_kinds false (key ∷ keys) e a h = let f : key ∷ keys ≡ [] = e refl in cc
  grouping_kinds false [] e a h =
      ap (option_and_then (λ ks. total_kinds (taken_from 0 ws) ks)) h
      ∙ ap (λ b. if b then all_kinds (map (agg_kind (map known (map (argument_kind s) ws))) (taken_from 0 ws)) else None) (all_sums s 0 ws a)
      ∙ aggregates_kinds false [] a

-- what stands in front stays
in_front : (front back : List Kind) (i : ℕ) (k : Kind) → slice_get front i ≡ Some k → slice_get (front ++ back) i ≡ Some k
in_front [] back i k h = cc
in_front (f ∷ front) back zero k h = h
in_front (f ∷ front) back (suc i) k h = in_front front back i k h

-- a place that is not missing
there_is : (o : Option ℕ) → is_none o ≡ false → (i : ℕ) × (o ≡ Some i)
there_is None h = absurd (true≢false h)
there_is (Some i) h = (i, refl)

-- the keys stand in the rows of groups with their kinds
pub groups_fit : (s : Scope) (g : Grouping) (back : List Kind) → Fits s (groups g) (key_kinds s g.keys ++ back)
groups_fit s g back at i f there h =
    let j = there_is (key_of g.keys i) (no_fault (is_none (key_of g.keys i)) (fault.NotGrouped at) h) in
    let key = found (λ k. k == i) g.keys j.0 j.1 in
    let kind : slice_get (field_kinds s) key.item ≡ Some (data_kind f.kind) = ap (slice_get (field_kinds s)) (eqb-true key.item i key.passes) ∙ rows_fit s at i f there refl in
    ap (λ o. slice_get (key_kinds s g.keys ++ back) (unwrap_or o 0)) j.1
    ∙ in_front (key_kinds s g.keys) back j.0 (data_kind f.kind)
    (slice_get-map known (map (slice_get (field_kinds s)) g.keys) j.0
    ∙ ap (option_map known) (slice_get-map (slice_get (field_kinds s)) g.keys j.0 ∙ ap (option_map (slice_get (field_kinds s))) key.there)
    ∙ ap (λ o. Some (known o)) kind)
