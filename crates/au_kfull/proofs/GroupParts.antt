-- A group by the rows of its outputs.
use Rattle.std.specs.Prelude.{◌≡◌, Bool, ◌&&◌, List, [], ◌∷◌, map}
use Rattle.std.specs.List.{AllByRecursion, list_all}
use Rattle.std.proofs.Common.{refl, sym, ◌∙◌, ap, subst}
use Rattle.au_value.specs.declared.kinds.Kind.{Kind}
use Rattle.au_value.specs.declared.value.Value.{Value}
use Rattle.au_value.specs.Ranges.{guesses}
use Rattle.au_algebra.specs.declared.query.Agg.{Agg}
use Rattle.au_algebra.specs.Bounded.{Bounded, group_by, guessed_keys, present}
use Rattle.au_algebra.specs.Keys.{groups_by}
use Rattle.au_algebra.specs.Laws.{IsRelation}
use Rattle.au_algebra.specs.Lists.{same_row}
use Rattle.au_algebra.proofs.Each.{all_filter}
use Rattle.au_algebra.proofs.KeptByGroup.{keys_valid}
use Rattle.au_algebra.proofs.RelationRows.{relation_holds}
use Rattle.au_kfull.specs.declared.keys.Keys.{Keys}
use Rattle.au_kfull.specs.declared.keys.Keys.TheVariants.{Leading, All}
use Rattle.au_kfull.specs.Groups.{IsGroupOf}
use Rattle.au_kfull.specs.Keys.{keys_of, kinds, HasKinds}
use Rattle.au_kfull.specs.Outputs.{IsOutput, IsOutputReady, group_fits, made_output, made_fits}
use Rattle.au_kfull.specs.SameGuesses.{groups_held}
use Rattle.au_kfull.proofs.CertainRows.{KeysHeld, members_belong}
use Rattle.au_kfull.proofs.CombineRows.{all_held, map_twice}
use Rattle.au_kfull.proofs.GroupOutputs.{group_fits-each, own_rows}
use Rattle.au_kfull.proofs.PutRows.{Held}

list_all-map : {A B : Type 0} (test : B → Bool) (f : A → B) (xs : List A) → list_all test (map f xs) ≡ list_all (λ x. test (f x)) xs
list_all-map test f [] = refl
list_all-map test f (x ∷ xs) = ap (λ b. test (f x) && b) (list_all-map test f xs)

-- the keys of a relation hold their guesses
pub keys_held : (k : Keys) (ks : List Kind) (rows : Bounded) → IsRelation ks rows → KeysHeld k rows
keys_held (Leading n) ks rows ok = keys_valid n ks rows ok
keys_held All ks rows ok = relation_holds ks rows ok

module _ (k : Keys) (aggs : List Agg) (rows : Bounded) where
  ready_by : (ks : List Kind) (gs : List (List Value)) → HasKinds ks rows → KeysHeld k rows → AllByRecursion (λ guess. IsOutput k aggs rows (own_rows k rows guess)) gs → AllByRecursion (IsOutputReady k aggs rows) (map (own_rows k rows) gs)
  ready_by ks [] p h o = tt
  ready_by ks (g ∷ gs) p h o =
      let own = all_filter (λ r. kinds r.cells ≡ ks) (λ r. same_row g (guesses (keys_of k r.cells))) rows p in
      let group : IsGroupOf k rows (own_rows k rows g) = record { some = o.0.some; one_kinds = (ks, p, own); certain = members_belong k g rows h o.0.some } in
      (record { group = group; out = o.0 }, ready_by ks gs p h o.1)

  module _ (groups : List Held) (same : groups_held groups ≡ groups_by (λ r. guesses (keys_of k r.cells)) rows) where
    -- the groups by guessed keys have outputs
    pub ready_groups : (ks : List Kind) → HasKinds ks rows → KeysHeld k rows → AllByRecursion (λ guess. IsOutput k aggs rows (own_rows k rows guess)) (guessed_keys (keys_of k) rows) → AllByRecursion (λ (g : Held). IsOutputReady k aggs rows g.items) groups
    ready_groups ks p h o =
        all_held (IsOutputReady k aggs rows) groups
        (subst (AllByRecursion (IsOutputReady k aggs rows)) (sym same) (ready_by ks (guessed_keys (keys_of k) rows) p h o))

    -- which are the group
    pub groups_group : present (map (λ (g : Held). made_output k aggs rows g.items) groups) ≡ group_by (keys_of k) aggs rows
    unfolding made_output
    groups_group =
        ap present
        (sym (map_twice (made_output k aggs rows) (λ (g : Held). g.items) groups)
        ∙ ap (map (made_output k aggs rows)) same
        ∙ map_twice (made_output k aggs rows) (own_rows k rows) (guessed_keys (keys_of k) rows))

    -- and their numbers are its numbers
    pub groups_fit : list_all (λ (g : Held). made_fits k aggs rows g.items) groups ≡ group_fits k aggs rows
    unfolding made_fits
    groups_fit =
        sym (list_all-map (made_fits k aggs rows) (λ (g : Held). g.items) groups)
        ∙ ap (list_all (made_fits k aggs rows)) same
        ∙ list_all-map (made_fits k aggs rows) (own_rows k rows) (guessed_keys (keys_of k) rows)
        ∙ sym (group_fits-each k aggs rows)
