-- Items in which nothing is wrong give output columns of the kinds that are named.
use Rattle.std.specs.Prelude.{◌≡◌, ℕ, ◌+◌, suc, Bool, true, false, List, [], ◌∷◌, ◌++◌, length, map, flat_map, Option, Some, None, slice_get, if◌then◌else◌}
use Rattle.std.specs.List.{AllByRecursion, enumerate_from}
use Rattle.std.proofs.Common.{arith, refl, sym, ◌∙◌, ap, subst}
use Rattle.au_value.specs.declared.kinds.Kind.{Kind}
use Rattle.au_value.specs.Order.{data_kind}
use Rattle.au_expr.specs.Kinds.{kind_in}
use Rattle.au_algebra.specs.Typing.{all_kinds, items_kinds}
use Rattle.au_parse.specs.Tree.{ItemTree}
use Rattle.au_typing.specs.Scopes.{Scope, is_owner, knows_owner}
use Rattle.au_typing.specs.Terms.{Setting, place_faults}
use Rattle.au_typing.specs.Items.{Output, if_owned, star_output, star_faults, item_written, items_written, item_outputs, outputs_from, item_faults, items_faults, columns_from}
use Rattle.au_typing.specs.Queries.{data_kinds}
use Rattle.au_typing.specs.declared.scope.Field.{Field}
use Rattle.au_typing.specs.declared.fault.TypingFault.TheVariants as fault
use Rattle.au_typing.proofs.Faults.{none_of}
use Rattle.au_typing.proofs.Found.{all_both, all_known, known, IsKnown, StandsAt, stands_parts}
use Rattle.au_typing.proofs.Rescaled.{data_of, data_known, known_data}
use Rattle.au_typing.proofs.TermKinds.{Fits, written_kind, term_is, term_known}

-- an output column whose kind is known, and is that of its expression
pub record Gives (ks : List Kind) (o : Output) : Type 0 where
  pub kind : kind_in ks o.term ≡ data_of o.kind
  pub is_known : IsKnown o.kind

-- the values of such columns have the kinds that are named
pub gives_kinds :
    (ks : List Kind) (outputs : List Output) → AllByRecursion (Gives ks) outputs →
    items_kinds ks (map (λ o. o.term) outputs) ≡ Some (map (λ o. data_kind (known o.kind)) outputs)
gives_kinds ks outputs h = ap all_kinds (their_kinds outputs h) ∙ all_known (map (λ o. data_of o.kind) outputs) (their_known outputs h) ∙ ap Some (twice outputs)
  where
    their_kinds : (os : List Output) → AllByRecursion (Gives ks) os → map (kind_in ks) (map (λ o. o.term) os) ≡ map (λ o. data_of o.kind) os
    their_kinds [] h = refl
    their_kinds (o ∷ os) h = let e = h.0.kind in let r = their_kinds os h.1 in λ i. e i ∷ r i

    their_known : (os : List Output) → AllByRecursion (Gives ks) os → AllByRecursion IsKnown (map (λ o. data_of o.kind) os)
    their_known [] h = tt
    their_known (o ∷ os) h = (data_known o.kind h.0.is_known, their_known os h.1)

    twice : (os : List Output) → map known (map (λ o. data_of o.kind) os) ≡ map (λ o. data_kind (known o.kind)) os
    twice [] = refl
    twice (o ∷ os) = let e = known_data o.kind in let r = twice os in λ i. e i ∷ r i

-- the values of the columns of outputs have their kinds
pub columns_kinds : (k : ℕ) (outputs : List Output) → data_kinds (columns_from k outputs) ≡ map (λ o. data_kind (known o.kind)) outputs
columns_kinds k [] = refl
columns_kinds k (o ∷ outputs) = ap (λ ks. data_kind (known o.kind) ∷ ks) (columns_kinds (k + 1) outputs)

-- a field at its place
abbrev IsPlaced : List Field → ℕ × Field → Type 0
IsPlaced fields f = slice_get fields f.0 ≡ Some f.1

-- the fields with their places, from one of them on
numbered :
    (fields : List Field) (n : ℕ) (fs : List Field) → ((j : ℕ) → slice_get fields (n + j) ≡ slice_get fs j) →
    AllByRecursion (IsPlaced fields) (enumerate_from n fs)
numbered fields n [] h = tt
numbered fields n (f ∷ fs) h = (
  (let e : n ≡ n + 0 = omega arith in subst (λ m. slice_get fields m ≡ Some f) (sym e) (h 0)),
  numbered fields (n + 1) fs (λ j. let e : n + suc j ≡ n + 1 + j = omega arith in subst (λ m. slice_get fields m ≡ slice_get fs j) e (h (suc j))),
)

-- and from the first
all_numbered : (fields : List Field) → AllByRecursion (IsPlaced fields) (enumerate_from 0 fields)
all_numbered fields = numbered fields 0 fields (λ j. let e : 0 + j ≡ j = omega arith in ap (slice_get fields) e)

module _ (s : Scope) (setting : Setting) (ks : List Kind) (columns : Fits s setting ks) where
  -- one more column of a star
  owned_gives :
      (at : ℕ) (f : ℕ × Field) (others : List (ℕ × Field)) (b : Bool) → IsPlaced s.fields f →
      (flat_map (λ g. place_faults setting at (Some g.0)) others ≡ [] → AllByRecursion (Gives ks) (map (star_output setting) others)) →
      flat_map (λ g. place_faults setting at (Some g.0)) ((if b then f ∷ [] else []) ++ others) ≡ [] →
      AllByRecursion (Gives ks) (map (star_output setting) ((if b then f ∷ [] else []) ++ others))
  owned_gives at f others true p rest h =
      let q = none_of (place_faults setting at (Some f.0)) (flat_map (λ g. place_faults setting at (Some g.0)) others) h in
      (record { kind = columns at f.0 f.1 p q.0; is_known = refl }, rest q.1)
  owned_gives at f others false p rest h = rest h

  -- the columns of a star
  placed_gives :
      (at : ℕ) (qualifier : Option (List ℕ)) (fs : List (ℕ × Field)) → AllByRecursion (IsPlaced s.fields) fs →
      flat_map (λ f. place_faults setting at (Some f.0)) (flat_map (if_owned qualifier) fs) ≡ [] →
      AllByRecursion (Gives ks) (map (star_output setting) (flat_map (if_owned qualifier) fs))
  placed_gives at qualifier [] p h = tt
  placed_gives at qualifier (f ∷ fs) p h = owned_gives at f (flat_map (if_owned qualifier) fs) (is_owner qualifier f.1.owner) p.0 (λ g. placed_gives at qualifier fs p.1 g) h

  -- one item
  item_gives :
      (n : ℕ) (item : ItemTree) → item_faults s setting item ≡ [] → StandsAt (written_kind s) ks n (item_written item) →
      AllByRecursion (Gives ks) (item_outputs s setting n item)
  item_gives n (ItemTree.star at) h w = placed_gives at None (enumerate_from 0 s.fields) (all_numbered s.fields) h
  item_gives n (ItemTree.star_of at qualifier) h w =
      placed_gives at (Some qualifier) (enumerate_from 0 s.fields) (all_numbered s.fields)
      (none_of (if knows_owner s (Some qualifier) then [] else fault.UnknownTable at ∷ []) (star_faults s setting at (Some qualifier)) h).1
  item_gives n (ItemTree.value e alias) h w = (record { kind = term_is s setting ks columns n 0 e h w; is_known = term_known s setting 0 e h }, tt)

  -- Items give their outputs over a row in which the columns and the aggregates stand with their kinds.
  pub items_give :
      (n : ℕ) (items : List ItemTree) → items_faults s setting items ≡ [] → StandsAt (written_kind s) ks n (items_written items) →
      AllByRecursion (Gives ks) (outputs_from s setting n items)
  items_give n [] h w = tt
  items_give n (item ∷ items) h w =
      let p = none_of (item_faults s setting item) (items_faults s setting items) h in
      let u = stands_parts (written_kind s) ks n (item_written item) (items_written items) w in
      all_both (Gives ks) (item_outputs s setting n item) (outputs_from s setting (n + length (item_written item)) items)
      (item_gives n item p.0 u.0) (items_give (n + length (item_written item)) items p.1 u.1)
