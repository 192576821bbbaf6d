-- The keys of a set of rows of values, by their values.
use Rattle.std.specs.Prelude.{◌≡◌, ◌+◌, ℕ, Bool, true, false, cond, not, ◌&&◌, ◌||◌, List, [], ◌∷◌, ◌++◌, length, nat_lt, position, Option, None, Some, unwrap_or, Vec}
use Rattle.std.specs.declared.alloc.Global.{Global}
use Rattle.std.specs.List.{list_any, position_or_len}
use Rattle.std.specs.Cmp.Lexicographic.{pointwise}
use Rattle.std.proofs.Common.{refl, sym, ◌∙◌, ap}
use Rattle.std.proofs.lemmas.List.{map-append}
use Rattle.indexmap.specs.IndexSet.{insert_key}
use Rattle.au_value.specs.contracts.value.ValuePartialEq.TheImpl.{ghosts}
use Rattle.au_value.specs.declared.value.Value.{Value}
use Rattle.au_value.proofs.ValueEquality.{value_eq}
use Rattle.au_algebra.specs.Keys.{key_values}
use Rattle.au_algebra.specs.Lists.{same_row}

abbrev pub Key : Type 0
Key = Vec Value Global

abbrev pub key_eq : Key → Key → Bool
key_eq x y = pointwise ghosts.eq x.items y.items

pub values_eq : (xs ys : List Value) → pointwise ghosts.eq xs ys ≡ same_row xs ys
values_eq [] [] = refl
values_eq [] (y ∷ ys) = refl
values_eq (x ∷ xs) [] = refl
values_eq (x ∷ xs) (y ∷ ys) = λ i. value_eq x y i && values_eq xs ys i

-- the first of the keys that has some values
pub any_values : (q : List Value) (ks : List Key) → list_any (λ (k : Key). pointwise ghosts.eq q k.items) ks ≡ list_any (same_row q) (key_values ks)
any_values q [] = refl
any_values q (x ∷ ks) = λ i. values_eq q x.items i || any_values q ks i

pub first_place : (q : List Value) (ks : List Key) → position_or_len (λ (k : Key). pointwise ghosts.eq q k.items) ks ≡ position_or_len (same_row q) (key_values ks)
first_place q [] = refl
first_place q (x ∷ ks) = λ i. cond (not (values_eq q x.items i)) (1 + first_place q ks i) 0

pub position_key : (k : Key) (ks : List Key) → position_or_len (key_eq k) ks ≡ position_or_len (same_row k.items) (key_values ks)
position_key k ks = first_place k.items ks

pub insert_values : (k : Key) (ks : List Key) → key_values (insert_key key_eq ks k) ≡ insert_key same_row (key_values ks) k.items
insert_values k ks =
    rw (any_values k.items ks)
    (elim (list_any (same_row k.items) (key_values ks)) as (λ b. key_values (cond b ks (ks ++ k ∷ [])) ≡ cond b (key_values ks) (key_values ks ++ k.items ∷ [])) [
      | true ↦ refl
      | false ↦ map-append (λ (key : Key). key.items) ks (k ∷ [])
    ])

chosen : (b : Bool) (a place : ℕ) → Some place ≡ cond b (Some a) None → place ≡ a
chosen true a place is = ap (λ (o : Option ℕ). unwrap_or o 0) is
chosen false a place is = cc

-- the place of a key that was found
pub known : (q : List Value) (ks : List Key) (place : ℕ) → true ≡ list_any (λ (k : Key). pointwise ghosts.eq q k.items) ks → Some place ≡ position (λ (k : Key). pointwise ghosts.eq q k.items) ks
    → (list_any (same_row q) (key_values ks) ≡ true) × (place ≡ position_or_len (same_row q) (key_values ks))
known q ks place seen at =
    let first = position_or_len (λ (k : Key). pointwise ghosts.eq q k.items) ks in
    (sym (seen ∙ any_values q ks), chosen (nat_lt first (length ks)) first place at ∙ first_place q ks)
