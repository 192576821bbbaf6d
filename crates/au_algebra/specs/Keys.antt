-- Rows of values that are keys: the keys of a set, and items in groups by a key.
use Rattle.std.specs.Prelude.{ℕ, zero, suc, List, [], ◌∷◌, ◌++◌, filter, map, Vec}
use Rattle.std.specs.declared.alloc.Global.{Global}
use Rattle.au_value.specs.declared.value.Value.{Value}
use Rattle.au_value.specs.Lists.{distinct}
use Rattle.au_algebra.specs.Lists.{same_row}
use Rattle.au_algebra.specs.Ordinary.{Rows}

abbrev pub key_values : List (Vec Value Global) → Rows
key_values keys = map (λ key. key.items) keys

-- the items whose key has these values
abbrev pub with_key : {A : Type 0} → (A → List Value) → List A → List Value → List A
with_key key items values = filter (λ x. same_row values (key x)) items

-- the items of each distinct key, where it is first seen
abbrev pub groups_by : {A : Type 0} → (A → List Value) → List A → List (List A)
groups_by key items = map (with_key key items) (distinct same_row (map key items))

-- one item more in the group at this place, which is a new one behind the others
abbrev pub with_item_at : {A : Type 0} → List (List A) → ℕ → A → List (List A)
with_item_at [] place x = (x ∷ []) ∷ []
with_item_at (group ∷ groups) zero x = (group ++ x ∷ []) ∷ groups
with_item_at (group ∷ groups) (suc place) x = group ∷ with_item_at groups place x
