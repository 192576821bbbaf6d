-- What a name of a SELECT means: one column of its FROM items, found by its own name and perhaps by that of its item.
-- Names are compared ignoring ASCII case.
use Rattle.std.specs.Prelude.{ℕ, ◌+◌, ◌&&◌, Bool, true, List, [], ◌∷◌, drop, Option, Some, None, option_and_then, option_map, slice_get, position, if◌then◌else◌}
use Rattle.std.specs.List.{list_any}
use Rattle.std.specs.Str.{str_eq_ignore_ascii_case}
use Rattle.au_value.specs.declared.kinds.Kind.{Kind}
use Rattle.au_parse.specs.declared.Name.{Name}
use Rattle.au_typing.specs.declared.scope.Field.{Field}
use Rattle.au_typing.specs.declared.fault.TypingFault.{TypingFault}
use Rattle.au_typing.specs.declared.fault.TypingFault.TheVariants as fault

-- the names under which the FROM items are visible, and their columns in FROM order
pub record Scope : Type 0 where
  pub owners : List (List ℕ)
  pub fields : List Field

-- a fault where a test holds
abbrev pub fault_if : Bool → TypingFault → List TypingFault
fault_if test what = if test then what ∷ [] else []

-- the faults, and those that are judged only where there are none
abbrev pub then_faults : List TypingFault → List TypingFault → List TypingFault
then_faults [] more = more
then_faults (f ∷ fs) more = f ∷ fs

-- whether an item of this visible name is meant, where a qualifier may be written
abbrev pub is_owner : Option (List ℕ) → List ℕ → Bool
is_owner None owner = true
is_owner (Some qualifier) owner = str_eq_ignore_ascii_case owner qualifier

-- whether a name may mean a column
abbrev pub is_meant : Name → Field → Bool
is_meant name field = is_owner name.table field.owner && str_eq_ignore_ascii_case field.name name.column

-- the place of the column, and the column
abbrev pub place_of : Scope → Name → Option ℕ
place_of scope name = position (is_meant name) scope.fields

abbrev pub field_of : Scope → Name → Option Field
field_of scope name = option_and_then (λ i. slice_get scope.fields i) (place_of scope name)

-- whether a FROM item is visible under the qualifier, where one is written
abbrev pub knows_owner : Scope → Option (List ℕ) → Bool
knows_owner scope None = true
knows_owner scope (Some qualifier) = list_any (λ owner. str_eq_ignore_ascii_case owner qualifier) scope.owners

-- no column, or another one behind the first
abbrev pub found_faults : Scope → Name → Option ℕ → List TypingFault
found_faults scope name None = fault.UnknownColumn name.at ∷ []
found_faults scope name (Some i) = fault_if (list_any (is_meant name) (drop (i + 1) scope.fields)) (fault.Ambiguous name.at)

-- what is wrong with a name
abbrev pub name_faults : Scope → Name → List TypingFault
name_faults scope name = if knows_owner scope name.table then found_faults scope name (place_of scope name) else fault.UnknownTable name.at ∷ []

-- the kind of the column, where nothing is wrong with the name
abbrev pub kind_unless : List TypingFault → Option Kind → Option Kind
kind_unless [] k = k
kind_unless (f ∷ fs) k = None

abbrev pub field_kind : Scope → Name → Option Kind
field_kind scope name = kind_unless (name_faults scope name) (option_map (λ f. f.kind) (field_of scope name))
