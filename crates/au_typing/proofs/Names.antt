-- What is found of a name.
use Rattle.std.proofs.Common.{◌≡◌, ℕ, ◌+◌, ◌-◌, ◌<◌, true, List, [], ◌∷◌, length, get_or, take, drop, Some, refl, arith}
use Rattle.std.specs.Prelude.{Contains}
use Rattle.std.specs.List.{list_any}
use Rattle.std.proofs.lemmas.List.{take_all, length-drop}
use Rattle.std.proofs.lemmas.Option.{slice_get_read}
use Rattle.au_parse.specs.declared.Name.{Name}
use Rattle.au_typing.specs.declared.scope.Field.{Field}
use Rattle.au_typing.specs.declared.fault.TypingFault.TheVariants as fault
use Rattle.au_typing.specs.Scopes.{Scope, is_meant, place_of, field_of, knows_owner, name_faults, then_faults}
use Rattle.au_typing.specs.declared.fault.TypingFault.{TypingFault}

-- another column behind the first
pub ambiguous : (s : Scope) (n : Name) (i : ℕ) → knows_owner s n.table ≡ true → place_of s n ≡ Some i → list_any (is_meant n) (take (length s.fields - (i + 1)) (drop (i + 1) s.fields)) ≡ true → Contains (name_faults s n) (fault.Ambiguous n.at)
ambiguous s n i knows place more =
    let all : take (length s.fields - (i + 1)) (drop (i + 1) s.fields) ≡ drop (i + 1) s.fields = take_all (length s.fields - (i + 1)) (drop (i + 1) s.fields) (omega (arith, length-drop (i + 1) s.fields)) in
    let there : list_any (is_meant n) (drop (i + 1) s.fields) ≡ true = rw (← all) more in
    rw (knows, place, there) (0, omega arith, refl)

-- the column at its place
pub field_at : (s : Scope) (n : Name) (i : ℕ) (f : Field) → place_of s n ≡ Some i → i < length s.fields → f ≡ get_or s.fields i f → field_of s n ≡ Some f
field_at s n i f place within is = rw place (slice_get_read s.fields (length s.fields) i f refl within is)

-- a fault of the first stage
pub then_contains : (fs more : List TypingFault) (f : TypingFault) → Contains fs f → Contains (then_faults fs more) f
then_contains [] more f there = absurd (omega (arith, there.1))
then_contains (g ∷ fs) more f there = there
