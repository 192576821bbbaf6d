-- The bytes of a file that is held, as far as they are told.
use Rattle.std.specs.Prelude.{ℕ, List, Option, None, is_some, option_and_then, if◌then◌else◌}

-- what is left of a held file, where there is one that tells it
abbrev pub held_left : {F : Type 0} → (F → Option (List ℕ)) → Option F → Option (List ℕ)
held_left remaining file = if is_some file then option_and_then remaining file else None
