-- Rows by the guesses of their keys: the groups that are held, and what stands beside a list of values.
use Rattle.std.specs.Prelude.{◌≡◌, List, [], ◌∷◌, map, Vec, if◌then◌else◌}
use Rattle.std.specs.declared.alloc.Global.{Global}
use Rattle.au_value.specs.declared.value.Value.{Value}
use Rattle.au_value.specs.Lists.{distinct}
use Rattle.au_algebra.specs.Bounded.{RangeRow, Bounded}
use Rattle.au_algebra.specs.Keys.{groups_by, key_values}
use Rattle.au_algebra.specs.Lists.{same_row}
use Rattle.au_algebra.specs.Ordinary.{Rows}
use Rattle.au_kfull.specs.declared.same_guesses.ByGuesses.{ByGuesses}

abbrev pub groups_held : List (Vec RangeRow Global) → List Bounded
groups_held held = map (λ group. group.items) held

-- the group beside a key, and no row where there is no such key
abbrev pub beside : Rows → List Bounded → List Value → Bounded
beside [] groups values = []
beside (k ∷ keys) [] values = []
beside (k ∷ keys) (group ∷ groups) values = if same_row values k then group else beside keys groups values

-- the distinct keys of the rows, and the rows of each
pub record IsByGuesses (key : RangeRow → List Value) (rows : Bounded) (index : ByGuesses) : Type 0 where
  pub keys : key_values index.seen.keys ≡ distinct same_row (map key rows)
  pub groups : groups_held index.groups.items ≡ groups_by key rows
