-- Keys that are known, and what a search for one finds.
use Rattle.std.specs.Prelude.{◌≡◌, ℕ, true, false, List, Option, None, Some}
use Rattle.std.specs.List.{list_any}
use Rattle.au_codes.specs.Codes.{Cells, CellRows}
use Rattle.au_codes.specs.CellMeaning.{same_cells}
use Rattle.au_folds.specs.Places.{place_of}

-- the key columns, and the keys in the order in which they are first seen
pub record Known : Type 0 where
  pub columns : List ℕ
  pub keys : CellRows

abbrev pub known_with : List ℕ → CellRows → Known
known_with columns keys = record { columns = columns; keys = keys }

-- the place of a key that is among them, and none of another
abbrev pub Finds : CellRows → Cells → Option ℕ → Type 0
Finds keys key None = list_any (same_cells key) keys ≡ false
Finds keys key (Some place) = (list_any (same_cells key) keys ≡ true) × (place ≡ place_of keys key)
