-- Keys in the order in which they are first seen, and the place of each one more.
use Rattle.std.specs.Prelude.{ℕ, List, [], ◌∷◌}
use Rattle.std.specs.List.{position_or_len}
use Rattle.indexmap.specs.IndexSet.{insert_key}
use Rattle.au_codes.specs.Codes.{Cells, CellRows}
use Rattle.au_codes.specs.CellMeaning.{same_cells}

-- a key's place, behind the others where it is new
abbrev pub place_of : CellRows → Cells → ℕ
place_of seen key = position_or_len (same_cells key) seen

-- the keys with one more, if it is new
abbrev pub seen_with : CellRows → Cells → CellRows
seen_with seen key = insert_key same_cells seen key

-- the keys after several more, and their places
abbrev pub seen_after : CellRows → CellRows → CellRows
seen_after seen [] = seen
seen_after seen (key ∷ keys) = seen_after (seen_with seen key) keys

abbrev pub places_among : CellRows → CellRows → List ℕ
places_among seen [] = []
places_among seen (key ∷ keys) = place_of seen key ∷ places_among (seen_with seen key) keys
