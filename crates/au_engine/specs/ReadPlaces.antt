-- The places that are read of the encoded rows of a table.
use Rattle.std.specs.Prelude.{ℕ, ◌+◌, ◌*◌, List, Option, Some, None, Vec}
use Rattle.std.specs.List.{range_with_len}
use Rattle.std.specs.declared.alloc.Global.{Global}

-- of a table of so many columns: all, where none are named
abbrev pub places_in : ℕ → Option (Vec ℕ Global) → List ℕ
places_in columns None = range_with_len 0 (3 * columns + 3)
places_in columns (Some places) = places.items
