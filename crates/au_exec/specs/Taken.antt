-- The next of some rows that are taken one after the other.
-- A batch of them has a row, and at most 256.
use Rattle.std.specs.Prelude.{◌≡◌, ◌<◌, ◌≤◌, List, [], ◌++◌, length, Option, None, Some, Vec, IfSome}
use Rattle.std.specs.declared.alloc.Global.{Global}
use Rattle.au_exec.specs.HeldRows.{rows_of}
use Rattle.au_algebra.specs.Ordinary.{Rows}
use Rattle.au_value.specs.declared.value.Value.{Value}

abbrev pub chunk_items : Option (Vec (Vec Value Global) Global) → List (Vec Value Global)
chunk_items None = []
chunk_items (Some rows) = rows.items

-- between one row and 256
abbrev pub HasSize : List (Vec Value Global) → Type 0
HasSize rows = (0 < length rows) × (length rows ≤ 256)

abbrev pub IsBatch : Vec (Vec Value Global) Global → Type 0
IsBatch rows = HasSize rows.items

-- the rows before are those that were taken and those after, and where none was taken there is none
pub record Taken (before after : List (Vec Value Global)) (chunk : Option (Vec (Vec Value Global) Global)) : Type 0 where
  pub items : before ≡ chunk_items chunk ++ after
  pub ends : chunk ≡ None → after ≡ []
  pub batch : IfSome chunk IsBatch

-- the rows of a chunk, and none at the end
abbrev pub chunk_rows : Option (Vec (Vec Value Global) Global) → Rows
chunk_rows None = []
chunk_rows (Some rows) = rows_of rows
