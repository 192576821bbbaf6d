-- Blocks that are held as places among the alternatives of a table.
use Rattle.std.specs.Prelude.{◌≡◌, ◌+◌, ◌≤◌, List, ◌++◌, length, map, take, drop}
use Rattle.std.proofs.lemmas.List.{map-append}
use Rattle.au_blocks.specs.declared.extent.Extent.{Extent}
use Rattle.au_blocks.specs.Blocks.{Candidate, Choices, choices, IsBlock}

-- the block at a place
abbrev pub block_at : List Candidate → Extent → Choices
block_at rows e = choices (take e.count (drop e.first rows)) e.optional e.guess

-- the blocks of these places
abbrev pub held : List Candidate → List Extent → List Choices
held rows extents = map (block_at rows) extents

-- the place is one of a block among these alternatives
pub record IsWithin (rows : List Candidate) (e : Extent) : Type 0 where
  pub within : e.first + e.count ≤ length rows
  pub block : IsBlock (block_at rows e)

pub held_apart : (rows : List Candidate) (xs ys : List Extent) → held rows (xs ++ ys) ≡ held rows xs ++ held rows ys
held_apart rows xs ys = map-append (block_at rows) xs ys
