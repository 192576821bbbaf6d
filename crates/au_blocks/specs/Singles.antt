-- Columns of single values, and blocks of a single alternative.
use Rattle.std.specs.Prelude.{◌≡◌, ◌<◌, ◌==◌, ◌&&◌, ℕ, Bool, List, Some, length, map, not, slice_get, get_or}
use Rattle.au_value.specs.declared.value.Value.{Value}
use Rattle.au_value.specs.Ranges.{certain}
use Rattle.au_blocks.specs.Blocks.{Candidate, Choices, Copies, once}
use Rattle.au_blocks.specs.Laid.{alternative_at}

-- each of some alternatives has one of these values in a column, and no other one in any world
abbrev pub HaveValues : List Candidate → ℕ → List Value → Type 0
HaveValues rows j values = map (λ a. slice_get a.cells j) rows ≡ map (λ v. Some (certain v)) values

-- the first alternatives have these copies, and each of the others stands once
abbrev pub HaveCopies : List Candidate → List Copies → Type 0
HaveCopies rows copies = (i : ℕ) → i < length rows → (alternative_at rows i).copies ≡ get_or copies i once

-- whether this is one copy in every world
abbrev pub is_once : Copies → Bool
is_once c = (c.least == 1) && (c.guess == 1) && (c.most == 1)

-- whether the block is one alternative that stands once, in every world: so it is the guess, too
abbrev pub stands_once : Choices → Bool
stands_once b = (length b.alternatives == 1) && not b.optional && is_once (alternative_at b.alternatives 0).copies
