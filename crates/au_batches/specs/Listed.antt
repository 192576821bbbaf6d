-- What the rows of blocks have in a column of which a list of single values is held, one for each alternative.
use Rattle.std.specs.Prelude.{ℕ, ◌+◌, ◌≤◌, ◌<◌, IsTrue, List, [], length, map, take, drop, unwrap_or}
use Rattle.std.specs.List.{AllByRecursion}
use Rattle.au_value.specs.declared.value.Value.{Value}
use Rattle.au_value.specs.declared.value.Value.TheVariants.{Text}
use Rattle.au_blocks.specs.declared.extent.Extent.{Extent}
use Rattle.au_blocks.specs.Blocks.{Candidate}
use Rattle.au_blocks.specs.Singles.{HaveValues}
use Rattle.au_algebra.specs.Lists.{value_at}
use Rattle.au_codes.specs.TextCodes.{knows_text}
use Rattle.au_encode.specs.Encode.{encode_counts}
use Rattle.au_translate.specs.ColumnParts.{once_counts, part_of, span_over}

-- there are items for all alternatives of the block at this place, of which there are some, also for the marked one
pub record IsListed {X : Type 0} (items : List X) (e : Extent) : Type 0 where
  pub within : e.first + e.count ≤ length items
  pub some : 0 < e.count
  pub marked : unwrap_or e.guess 0 < e.count

-- the block's own
abbrev pub own : {X : Type 0} → List X → Extent → List X
own items e = take e.count (drop e.first items)

-- the least of the block's values, that of the marked alternative, or the greatest
abbrev pub listed_value : {X : Type 0} → (X → Value) → List X → ℕ → Extent → Value
listed_value make items part e = part_of part (span_over (map make (own items e)) e.guess)

-- a count of the block where its alternatives stand once, and 0 past the three
abbrev pub once_count : ℕ → Extent → Value
once_count number e = value_at (encode_counts (once_counts e.optional e.guess)) number

-- each alternative has a short text in the column, of which the code needs no book
pub record HasShort (alternatives : List Candidate) (j : ℕ) : Type 0 where
  pub texts : List (List ℕ)
  pub have : HaveValues alternatives j (map Text texts)
  pub short : AllByRecursion (λ w. IsTrue (knows_text [] w)) texts
