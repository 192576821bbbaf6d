-- A block table as a bounded relation, one row for each block that may have copies,
-- and as the counted rows of the guess world.
use Rattle.std.specs.Prelude.{ℕ, pos, Option, List, [], ◌∷◌, map, filter_map, fold, min, max, slice_get, unwrap_or, option_map, if◌then◌else◌}
use Rattle.std.specs.List.{enumerate_from}
use Rattle.au_value.specs.declared.value.Value.{Value}
use Rattle.au_value.specs.declared.value.Value.TheVariants.{Int}
use Rattle.au_value.specs.Ranges.{Span, range, certain, guesses}
use Rattle.au_annot.specs.Triples.{Counts, counts}
use Rattle.au_blocks.specs.Blocks.{Candidate, candidate, Choices, once}
use Rattle.au_blocks.specs.Tables.{BlockTable}
use Rattle.au_blocks.specs.Worlds.{Taken, TableWorld, guess_choice}
use Rattle.au_algebra.specs.Counted.{CountedRow, occurring}
use Rattle.au_algebra.specs.Entries.{entry}
use Rattle.au_algebra.specs.Lists.{least, greatest}
use Rattle.au_algebra.specs.Bounded.{RangeRow, Bounded, present}

-- the marked alternative, and the first where absence is marked
abbrev pub marked_or_first : Choices → Candidate
marked_or_first b = unwrap_or (slice_get b.alternatives (unwrap_or b.guess 0)) (candidate [] once)

-- the range in a column of an alternative, and its ends
abbrev pub candidate_cell : ℕ → Candidate → Span
candidate_cell j a = unwrap_or (slice_get a.cells j) (certain (Int (pos 0)))

abbrev pub low_at : ℕ → Candidate → Value
low_at j a = (candidate_cell j a).lo

abbrev pub high_at : ℕ → Candidate → Value
high_at j a = (candidate_cell j a).hi

-- the range in a column over some alternatives, with this guess
abbrev pub span_in : List Candidate → ℕ → Value → Span
span_in alternatives j v = range (least (map (low_at j) alternatives)) v (greatest (map (high_at j) alternatives))

-- per column the least and the greatest over the alternatives, with the guess that is shown
abbrev pub ranges_of : Choices → List Span
ranges_of b = map (λ p. span_in b.alternatives p.0 p.1) (enumerate_from 0 (guesses (marked_or_first b).cells))

-- the least and the greatest of some numbers, and 0 of none
abbrev pub least_number : List ℕ → ℕ
least_number [] = 0
least_number (n ∷ ns) = fold min n ns

abbrev pub greatest_number : List ℕ → ℕ
greatest_number ns = fold max 0 ns

-- the copies that are guessed: those of the marked alternative, and none where absence is marked
abbrev pub guessed_copies : Choices → ℕ
guessed_copies b = unwrap_or (option_map (λ i. (marked_or_first b).copies.guess) b.guess) 0

-- the fewest copies over the choices that the block offers, those guessed, and the most
abbrev pub triple_of : Choices → Counts
triple_of b =
    counts (if b.optional then 0 else least_number (map (λ a. a.copies.least) b.alternatives)) (guessed_copies b)
    (greatest_number (map (λ a. a.copies.most) b.alternatives))

-- a block becomes one row, unless it has no copies in any world
abbrev pub block_row : Choices → RangeRow
block_row b = entry (ranges_of b) (triple_of b)

abbrev pub bounded_blocks : List Choices → Bounded
bounded_blocks bs = present (map block_row bs)

abbrev pub bounded_table : BlockTable → Bounded
bounded_table t = bounded_blocks t.blocks

-- the marked choices
abbrev pub guess_choices : BlockTable → TableWorld
guess_choices t = map guess_choice t.blocks

-- the rows of the guess world, each with its number of copies
abbrev pub counted_row : Option Taken → Option CountedRow
counted_row choice = option_map (λ t. entry t.row t.count) choice

abbrev pub guessed_blocks : List Choices → List CountedRow
guessed_blocks bs = occurring (filter_map (λ b. counted_row (guess_choice b)) bs)

abbrev pub guessed_table : BlockTable → List CountedRow
guessed_table t = guessed_blocks t.blocks
