-- The row of a block in the guess world.
use Rattle.std.specs.Prelude.{◌≡◌, ◌==◌, ℕ, List, [], ◌∷◌, ◌++◌, filter_map, not, slice_get, Some}
use Rattle.std.proofs.Common.{◌∙◌, ap, refl}
use Rattle.std.proofs.lemmas.List.Elements.{filter-append, filter_map-append}
use Rattle.au_value.specs.Ranges.{guesses}
use Rattle.au_blocks.specs.Blocks.{Candidate, Choices}
use Rattle.au_blocks.specs.Worlds.{guess_choice}
use Rattle.au_algebra.specs.Counted.{CountedRow, occurring}
use Rattle.au_algebra.specs.Entries.{entry}
use Rattle.au_translate.specs.Translate.{counted_row, guessed_blocks}

-- of one whose marked choice is an alternative
pub marked_row : (b : Choices) (at : ℕ) (a : Candidate) → b.guess ≡ Some at → slice_get b.alternatives at ≡ Some a
    → guessed_blocks (b ∷ []) ≡ occurring (entry (guesses a.cells) a.copies.guess ∷ [])
marked_row b at a marked is = rw (marked, is) refl

-- of blocks that are put together
pub guessed_apart : (xs ys : List Choices) → guessed_blocks (xs ++ ys) ≡ guessed_blocks xs ++ guessed_blocks ys
guessed_apart xs ys =
    let row = λ (b : Choices). counted_row (guess_choice b) in
    ap occurring (filter_map-append row xs ys) ∙ filter-append (λ (r : CountedRow). not (r.annot == 0)) (filter_map row xs) (filter_map row ys)
