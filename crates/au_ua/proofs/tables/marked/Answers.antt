-- The rows of what is marked, whose certain copies are no more than the guess.
use Rattle.std.proofs.Common.{◌≡◌, ◌∷◌, [], ℕ, Some, refl, sym, ◌∙◌, ap}
use Rattle.std.specs.Prelude.{slice_get}
use Rattle.au_value.specs.Ranges.{guesses}
use Rattle.au_annot.specs.Pairs.{pair_of}
use Rattle.au_blocks.specs.Blocks.{Candidate, Choices, Copies}
use Rattle.au_algebra.specs.Entries.{entry}
use Rattle.au_ua.specs.UaTables.{block_rows, certain_copies, with_copies}
use Rattle.au_ua.proofs.BlockCounts.{certain_guess}
use Rattle.au_ua.proofs.tables.marked.Goals as goal

-- the row of a block whose marked choice is an alternative
marked_row : (b : Choices) (at : ℕ) (a : Candidate) → b.guess ≡ Some at → slice_get b.alternatives at ≡ Some a → block_rows b ≡ with_copies (entry (guesses a.cells) (pair_of (certain_copies b) a.copies.guess) ∷ [])
marked_row b at a marked is = rw (marked, is) refl

pub pair-pair-requires : goal.pair-pair-requires
pair-pair-requires c =
    let b = c.args.block.now in
    let at = c.in-Some.at in
    let place = ap (λ xs. slice_get xs at) (sym c.alternatives.ensures.of) ∙ c.get-alternative.ensures in
    let guess = c.guess-2.ensures.of ∙ ap (λ (n : Copies). n.guess) c.times.ensures.of in
    rw (c.certain_copies.ensures, guess) (certain_guess b c.alternatives.ensures.is_block at c.get-alternative.result place)

pub returns : goal.returns
returns c =
    let b = c.args.block.now in
    let at = c.in-Some.at in
    let a = c.get-alternative.result in
    let marked = sym c.guess.ensures.of ∙ c.in-Some.is in
    let place = ap (λ xs. slice_get xs at) (sym c.alternatives.ensures.of) ∙ c.get-alternative.ensures in
    let guess = c.guess-2.ensures.of ∙ ap (λ (n : Copies). n.guess) c.times.ensures.of in
    let pair = c.pair-pair.ensures ∙ (λ i. pair_of (c.certain_copies.ensures i) (guess i)) in
    let rows = marked_row b at a marked place ∙ (λ i. with_copies (entry (guesses a.cells) (sym pair i) ∷ [])) in
    c.if_copies.ensures ∙ sym rows
