-- The guess world of block tables is one of their worlds: each block offers its marked choice.
use Rattle.std.specs.Prelude.{◌≡◌, ℕ, zero, suc, ◌<◌, true, List, [], ◌∷◌, length, map, slice_get, Option, Some, None}
use Rattle.std.specs.List.{AllByRecursion, AllZip, list_all}
use Rattle.std.proofs.Common.{arith, refl, sym, subst}
use Rattle.std.proofs.lemmas.Bool.{and_parts, and_from, true≢false}
use Rattle.au_value.specs.declared.kinds.Kind.{Kind}
use Rattle.au_value.specs.Order.{at_most}
use Rattle.au_value.specs.Ranges.{Span, holds, all_hold, guesses}
use Rattle.au_blocks.specs.Blocks.{Candidate, Choices, IsBlock, IsCopies, MayMark}
use Rattle.au_blocks.specs.Tables.{BlockTable, IsBlockTable, column_kinds, fits_kinds, is_range_of}
use Rattle.au_blocks.specs.Worlds.{Allows, IsWorld, Offers, guess_choice, guess_world, taken}

-- a row that fits its kinds holds its guesses
guesses_held : (ks : List Kind) (cells : List Span) → fits_kinds ks cells ≡ true → all_hold cells (guesses cells) ≡ true
guesses_held [] [] fit = refl
guesses_held [] (c ∷ cells) fit = absurd (true≢false (sym fit))
guesses_held (k ∷ ks) [] fit = absurd (true≢false (sym fit))
guesses_held (k ∷ ks) (c ∷ cells) fit =
    let parts = and_parts (is_range_of k c) (fits_kinds ks cells) fit in
    let upper = and_parts _ (at_most c.sg c.hi) parts.0 in
    let lower = and_parts _ (at_most c.lo c.sg) upper.0 in
    and_from (holds c c.sg) (all_hold cells (guesses cells)) (and_from (at_most c.lo c.sg) (at_most c.sg c.hi) lower.1 upper.1) (guesses_held ks cells parts.1)

module _ (ks : List Kind) where
  -- the alternative at a place, which fits, and whose copies are in order
  pub record Found (alternatives : List Candidate) (i : ℕ) : Type 0 where
    pub of : Candidate
    pub there : slice_get alternatives i ≡ Some of
    pub fits : fits_kinds ks of.cells ≡ true
    pub copies : IsCopies of.copies

  found : (alternatives : List Candidate) (i : ℕ) → i < length alternatives → list_all (λ a. fits_kinds ks a.cells) alternatives ≡ true
      → AllByRecursion (λ a. IsCopies a.copies) alternatives → Found alternatives i
  found [] i within fit copies = absurd (omega arith)
  found (a ∷ rest) zero within fit copies =
      record { of = a; there = refl; fits = (and_parts (fits_kinds ks a.cells) (list_all (λ b. fits_kinds ks b.cells) rest) fit).0; copies = copies.0 }
  found (a ∷ rest) (suc i) within fit copies =
      let later = found rest i (omega arith) (and_parts (fits_kinds ks a.cells) (list_all (λ b. fits_kinds ks b.cells) rest) fit).1 copies.1 in
      record { of = later.of; there = later.there; fits = later.fits; copies = later.copies }

  -- an alternative allows its guesses, as often as is guessed
  allows_guesses : (a : Candidate) (i : ℕ) → fits_kinds ks a.cells ≡ true → IsCopies a.copies → Allows a (taken i (guesses a.cells) a.copies.guess)
  allows_guesses a i fit copies = record { row = guesses_held ks a.cells fit; least = copies.least_guess; most = copies.guess_most }

  offers_mark : (b : Choices) (mark : Option ℕ) → b.guess ≡ mark → MayMark b mark → list_all (λ a. fits_kinds ks a.cells) b.alternatives ≡ true
      → AllByRecursion (λ a. IsCopies a.copies) b.alternatives → Offers b (guess_choice b)
  offers_mark b (Some i) is may fit copies =
      let at = found b.alternatives i may fit copies in
      let chosen : guess_choice b ≡ Some (taken i (guesses at.of.cells) at.of.copies.guess) = rw (is, at.there) refl in
      subst (Offers b) (sym chosen) (record { of = at.of; found = at.there; allows = allows_guesses at.of i at.fits at.copies })
  offers_mark b None is may fit copies =
      let absent : guess_choice b ≡ None = rw is refl in
      subst (Offers b) (sym absent) may

  blocks_offer : (bs : List Choices) → AllByRecursion IsBlock bs → list_all (λ b. list_all (λ a. fits_kinds ks a.cells) b.alternatives) bs ≡ true → AllZip Offers bs (map guess_choice bs)
  blocks_offer [] ok fit = _
  blocks_offer (b ∷ bs) ok fit =
      let parts = and_parts (list_all (λ a. fits_kinds ks a.cells) b.alternatives) (list_all (λ c. list_all (λ a. fits_kinds ks a.cells) c.alternatives) bs) fit in
      (offers_mark b b.guess refl ok.0.guess parts.0 ok.0.copies, blocks_offer bs ok.1 parts.1)

pub guess_world_is_world : (ts : List BlockTable) → AllByRecursion IsBlockTable ts → IsWorld ts (guess_world ts)
guess_world_is_world [] ok = _
guess_world_is_world (t ∷ ts) ok = (blocks_offer (column_kinds t) t.blocks ok.0.blocks ok.0.table.rows, guess_world_is_world ts ok.1)
