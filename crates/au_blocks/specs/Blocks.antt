-- Blocks of alternative rows: each row has a range in each column and numbers of copies.
use Rattle.std.specs.Prelude.{ℕ, ◌≤◌, ◌<◌, ◌^◌, Bool, IsTrue, List, length, Option, Some, None}
use Rattle.std.specs.List.{AllByRecursion}
use Rattle.au_value.specs.Ranges.{Span}

-- how many copies of a row there are at least, by the guess and at most
pub record Copies : Type 0 where
  pub least : ℕ
  pub guess : ℕ
  pub most : ℕ

abbrev pub copies_of : ℕ → ℕ → ℕ → Copies
copies_of least guess most = record { least = least; guess = guess; most = most }

abbrev pub once : Copies
once = copies_of 1 1 1

-- the numbers are in order, and at most 10^12
pub record IsCopies (c : Copies) : Type 0 where
  pub least_guess : c.least ≤ c.guess
  pub guess_most : c.guess ≤ c.most
  pub bounded : c.most ≤ 10 ^ 12

-- an alternative: a range for each column, and its copies
pub record Candidate : Type 0 where
  pub cells : List Span
  pub copies : Copies

abbrev pub candidate : List Span → Copies → Candidate
candidate cells copies = record { cells = cells; copies = copies }

-- the alternatives, whether there may be none, and the marked one; `None` marks absence
pub record Choices : Type 0 where
  pub alternatives : List Candidate
  pub optional : Bool
  pub guess : Option ℕ

abbrev pub choices : List Candidate → Bool → Option ℕ → Choices
choices rows optional guess = record { alternatives = rows; optional = optional; guess = guess }

-- a mark that the block may have: one of an alternative, or of absence where it is optional
abbrev pub MayMark : Choices → Option ℕ → Type 0
MayMark b (Some i) = i < length b.alternatives
MayMark b None = IsTrue b.optional

-- there is an alternative, the block has the marked choice, and the copies are in order
pub record IsBlock (b : Choices) : Type 0 where
  pub nonempty : 0 < length b.alternatives
  pub guess : MayMark b b.guess
  pub copies : AllByRecursion (λ a. IsCopies a.copies) b.alternatives
