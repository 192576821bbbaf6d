-- The worlds of block tables (Feng, Huber, Glavic, Kennedy, SIGMOD 2021: block-independent data, without probabilities):
-- a world makes one choice in each block.
use Rattle.std.specs.Prelude.{◌≡◌, ℕ, ◌≤◌, IsTrue, List, [], map, flat_map, zip, replicate, Option, Some, None, option_map, option_and_then, slice_get}
use Rattle.std.specs.List.{AllZip}
use Rattle.au_value.specs.declared.value.Value.{Value}
use Rattle.au_value.specs.Ranges.{all_hold, guesses}
use Rattle.au_blocks.specs.Blocks.{Candidate, Choices}
use Rattle.au_blocks.specs.Tables.{BlockTable}

-- an alternative by its number, a value for each of its cells, and a number of copies
pub record Taken : Type 0 where
  pub alternative : ℕ
  pub row : List Value
  pub count : ℕ

abbrev pub taken : ℕ → List Value → ℕ → Taken
taken i row count = record { alternative = i; row = row; count = count }

-- one choice for each block: what is taken, or `None` for absence
abbrev pub TableWorld : Type 0
TableWorld = List (Option Taken)

-- one choice for each block of each table
abbrev pub World : Type 0
World = List TableWorld

-- the alternative's ranges hold the values, and its least and greatest numbers the number of copies
pub record Allows (a : Candidate) (t : Taken) : Type 0 where
  pub row : IsTrue (all_hold a.cells t.row)
  pub least : a.copies.least ≤ t.count
  pub most : t.count ≤ a.copies.most

-- one of the block's alternatives allows what is taken
pub record IsTaken (b : Choices) (t : Taken) : Type 0 where
  pub of : Candidate
  pub found : slice_get b.alternatives t.alternative ≡ Some of
  pub allows : Allows of t

-- a choice that the block offers: what one of its alternatives allows, or absence where it is optional
abbrev pub Offers : Choices → Option Taken → Type 0
Offers b (Some t) = IsTaken b t
Offers b None = IsTrue b.optional

-- each block offers its choice
abbrev pub IsTableWorld : BlockTable → TableWorld → Type 0
IsTableWorld t w = AllZip Offers t.blocks w

-- a world of the tables
abbrev pub IsWorld : List BlockTable → World → Type 0
IsWorld ts w = AllZip IsTableWorld ts w

-- the chosen row, as often as it is taken
abbrev pub chosen : Option Taken → List (List Value)
chosen None = []
chosen (Some t) = replicate t.count t.row

-- the chosen rows, in block order
abbrev pub rows_in : List Choices → TableWorld → List (List Value)
rows_in bs w = flat_map (λ p. chosen p.1) (zip bs w)

-- each table's rows in the world
abbrev pub tables_in : List BlockTable → World → List (List (List Value))
tables_in ts w = map (λ p. rows_in p.0.blocks p.1) (zip ts w)

-- the marked choice: of an alternative its guesses, as often as is guessed
abbrev pub guess_choice : Choices → Option Taken
guess_choice b = option_and_then (λ i. option_map (λ a. taken i (guesses a.cells) a.copies.guess) (slice_get b.alternatives i)) b.guess

abbrev pub guess_world : List BlockTable → World
guess_world ts = map (λ t. map guess_choice t.blocks) ts
