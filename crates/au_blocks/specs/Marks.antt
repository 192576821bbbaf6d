-- Which columns have numerals alone, as it is tested record by record.
use Rattle.std.specs.Prelude.{◌≡◌, ℕ, ◌+◌, ◌&&◌, Bool, List, [], ◌∷◌, ◌++◌}
use Rattle.std.specs.List.{list_all, list_any}
use Rattle.au_csv.specs.Texts.{Record}
use Rattle.au_blocks.specs.declared.format.Format.{Format}
use Rattle.au_blocks.specs.Inferring.{holds_numeral}

-- the marks of the columns from one on that are left by some records: each record takes those of the columns where it has no numeral
abbrev pub marks : Format → List Record → ℕ → List Bool → List Bool
marks f rows j [] = []
marks f rows j (b ∷ bs) = (b && list_all (holds_numeral f j) rows) ∷ marks f rows (j + 1) bs

-- whether a mark is left
abbrev pub any_mark : List Bool → Bool
any_mark marks = list_any (λ b. b) marks

-- some of the first records left these marks of others
pub record AreLeft (f : Format) (rows : List Record) (before after : List Bool) : Type 0 where
  pub read : List Record
  pub more : List Record
  pub front : rows ≡ read ++ more
  pub left : after ≡ marks f read 0 before
