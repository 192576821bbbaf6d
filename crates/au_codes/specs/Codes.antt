-- Values as whole numbers: a number stands for itself, a flag for 1 or 0, and a text for the number that a code of texts
-- gives it. A row of such numbers, a row of cells, has no kinds, and its cells have one order.
use Rattle.std.specs.Prelude.{◌≡◌, ℕ, Bool, true, List, map, ℤ, pos, if◌then◌else◌}
use Rattle.std.specs.List.{AllByRecursion}
use Rattle.std.specs.Ordering.{nat_cmp, int_cmp, is_le}
use Rattle.std.specs.Cmp.Lexicographic.{slice_cmp}
use Rattle.au_value.specs.Numeral.{is_i128}
use Rattle.au_value.specs.declared.value.Value.{Value}
use Rattle.au_value.specs.declared.value.Value.TheVariants.{Int, Text, Flag}
use Rattle.au_algebra.specs.Ordinary.{Rows}

-- A code of texts: which texts it knows, and the number of each. Of a text that it doesn't know the number says nothing.
pub record Code : Type 0 where
  pub knows : List ℕ → Bool
  pub number : List ℕ → ℤ

-- whether the first text, and the first number, is at most the second
abbrev pub text_at_most : List ℕ → List ℕ → Bool
text_at_most s t = is_le (slice_cmp nat_cmp s t)

abbrev pub number_at_most : ℤ → ℤ → Bool
number_at_most a b = is_le (int_cmp a b)

-- The code keeps the order of the texts that it knows, in numbers of 128 bits. All that is said of codes below rests on
-- these facts alone.
pub record KeepsOrder (c : Code) : Type 0 where
  pub injective : (s t : List ℕ) → c.knows s ≡ true → c.knows t ≡ true → c.number s ≡ c.number t → s ≡ t
  pub monotone : (s t : List ℕ) → c.knows s ≡ true → c.knows t ≡ true → text_at_most s t ≡ true → number_at_most (c.number s) (c.number t) ≡ true
  pub fits : (s : List ℕ) → c.knows s ≡ true → is_i128 (c.number s) ≡ true

-- the number of a flag
abbrev pub flag : Bool → ℤ
flag b = if b then pos 1 else pos 0

-- the number that stands for a value
abbrev pub code : Code → Value → ℤ
code c (Int n) = n
code c (Text w) = c.number w
code c (Flag b) = flag b

-- a row, and rows, of cells
abbrev pub Cells : Type 0
Cells = List ℤ

abbrev pub CellRows : Type 0
CellRows = List (List ℤ)

-- the cells of a row, of rows and of tables
abbrev pub coded_row : Code → List Value → Cells
coded_row c row = map (code c) row

abbrev pub coded_rows : Code → Rows → CellRows
coded_rows c rows = map (coded_row c) rows

abbrev pub coded_tables : Code → List Rows → List CellRows
coded_tables c ts = map (coded_rows c) ts

-- the code knows the value, if it is a text
abbrev pub Knows : Code → Value → Type 0
Knows c (Int n) = Unit {0}
Knows c (Text w) = c.knows w ≡ true
Knows c (Flag b) = Unit {0}

-- the code knows each text of a row, of rows and of tables
abbrev pub KnowsRow : Code → List Value → Type 0
KnowsRow c row = AllByRecursion (Knows c) row

abbrev pub KnowsRows : Code → Rows → Type 0
KnowsRows c rows = AllByRecursion (KnowsRow c) rows

abbrev pub KnowsTables : Code → List Rows → Type 0
KnowsTables c ts = AllByRecursion (KnowsRows c) ts
