-- The CSV text of a bounded answer: a header, and a record for each row, with three fields for the multiplicity and
-- three for each column. Records are written as the csv crate's writer writes them by default, each ended by LF.
use Rattle.std.specs.Prelude.{ℕ, zero, suc, ◌+◌, ◌/◌, ◌%◌, ◌^◌, ℤ, pos, negsuc, List, [], ◌∷◌, ◌++◌, flat_map, codes, decimal, true, false}
use Rattle.std.specs.Fmt.{signed_decimal}
use Rattle.csv.specs.Writing.{row_text, default_writer}
use Rattle.au_value.specs.declared.kinds.Kind.{Kind}
use Rattle.au_value.specs.declared.kinds.Kind.TheVariants as kind
use Rattle.au_value.specs.declared.value.Value.{Value}
use Rattle.au_value.specs.declared.value.Value.TheVariants.{Int, Text, Flag}
use Rattle.au_value.specs.Ranges.{Span}
use Rattle.au_annot.specs.Triples.{Counts}
use Rattle.au_algebra.specs.Bounded.{RangeRow, Bounded}

-- the last digits of a number, so many, with zeros before them where it has fewer
abbrev pub last_digits : ℕ → ℕ → List ℕ
last_digits zero n = []
last_digits (suc s) n = last_digits s (n / 10) ++ (48 + n % 10) ∷ []

-- a number of units of 10^-s: its whole part, a point and s digits
abbrev pub units_text : ℕ → ℕ → List ℕ
units_text s n = decimal (n / 10 ^ s) ++ codes "." ++ last_digits s n

-- the same behind `-` where it is negative
abbrev pub fixed_text : ℕ → ℤ → List ℕ
fixed_text s (pos n) = units_text s n
fixed_text s (negsuc n) = codes "-" ++ units_text s (suc n)

-- a number of a column of this kind
abbrev pub number_text : Kind → ℤ → List ℕ
number_text (kind.Dec scale) n = fixed_text scale n
number_text kind.Int n = signed_decimal n
number_text kind.Text n = signed_decimal n
number_text kind.Flag n = signed_decimal n

-- a value of a column of this kind: texts are printed as they are, and flags by their names
abbrev pub value_text : Kind → Value → List ℕ
value_text k (Int n) = number_text k n
value_text k (Text bytes) = bytes
value_text k (Flag true) = codes "true"
value_text k (Flag false) = codes "false"

-- the values of a row, in columns of these kinds
abbrev pub value_texts : List Kind → List Value → List (List ℕ)
value_texts (k ∷ kinds) (v ∷ values) = value_text k v ∷ value_texts kinds values
value_texts _ _ = []

-- a column's three names
abbrev pub three_names : List ℕ → List (List ℕ)
three_names name = (name ++ codes "_lo") ∷ name ∷ (name ++ codes "_hi") ∷ []

-- a range's three values
abbrev pub range_fields : Kind → Span → List (List ℕ)
range_fields k r = value_text k r.lo ∷ value_text k r.sg ∷ value_text k r.hi ∷ []

-- the ranges of a row, in columns of these kinds
abbrev pub cells_fields : List Kind → List Span → List (List ℕ)
cells_fields (k ∷ kinds) (r ∷ ranges) = range_fields k r ++ cells_fields kinds ranges
cells_fields _ _ = []

-- a triple's three counts
abbrev pub count_fields : Counts → List (List ℕ)
count_fields t = decimal t.least ∷ decimal t.guess ∷ decimal t.most ∷ []

abbrev pub header_fields : List (List ℕ) → List (List ℕ)
header_fields names = three_names (codes "row") ++ flat_map three_names names

abbrev pub row_fields : List Kind → RangeRow → List (List ℕ)
row_fields kinds r = count_fields r.annot ++ cells_fields kinds r.cells

-- a record as the writer writes it
unfoldable pub record_text : List (List ℕ) → List ℕ
record_text fields = row_text default_writer fields

-- the text of an answer with columns of these names and kinds and with these rows, in this order
abbrev pub csv_text : List (List ℕ) → List Kind → Bounded → List ℕ
csv_text names kinds rows = record_text (header_fields names) ++ flat_map (λ r. record_text (row_fields kinds r)) rows
