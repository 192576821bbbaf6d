-- The records of a text, as the reader of `csv` takes them with a comma and a double quote, flexible and without a header row,
-- and the first of them that isn't text.
use Rattle.std.specs.Prelude.{ℕ, Bool, not, List, Option, Some, None, Result, Ok, Err, position}
use Rattle.std.specs.List.{list_all}
use Rattle.std.specs.Str.{is_utf8}
use Rattle.csv.specs.Reading.{default_config, records, strip_bom}
use Rattle.au_csv.specs.declared.faults.CsvFault.{CsvFault}
use Rattle.au_csv.specs.declared.faults.CsvFault.TheVariants as fault

-- a record: the list of its fields
abbrev pub Record : Type 0
Record = List (List ℕ)

-- the records of a text, behind one byte order mark where it begins with one
abbrev pub records_of : List ℕ → List Record
records_of bytes = records default_config (strip_bom bytes)

-- whether each field is UTF-8
abbrev pub is_text : Record → Bool
is_text r = list_all is_utf8 r

-- the number of the first record with a field that isn't UTF-8
abbrev pub not_text : List Record → Option ℕ
not_text rs = position (λ r. not (is_text r)) rs

-- records, unless one of them isn't text
abbrev pub unless_not_text : Option ℕ → List Record → Result (List Record) CsvFault
unless_not_text None rs = Ok rs
unless_not_text (Some r) rs = Err (fault.NotText r)

-- the records of a text, or the number of the first that isn't text
abbrev pub text_records : List ℕ → Result (List Record) CsvFault
text_records bytes = unless_not_text (not_text (records_of bytes)) (records_of bytes)
