-- What makes a list of records no block table: all defects in one list, in the order in which they are judged.
-- Records are counted from 0, where record 0 is the header, and columns and blocks from 0.
use Rattle.std.specs.Prelude.{ℕ, ◌==◌, ◌&&◌, ◌||◌, not, Bool, true, List, [], ◌∷◌, ◌++◌, length, take, drop, map, Option, Some, None, option_to_list, is_some, is_none, if◌then◌else◌, count_by, position, flat_map, zip, nat_lt}
use Rattle.std.specs.List.{list_any, enumerate_from}
use Rattle.std.specs.Str.{str_eq_ignore_ascii_case}
use Rattle.au_value.specs.declared.kinds.Kind.{Kind}
use Rattle.au_csv.specs.Texts.{Record, not_text}
use Rattle.au_blocks.specs.declared.faults.TableFault.{TableFault}
use Rattle.au_blocks.specs.declared.faults.TableFault.TheVariants as fault
use Rattle.au_blocks.specs.Headers.{format_of, has_copies, cells_of, column_names, written_kinds, is_unknown}
use Rattle.au_blocks.specs.Entries.{BlockEntry, role_of, written_copies, is_marked, is_absent, alternatives, entry_blocks}
use Rattle.au_blocks.specs.declared.format.Format.{Format}
use Rattle.au_blocks.specs.declared.role.Role.{Role}
use Rattle.au_blocks.specs.Spellings.{value_written, range_written}

-- a defect where a test holds
abbrev pub where_true : Bool → TableFault → List TableFault
where_true test what = if test then what ∷ [] else []

-- whether a field is one of a column of this written kind: a value, or where records have copies a range of numbers
abbrev pub is_field : Format → Option Kind → List ℕ → Bool
is_field f None field = true
is_field f (Some k) field = is_some (value_written k field) || has_copies f && is_some (range_written k field)

-- the first column before this one with the same name, ignoring ASCII case
abbrev pub same_name : List (List ℕ) → ℕ → List ℕ → Option ℕ
same_name names b name = position (λ other. str_eq_ignore_ascii_case other name) (take b names)

-- the defects of a column with this name and header field
abbrev pub column_defects : Format → List (List ℕ) → ℕ × List ℕ × List ℕ → List TableFault
column_defects f names c =
    where_true (nat_lt 128 (length c.1)) (fault.BadColumnName c.0)
    ++ where_true (is_unknown f c.2) (fault.UnknownKind c.0)
    ++ map (λ a. fault.SameName a c.0) (option_to_list (same_name names c.0 c.1))

-- the defects of the header's columns, from the left
abbrev pub header_defects : Format → Record → List TableFault
header_defects f fields =
    let names = column_names f fields in
    where_true (nat_lt 64 (length fields)) fault.TooManyColumns
    ++ flat_map (λ c. column_defects f names (c.0, c.1.0, c.1.1)) (enumerate_from 0 (zip names fields))

-- the fields of an alternative that are no values of the written kinds
abbrev pub bad_fields : Format → ℕ → List (Option Kind) → Record → List TableFault
bad_fields f r written cells =
    flat_map (λ c. where_true (not (is_field f c.1.0 c.1.1)) (fault.BadField r c.0)) (enumerate_from 0 (zip written cells))

-- the defects of a record that is an alternative
abbrev pub alternative_defects : Format → ℕ → List (Option Kind) → Record → List TableFault
alternative_defects f n written r = where_true (is_none (written_copies f r)) (fault.BadTimes n) ++ bad_fields f n written (cells_of f r)

-- the defects of an absent record: nothing stands behind the label and the role
abbrev pub absence_defects : ℕ → Record → List TableFault
absence_defects n r = where_true (list_any (λ text. nat_lt 0 (length text)) (drop 2 r)) (fault.AbsentWithValues n)

-- the defects of a record with this role
abbrev pub role_defects : Format → ℕ → List (Option Kind) → Record → Option Role → List TableFault
role_defects f n written r None = fault.BadRole n ∷ []
role_defects f n written r (Some x) = if is_absent x then absence_defects n r else alternative_defects f n written r

-- the defects of a record under a header of this width, whose columns have these written kinds
abbrev pub record_defects : Format → ℕ → List (Option Kind) → ℕ × Record → List TableFault
record_defects f width written r =
    where_true (not (length r.1 == width)) (fault.WrongWidth r.0) ++ role_defects f r.0 written r.1 (role_of f r.1)

-- the defects of a block of these entries
abbrev pub block_defects : ℕ × List BlockEntry → List TableFault
block_defects b =
    where_true (nat_lt 1 (count_by (λ e. is_marked e.role) b.1)) (fault.TwoGuesses b.0)
    ++ where_true (count_by (λ e. is_marked e.role) b.1 == 0) (fault.NoGuess b.0)
    ++ where_true (length (alternatives b.1) == 0) (fault.OnlyAbsent b.0)
    ++ where_true (nat_lt 1 (count_by (λ e. is_absent e.role) b.1)) (fault.TwoAbsent b.0)

-- the defects of the records below the header, from the first
abbrev pub rows_defects : Format → ℕ → List (Option Kind) → List Record → List TableFault
rows_defects f width written rows = flat_map (record_defects f width written) (enumerate_from 1 rows)

-- the defects of the blocks, from the first
abbrev pub blocks_defects : List (List BlockEntry) → List TableFault
blocks_defects blocks = flat_map block_defects (enumerate_from 0 blocks)

-- the defects of a header and the records below it, but for their blocks
abbrev pub schema_defects : Record → List Record → List TableFault
schema_defects header rows =
    let f = format_of header in
    let fields = cells_of f header in
    header_defects f fields ++ rows_defects f (length header) (written_kinds fields) rows

abbrev pub table_defects : List Record → List TableFault
table_defects [] = fault.NoHeader ∷ []
table_defects (header ∷ rows) = schema_defects header rows ++ blocks_defects (entry_blocks (format_of header) rows)

-- all defects of these records
abbrev pub defects : List Record → List TableFault
defects rs = map fault.NotText (option_to_list (not_text rs)) ++ table_defects rs
