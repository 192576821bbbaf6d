-- The header of a table file: the format, and the names and written kinds of its columns.
-- A header field is a column's name, or a name and a kind with a colon between them.
use Rattle.std.specs.Prelude.{ℕ, ◌+◌, ◌==◌, ◌&&◌, ◌||◌, Bool, true, false, List, [], ◌∷◌, ◌++◌, length, drop, map, Option, Some, None, option_and_then, option_map, is_some, is_none, slice_index_or, if◌then◌else◌, codes, decimal, bytes_eq}
use Rattle.std.specs.List.{before_last, after_last, list_any, starts_with, enumerate_from}
use Rattle.au_value.specs.declared.kinds.Kind.{Kind}
use Rattle.au_value.specs.declared.kinds.Kind.TheVariants as kind
use Rattle.au_csv.specs.Texts.{Record}
use Rattle.au_blocks.specs.declared.format.Format.{Format}
use Rattle.au_blocks.specs.declared.format.Format.TheVariants as format

-- the format that a header begins: of blocks, with numbers of copies or without, or else a plain table's
abbrev pub format_of : Record → Format
format_of header =
    if starts_with bytes_eq header (codes "_block" ∷ codes "_role" ∷ []) then if bytes_eq (slice_index_or header 2 []) (codes "_times") then format.Copies else format.Blocks
    else format.Plain

-- whether the records of a format have labels and roles, and whether they have numbers of copies
abbrev pub has_blocks : Format → Bool
has_blocks format.Plain = false
has_blocks format.Blocks = true
has_blocks format.Copies = true

abbrev pub has_copies : Format → Bool
has_copies format.Plain = false
has_copies format.Blocks = false
has_copies format.Copies = true

-- how many fields of a record stand before the columns
abbrev pub lead : Format → ℕ
lead format.Plain = 0
lead format.Blocks = 2
lead format.Copies = 3

-- the fields of a record that are columns' names or cells
abbrev pub cells_of : Format → Record → Record
cells_of f r = drop (lead f) r

abbrev pub is_colon : ℕ → Bool
is_colon b = b == 58

-- what stands before and behind the last colon of a field
abbrev pub cut : List ℕ → Option (List ℕ × List ℕ)
cut field = if list_any is_colon field then Some (before_last is_colon field, after_last is_colon field) else None

-- the scale of the fixed-point kind that a word names
abbrev pub scale_named : List ℕ → Option ℕ
scale_named word =
    if bytes_eq word (codes "dec1") then Some 1
    else if bytes_eq word (codes "dec2") then Some 2
    else if bytes_eq word (codes "dec3") then Some 3
    else if bytes_eq word (codes "dec4") then Some 4
    else if bytes_eq word (codes "dec5") then Some 5
    else if bytes_eq word (codes "dec6") then Some 6
    else if bytes_eq word (codes "dec7") then Some 7
    else if bytes_eq word (codes "dec8") then Some 8
    else if bytes_eq word (codes "dec9") then Some 9
    else None

-- the kind that a word names
abbrev pub kind_named : List ℕ → Option Kind
kind_named word =
    if bytes_eq word (codes "int") then Some kind.Int
    else if bytes_eq word (codes "text") then Some kind.Text
    else if bytes_eq word (codes "flag") then Some kind.Flag
    else option_map kind.Dec (scale_named word)

-- the kind that is written behind the last colon
abbrev pub written_kind : List ℕ → Option Kind
written_kind field = option_and_then (λ p. kind_named p.1) (cut field)

abbrev pub written_kinds : Record → List (Option Kind)
written_kinds fields = map written_kind fields

-- A field is cut at its last colon: in a block table wherever one stands, in a plain table where a kind stands behind it.
abbrev pub name_in : Format → Option (List ℕ × List ℕ) → List ℕ → List ℕ
name_in f None field = field
name_in f (Some p) field = if has_blocks f || is_some (kind_named p.1) then p.0 else field

-- the name that is written in a field
abbrev pub written_name : Format → List ℕ → List ℕ
written_name f field = name_in f (cut field) field

-- the name of the column at a place: `colK`, counted from 1, where none is written
abbrev pub column_name : Format → ℕ × List ℕ → List ℕ
column_name f c = if length (written_name f c.1) == 0 then codes "col" ++ decimal (c.0 + 1) else written_name f c.1

abbrev pub column_names : Format → Record → List (List ℕ)
column_names f fields = map (column_name f) (enumerate_from 0 fields)

-- whether a colon stands in the field of a block table, and no kind behind the last one
abbrev pub is_unknown : Format → List ℕ → Bool
is_unknown f field = has_blocks f && is_some (cut field) && is_none (written_kind field)
