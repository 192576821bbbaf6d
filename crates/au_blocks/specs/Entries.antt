-- The records of a table file below its header: what role each has in its block,
-- and which records form a block.
use Rattle.std.specs.Prelude.{ℕ, Bool, true, false, not, List, [], ◌∷◌, map, filter, filter_map, Option, Some, None, option_map, is_some, unwrap_or, if◌then◌else◌, codes, bytes_eq, slice_index_or}
use Rattle.au_value.specs.Lists.{distinct}
use Rattle.au_csv.specs.Texts.{Record}
use Rattle.au_blocks.specs.declared.role.Role.{Role}
use Rattle.au_blocks.specs.declared.role.Role.TheVariants as role
use Rattle.au_blocks.specs.declared.format.Format.{Format}
use Rattle.au_blocks.specs.Blocks.{Copies, once}
use Rattle.au_blocks.specs.Headers.{has_blocks, has_copies, cells_of}
use Rattle.au_blocks.specs.Spellings.{copies_written}

-- the field at a place, empty where there is none
abbrev pub field : ℕ → Record → List ℕ
field i r = slice_index_or r i []

-- the role that a word names
abbrev pub role_named : List ℕ → Option Role
role_named word =
    if bytes_eq word (codes "guess") then Some role.Guess
    else if bytes_eq word (codes "alt") then Some role.Alternative
    else if bytes_eq word (codes "absent") then Some role.Absent
    else if bytes_eq word (codes "absent-guess") then Some role.AbsentGuess
    else None

-- whether a role marks the guess
abbrev pub is_marked : Role → Bool
is_marked role.Guess = true
is_marked role.Alternative = false
is_marked role.Absent = false
is_marked role.AbsentGuess = true

-- whether a role says that the block may be absent
abbrev pub is_absent : Role → Bool
is_absent role.Guess = false
is_absent role.Alternative = false
is_absent role.Absent = true
is_absent role.AbsentGuess = true

-- a record's role, copies and cells
pub record BlockEntry : Type 0 where
  pub role : Role
  pub copies : Copies
  pub cells : Record

abbrev pub block_entry : Role → Copies → Record → BlockEntry
block_entry r copies cells = record { role = r; copies = copies; cells = cells }

-- the role of a record, if it has one: in a plain table each is a marked alternative
abbrev pub role_of : Format → Record → Option Role
role_of f r = if has_blocks f then role_named (field 1 r) else Some role.Guess

-- whether a record of a block table has a role
abbrev pub has_role : Record → Bool
has_role r = is_some (role_named (field 1 r))

-- the numbers of copies that a record writes, if its format has them: one copy elsewhere
abbrev pub written_copies : Format → Record → Option Copies
written_copies f r = if has_copies f then copies_written (field 2 r) else Some once

abbrev pub copies_in : Format → Record → Copies
copies_in f r = unwrap_or (written_copies f r) once

abbrev pub block_entry_of : Format → Record → Option BlockEntry
block_entry_of f r = option_map (λ x. block_entry x (copies_in f r) (cells_of f r)) (role_of f r)

abbrev pub entries_of : Format → List Record → List BlockEntry
entries_of f rows = filter_map (block_entry_of f) rows

-- the entries that are alternatives
abbrev pub alternatives : List BlockEntry → List BlockEntry
alternatives entries = filter (λ e. not (is_absent e.role)) entries

-- the label of a record
abbrev pub label_of : Record → List ℕ
label_of r = field 0 r

-- the records with a label
abbrev pub labelled : List ℕ → List Record → List Record
labelled label rows = filter (λ r. bytes_eq label (label_of r)) rows

-- the entries of each block: of the records with each label, or in a plain table of each record alone
abbrev pub entry_blocks : Format → List Record → List (List BlockEntry)
entry_blocks f rows =
    if has_blocks f then map (λ label. entries_of f (labelled label rows)) (distinct bytes_eq (map label_of rows))
    else map (λ r. block_entry role.Guess once r ∷ []) rows
