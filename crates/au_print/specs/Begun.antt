-- A record whose fields are written one by one.
use Rattle.std.specs.Prelude.{◌≡◌, ◌≤◌, ℕ, List, ◌∷◌, flat_map}
use Rattle.csv.specs.Writing.{comma, default_writer, field_text, fields_written, writer_setup}
use Rattle.csv.specs.declared.writer.Writer.{Writer}

-- a writer with the defaults, in whose record at least so many fields stand
pub record HasFields {W : Type 0} (n : ℕ) (w : Writer W) : Type 0 where
  pub setup : writer_setup w ≡ default_writer
  pub many : n ≤ fields_written w

-- the first field of a record
unfoldable pub first_field : List ℕ → List ℕ
first_field field = field_text default_writer field

-- a field behind others, and fields behind others
unfoldable pub field_behind : List ℕ → List ℕ
field_behind field = comma ∷ field_text default_writer field

abbrev pub fields_behind : List (List ℕ) → List ℕ
fields_behind fields = flat_map field_behind fields
