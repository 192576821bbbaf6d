-- The kind of a column: as its header field writes it, or by its fields in the alternatives.
use Rattle.std.specs.Prelude.{ℕ, ◌||◌, not, Bool, false, List, [], ◌∷◌, map, Option, Some, None, unwrap_or, is_some, if◌then◌else◌}
use Rattle.std.specs.List.{list_all, enumerate_from}
use Rattle.au_value.specs.declared.kinds.Kind.{Kind}
use Rattle.au_value.specs.declared.kinds.Kind.TheVariants as kind
use Rattle.au_value.specs.Numeral.{numeral_value}
use Rattle.au_csv.specs.Texts.{Record}
use Rattle.au_blocks.specs.declared.format.Format.{Format}
use Rattle.au_blocks.specs.declared.role.Role.{Role}
use Rattle.au_blocks.specs.Headers.{cells_of}
use Rattle.au_blocks.specs.Entries.{BlockEntry, field, role_of, is_absent, alternatives}

-- whether a text is a numeral
abbrev pub is_numeral : List ℕ → Bool
is_numeral text = is_some (numeral_value text)

-- the kind of a column whose fields are numerals, or aren't
abbrev pub inferred : Bool → Kind
inferred numerals = if numerals then kind.Int else kind.Text

-- the kind of a column without a written one, which has these fields in the alternatives
abbrev pub inferred_kind : List (List ℕ) → Kind
inferred_kind [] = kind.Text
inferred_kind (x ∷ xs) = inferred (list_all is_numeral (x ∷ xs))

-- the kind of the column at a place
abbrev pub column_kind : List BlockEntry → ℕ × Option Kind → Kind
column_kind entries c = unwrap_or c.1 (inferred_kind (map (λ e. field c.0 e.cells) (alternatives entries)))

abbrev pub inferred_kinds : List BlockEntry → List (Option Kind) → List Kind
inferred_kinds entries written = map (column_kind entries) (enumerate_from 0 written)

-- whether a record is an alternative
abbrev pub offers_row : Option Role → Bool
offers_row None = false
offers_row (Some x) = not (is_absent x)

abbrev pub is_alternative : Format → Record → Bool
is_alternative f r = offers_row (role_of f r)

-- whether a record has a numeral at a place, if it is an alternative
abbrev pub holds_numeral : Format → ℕ → Record → Bool
holds_numeral f k r = not (is_alternative f r) || is_numeral (field k (cells_of f r))
