-- Where texts stand in encoded rows.
use Rattle.std.specs.Prelude.{ℕ, zero, suc, Bool, false, List, [], ◌∷◌}
use Rattle.au_value.specs.declared.kinds.Kind.{Kind}
use Rattle.au_value.specs.declared.kinds.Kind.TheVariants as kind
use Rattle.au_value.specs.Order.{kind_eq}
use Rattle.au_blocks.specs.declared.column.Column.{Column}
use Rattle.au_blocks.specs.Tables.{column_kinds, table}
use Rattle.au_encode.specs.Encode.{encoded_kinds}

-- whether the column of a number has texts
abbrev pub is_text_at : List Kind → ℕ → Bool
is_text_at [] at = false
is_text_at (k ∷ ks) zero = kind_eq kind.Text k
is_text_at (k ∷ ks) (suc at) = is_text_at ks at

-- the kinds of the encoded rows of a table of these columns
abbrev pub row_kinds : List Column → List Kind
row_kinds columns = encoded_kinds (column_kinds (table columns []))
