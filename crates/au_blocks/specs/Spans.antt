-- The cells of a column, and one that is lent from it.
use Rattle.std.specs.Prelude.{ℕ, false, List, map, get_or}
use Rattle.au_value.specs.declared.value.Value.TheVariants as value
use Rattle.au_value.specs.Ranges.{Span, certain}
use Rattle.au_blocks.specs.declared.cells.Held.{Held}
use Rattle.au_blocks.specs.declared.cells.Held.TheVariants as held
use Rattle.au_blocks.specs.declared.cells.Lent.{Lent}
use Rattle.au_blocks.specs.declared.cells.Lent.TheVariants as lent
use Rattle.au_blocks.specs.Scalars.{scalar_value}

-- the cells of a column, whichever form they are held in
abbrev pub spans_of : Held → List Span
spans_of (held.Narrow numbers) = map (λ n. certain (value.Int n)) numbers.items
spans_of (held.Wide numbers) = map (λ n. certain (value.Int n)) numbers.items
spans_of (held.Texts texts) = map (λ t. certain (value.Text t)) texts.items
spans_of (held.Flags flags) = map (λ b. certain (value.Flag b)) flags.items
spans_of (held.Mixed cells) = cells.items

-- the cell at a place
abbrev pub cell_at : ℕ → List Span → Span
cell_at i column = get_or column i (certain (value.Flag false))

-- a cell that is lent
abbrev pub lent_span : Lent → Span
lent_span (lent.Certain value) = certain (scalar_value value)
lent_span (lent.Mixed cell) = cell.now
