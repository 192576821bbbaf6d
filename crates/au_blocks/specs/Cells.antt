-- A cell as a range: that of one value, or one with its ends and its guess.
use Rattle.au_value.specs.Ranges.{Span, certain}
use Rattle.au_blocks.specs.declared.cell.Content.{Content}
use Rattle.au_blocks.specs.declared.cell.Content.TheVariants.{Certain, Between}

abbrev pub span_of : Content → Span
span_of (Certain value) = certain value
span_of (Between range) = range.value
