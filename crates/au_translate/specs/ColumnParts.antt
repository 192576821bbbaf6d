-- The values in a block's row that belong to a column of single values, and its counts where its alternatives stand once.
use Rattle.std.specs.Prelude.{ℕ, zero, suc, Bool, List, Option, Some, None, unwrap_or, if◌then◌else◌}
use Rattle.au_value.specs.declared.value.Value.{Value}
use Rattle.au_value.specs.Ranges.{Span, range}
use Rattle.au_annot.specs.Triples.{Counts, counts}
use Rattle.au_algebra.specs.Lists.{value_at, least, greatest}

-- the least and the greatest of the alternatives' values, with that of the marked alternative, and of the first where absence is marked
abbrev pub span_over : List Value → Option ℕ → Span
span_over values guess = range (least values) (value_at values (unwrap_or guess 0)) (greatest values)

-- the least value, the guess or the greatest value
abbrev pub part_of : ℕ → Span → Value
part_of zero r = r.lo
part_of (suc zero) r = r.sg
part_of _ r = r.hi

-- the counts of a block whose alternatives stand once
abbrev pub once_counts : Bool → Option ℕ → Counts
once_counts optional None = counts (if optional then 0 else 1) 0 1
once_counts optional (Some i) = counts (if optional then 0 else 1) 1 1
