-- Block tables: columns and blocks,
-- and which of them have a range of its kind in each column of each row.
use Rattle.std.specs.Prelude.{Bool, ◌&&◌, IsTrue, List, map}
use Rattle.std.specs.List.{list_all, AllByRecursion}
use Rattle.std.specs.Cmp.Lexicographic.{pointwise}
use Rattle.au_value.specs.declared.kinds.Kind.{Kind}
use Rattle.au_value.specs.Ranges.{Span}
use Rattle.au_value.specs.Order.{kind_of, kind_eq, data_kind, is_column_kind, at_most}
use Rattle.au_blocks.specs.declared.column.Column.{Column}
use Rattle.au_blocks.specs.Blocks.{Choices, IsBlock}

-- the columns, and the blocks in order
pub record BlockTable : Type 0 where
  pub columns : List Column
  pub blocks : List Choices

abbrev pub table : List Column → List Choices → BlockTable
table columns blocks = record { columns = columns; blocks = blocks }

-- whether this is a range of values of a kind
abbrev pub is_range_of : Kind → Span → Bool
is_range_of k r =
    kind_eq k (kind_of r.lo) && kind_eq k (kind_of r.sg) && kind_eq k (kind_of r.hi) && at_most r.lo r.sg && at_most r.sg r.hi

-- whether the row has one range per column, of its kind
abbrev pub fits_kinds : List Kind → List Span → Bool
fits_kinds kinds row = pointwise is_range_of kinds row

-- the kinds of the columns' values
abbrev pub column_kinds : BlockTable → List Kind
column_kinds t = map (λ c. data_kind c.kind) t.columns

-- each alternative fits the columns
pub record IsTable (t : BlockTable) : Type 0 where
  pub rows : IsTrue (list_all (λ b. list_all (λ a. fits_kinds (column_kinds t) a.cells) b.alternatives) t.blocks)

-- besides, each scale is from 1 to 9, and each block has an alternative, the marked choice and copies in order
pub record IsBlockTable (t : BlockTable) : Type 0 where
  pub table : IsTable t
  pub kinds : IsTrue (list_all (λ c. is_column_kind c.kind) t.columns)
  pub blocks : AllByRecursion IsBlock t.blocks
