-- The laws of tables.
use Rattle.std.specs.Prelude.{◌≡◌, ℕ, List, ◌++◌}
use Rattle.au_expr.specs.Figures.{fit}
use Rattle.au_plain.specs.declared.plan.PAgg.{PAgg}
use Rattle.au_codes.specs.Codes.{CellRows}
use Rattle.au_codes.specs.CellMeaning.{cell_group}
use Rattle.au_codes.specs.CellNumbers.{cell_group_numbers}
use Rattle.au_folds.specs.Merged.{Alike, merged}
use Rattle.au_folds.specs.Tables.{Table, empty_table, finished, grown, table_numbers}

-- Rows that are put in behind others are put in with them.
abbrev pub RowsComeInParts : Type 0
RowsComeInParts = (t : Table) (xs ys : CellRows) → grown (grown t xs) ys ≡ grown t (xs ++ ys)

-- The table of some rows gives the rows of their grouping, and its numbers fit just where those of the grouping do.
abbrev pub TablesAreGroups : Type 0
TablesAreGroups =
    (keys : List ℕ) (aggs : List PAgg) (rows : CellRows) →
    (finished (grown (empty_table keys aggs) rows) ≡ cell_group keys aggs rows)
    × (fit (table_numbers (grown (empty_table keys aggs) rows)) ≡ fit (cell_group_numbers keys aggs rows))

-- The tables of some rows, and of those behind them, give the table of all.
abbrev pub TablesComeInParts : Type 0
TablesComeInParts =
    (keys : List ℕ) (aggs : List PAgg) (xs ys : CellRows) →
    merged (grown (empty_table keys aggs) xs) (grown (empty_table keys aggs) ys) ≡ grown (empty_table keys aggs) (xs ++ ys)

-- Tables of the same keys and aggregates, to which rows are added.
abbrev pub TablesStayAlike : Type 0
TablesStayAlike =
    (keys : List ℕ) (aggs : List PAgg) (xs ys : CellRows) →
    Alike (grown (empty_table keys aggs) xs) (grown (empty_table keys aggs) ys)
