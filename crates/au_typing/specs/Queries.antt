-- A statement over tables of known names and columns: all that is wrong with it, and its tree, names and kinds.
-- A statement is well-typed where nothing is wrong with it.
use Rattle.std.specs.Prelude.{ℕ, ◌+◌, ◌==◌, not, ◌&&◌, ◌||◌, ◌≡◌, Bool, false, true, List, [], ◌∷◌, length, map, Option, Some, None, unwrap_or, position, slice_get, is_some, nat_lt, if◌then◌else◌, ◌⊎◌, Contains}
use Rattle.std.specs.Str.{str_eq_ignore_ascii_case}
use Rattle.au_value.specs.declared.kinds.Kind.{Kind}
use Rattle.au_value.specs.Order.{data_kind}
use Rattle.au_expr.specs.Terms as term
use Rattle.au_expr.specs.Terms.{Term}
use Rattle.au_algebra.specs.Trees.{Tree as Query, Table, Project, Union, Difference}
use Rattle.au_parse.specs.Tree.{QueryTree, Sources, SetWord}
use Rattle.au_blocks.specs.declared.column.Column.{Column}
use Rattle.au_typing.specs.Scales.{common, rescaled, scale}
use Rattle.au_typing.specs.Scopes.{fault_if, then_faults}
use Rattle.au_typing.specs.Selects.{Typing, FromItem, resolved_select, distinct_if}
use Rattle.au_typing.specs.declared.schema.Schema.{Schema}
use Rattle.au_typing.specs.declared.fault.TypingFault.{TypingFault}
use Rattle.au_typing.specs.declared.fault.TypingFault.TheVariants as fault

-- a table that a statement may name: its name and its columns
pub record Relation : Type 0 where
  pub name : List ℕ
  pub columns : List Column

abbrev pub relation : Schema → Relation
relation schema = record { name = schema.name; columns = schema.columns.items }

abbrev pub relations : List Schema → List Relation
relations schemas = map relation schemas

-- the number of the table of this name
abbrev pub table_place : List Relation → List ℕ → Option ℕ
table_place tables word = position (λ table. str_eq_ignore_ascii_case table.name word) tables

abbrev pub columns_if : Option Relation → List Column
columns_if None = []
columns_if (Some table) = table.columns

abbrev pub table_typing : List Relation → ℕ → Option ℕ → Typing
table_typing tables at None = record { faults = fault.UnknownTable at ∷ []; tree = Table 0; columns = []; joins = false }
table_typing tables at (Some i) = record { faults = []; tree = Table i; columns = columns_if (slice_get tables i); joins = false }

abbrev pub kinds_of_columns : List Column → List Kind
kinds_of_columns columns = map (λ c. c.kind) columns

-- the kinds of the values of columns
abbrev pub data_kinds : List Column → List Kind
data_kinds columns = map (λ c. data_kind c.kind) columns

-- whether the columns of two sides are as many, and in each place of kinds that can be brought to one
abbrev pub kinds_fit : List Column → List Column → Bool
kinds_fit [] [] = true
kinds_fit [] (r ∷ right) = false
kinds_fit (l ∷ left) [] = false
kinds_fit (l ∷ left) (r ∷ right) = is_some (common (Some l.kind) (Some r.kind)) && kinds_fit left right

-- the columns of a set: the names of its left side, and in each place the kind that both sides are brought to
abbrev pub set_columns : List Column → List Column → List Column
set_columns [] right = []
set_columns (l ∷ left) [] = []
set_columns (l ∷ left) (r ∷ right) = record { name = l.name; kind = unwrap_or (common (Some l.kind) (Some r.kind)) l.kind } ∷ set_columns left right

-- the columns of a side, from this place on, brought to the kinds of a set
abbrev pub brought_from : ℕ → List Column → List Column → List Term
brought_from i [] columns = []
brought_from i (c ∷ own) [] = []
brought_from i (c ∷ own) (d ∷ columns) = rescaled (Some c.kind) (Some d.kind) (term.Column i) ∷ brought_from (i + 1) own columns

-- whether one of the columns of a side is of lesser scale than in the set
abbrev pub is_narrower : List Column → List Column → Bool
is_narrower [] columns = false
is_narrower (c ∷ own) [] = false
is_narrower (c ∷ own) (d ∷ columns) = nat_lt (scale (Some c.kind)) (scale (Some d.kind)) || is_narrower own columns

-- a side of a set of these columns: one with a column of lesser scale is a Project, in which such columns are rescaled
abbrev pub side_tree : List Column → List Column → Query → Query
side_tree columns own q = if is_narrower own columns then Project (brought_from 0 own columns) q else q

-- the columns of two sides that don't fit
abbrev pub sides_faults : ℕ → List Column → List Column → List TypingFault
sides_faults at left right =
    if length left == length right
    then fault_if (not (kinds_fit left right)) (fault.KindMismatch at)
    else fault.WidthMismatch at ∷ []

-- UNION and EXCEPT without ALL give and take each row once
abbrev pub set_tree : SetWord → Bool → Query → Query → Query
set_tree SetWord.union all left right = distinct_if (not all) (Union left right)
set_tree SetWord.except all left right = Difference (distinct_if (not all) left) right

abbrev pub set_typing : SetWord → Bool → ℕ → Typing → Typing → Typing
set_typing word all at left right = let columns = set_columns left.columns right.columns in record {
  faults = then_faults left.faults (then_faults right.faults (sides_faults at left.columns right.columns));
  tree = set_tree word all (side_tree columns left.columns left.tree) (side_tree columns right.columns right.tree);
  columns = columns;
  joins = left.joins || right.joins;
}

abbrev mutual
  -- what a query is over these tables
  pub typing : List Relation → QueryTree → Typing
  typing tables (QueryTree.select at distinct items sources condition keys grouped having) =
      resolved_select (record { distinct = distinct; items = items; condition = condition; keys = keys; grouped = grouped; having = having }) (from_items tables sources)
  typing tables (QueryTree.set word all at left right) = set_typing word all at (typing tables left) (typing tables right)

  pub from_items : List Relation → Sources → List FromItem
  from_items tables Sources.no_sources = []
  from_items tables (Sources.table at word alias others) =
      record { at = at; name = unwrap_or alias word; typing = table_typing tables at (table_place tables word) } ∷ from_items tables others
  from_items tables (Sources.inner at query alias others) = record { at = at; name = alias; typing = typing tables query } ∷ from_items tables others

-- all that is wrong with a statement
abbrev pub typing_defects : List Relation → QueryTree → List TypingFault
typing_defects tables statement = (typing tables statement).faults

-- nothing is wrong with it
abbrev pub IsWellTyped : List Relation → QueryTree → Type 0
IsWellTyped tables statement = typing_defects tables statement ≡ []

-- its tree, and the names and kinds of its columns
abbrev pub resolved_tree : List Relation → QueryTree → Query
resolved_tree tables statement = (typing tables statement).tree

abbrev pub resolved_names : List Relation → QueryTree → List (List ℕ)
resolved_names tables statement = map (λ c. c.name) (typing tables statement).columns

abbrev pub resolved_kinds : List Relation → QueryTree → List Kind
resolved_kinds tables statement = kinds_of_columns (typing tables statement).columns

-- the kinds of the values of the tables' columns
abbrev pub table_kinds : List Relation → List (List Kind)
table_kinds tables = map (λ table. data_kinds table.columns) tables

-- one of these faults, or want of memory
abbrev pub Refuses : List TypingFault → TypingFault → Type 0
Refuses faults f = (f ≡ fault.NoMemory) ⊎ Contains faults f
