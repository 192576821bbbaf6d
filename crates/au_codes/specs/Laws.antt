-- What holds of every code that keeps the order of texts.
use Rattle.std.specs.Prelude.{◌≡◌, List, map, Some}
use Rattle.std.specs.Ordering.{int_cmp}
use Rattle.std.specs.Cmp.Lexicographic.{slice_cmp}
use Rattle.au_value.specs.declared.kinds.Kind.{Kind}
use Rattle.au_value.specs.declared.value.Value.{Value}
use Rattle.au_value.specs.Order.{order, kind_of}
use Rattle.au_expr.specs.Figures.{fit}
use Rattle.au_plain.specs.PTerms.{PTerm, plain_value}
use Rattle.au_plain.specs.PlanKinds.{plain_kind}
use Rattle.au_algebra.specs.Lists.{same_row}
use Rattle.au_algebra.specs.Ordinary.{Rows}
use Rattle.au_physical.specs.Physicals.{PhysicalTree}
use Rattle.au_physical.specs.PhysicalKinds.{IsPhysicalFor}
use Rattle.au_physical.specs.PhysicalMeaning.{physical_rows}
use Rattle.au_physical.specs.PhysicalNumbers.{physical_numbers}
use Rattle.au_codes.specs.Codes.{Code, KeepsOrder, code, coded_row, coded_rows, coded_tables, Knows, KnowsRow, KnowsRows, KnowsTables}
use Rattle.au_codes.specs.CodedPlans.{coded_term, coded_tree, KnowsTerm, KnowsPlan}
use Rattle.au_codes.specs.CellMeaning.{same_cells, cell_value, plan_cells}
use Rattle.au_codes.specs.CellNumbers.{plan_cell_numbers}

-- Values of one kind are ordered as their numbers are, and rows of the same kinds as their cells, the first unequal one
-- deciding; so rows are equal where their cells are.
pub record CodesKeepOrder : Type 0 where
  pub values :
      (c : Code) → KeepsOrder c → (u v : Value) →
      kind_of u ≡ kind_of v → Knows c u → Knows c v → int_cmp (code c u) (code c v) ≡ order u v
  pub rows :
      (c : Code) → KeepsOrder c → (a b : List Value) →
      map kind_of a ≡ map kind_of b → KnowsRow c a → KnowsRow c b → slice_cmp int_cmp (coded_row c a) (coded_row c b) ≡ slice_cmp order a b
  pub equal :
      (c : Code) → KeepsOrder c → (a b : List Value) →
      map kind_of a ≡ map kind_of b → KnowsRow c a → KnowsRow c b → same_cells (coded_row c a) (coded_row c b) ≡ same_row a b

-- the value of a typed expression over the cells of a row is the number of its value
abbrev pub CellsKeepValues : Type 0
CellsKeepValues =
    (c : Code) → KeepsOrder c →
    (e : PTerm) (k : Kind) (row : List Value) →
    plain_kind (map kind_of row) e ≡ Some k → KnowsTerm c e → KnowsRow c row →
    cell_value (coded_term c e) (coded_row c row) ≡ code c (plain_value e row)

-- the rows of a typed plan over cells are the cells of its rows
abbrev pub CellsKeepRows : Type 0
CellsKeepRows =
    (c : Code) → KeepsOrder c →
    (p : PhysicalTree) (ts : List Rows) →
    IsPhysicalFor ts p → KnowsPlan c p → KnowsTables c ts →
    plan_cells (coded_tree c p) (coded_tables c ts) ≡ coded_rows c (physical_rows p ts)

-- the code knows the texts of a typed plan's rows
abbrev pub RowsStayKnown : Type 0
RowsStayKnown =
    (c : Code) → KeepsOrder c →
    (p : PhysicalTree) (ts : List Rows) →
    IsPhysicalFor ts p → KnowsPlan c p → KnowsTables c ts → KnowsRows c (physical_rows p ts)

-- the numbers of a typed plan over cells lie in the range of 128 bits exactly where its own do
abbrev pub CellsKeepNumbers : Type 0
CellsKeepNumbers =
    (c : Code) → KeepsOrder c →
    (p : PhysicalTree) (ts : List Rows) →
    IsPhysicalFor ts p → KnowsPlan c p → KnowsTables c ts →
    fit (plan_cell_numbers (coded_tree c p) (coded_tables c ts)) ≡ fit (physical_numbers p ts)
