-- A plan that is ready to be run over codes: a book that knows the texts, and the kinds of the plan's rows.
use Rattle.std.specs.Prelude.{◌≡◌, List, map, true, false, Result, MatchResult}
use Rattle.au_value.specs.declared.kinds.Kind.{Kind}
use Rattle.au_expr.specs.declared.fault.EvalFault.{EvalFault}
use Rattle.au_expr.specs.declared.fault.EvalFault.TheVariants as fault
use Rattle.au_expr.specs.Figures.{fit}
use Rattle.au_algebra.specs.Ordinary.{Rows}
use Rattle.au_plain.specs.PlanKinds.{HaveKinds}
use Rattle.au_physical.specs.Physicals.{PhysicalTree}
use Rattle.au_physical.specs.PhysicalKinds.{IsPhysicalFor}
use Rattle.au_physical.specs.PhysicalMeaning.{physical_rows}
use Rattle.au_physical.specs.PhysicalNumbers.{physical_numbers}
use Rattle.au_codes.specs.Books.{Book, IsCodebook}
use Rattle.au_codes.specs.Codes.{CellRows, KnowsRows, KnowsTables, coded_rows, coded_tables}
use Rattle.au_codes.specs.CodedPlans.{KnowsPlan, coded_tree}
use Rattle.au_codes.specs.CellMeaning.{plan_cells}
use Rattle.au_codes.specs.CellNumbers.{plan_cell_numbers}
use Rattle.au_codes.specs.Decoding.{decoded_row}
use Rattle.au_codes.specs.TextCodes.{text_code}

-- The plan is typed over the tables, the book knows the texts of both, and the plan's rows have these kinds.
pub record IsReady (book : Book) (kinds : List Kind) (plan : PhysicalTree) (ts : List Rows) : Type 0 where
  pub is_book : IsCodebook book
  pub typed : IsPhysicalFor ts plan
  pub knows_plan : KnowsPlan (text_code book) plan
  pub knows_tables : KnowsTables (text_code book) ts
  pub have_kinds : HaveKinds kinds (physical_rows plan ts)

-- Over the tables' codes the coded plan gives the codes of its rows, which decode to them, its numbers fit 128 bits exactly
-- where those of the plan do, and the book knows the texts of its rows.
pub record ReadyPlansStand : Type 0 where
  pub cells :
      (book : Book) (kinds : List Kind) (plan : PhysicalTree) (ts : List Rows) → IsReady book kinds plan ts →
      plan_cells (coded_tree (text_code book) plan) (coded_tables (text_code book) ts) ≡ coded_rows (text_code book) (physical_rows plan ts)
  pub rows :
      (book : Book) (kinds : List Kind) (plan : PhysicalTree) (ts : List Rows) → IsReady book kinds plan ts →
      map (decoded_row book kinds) (coded_rows (text_code book) (physical_rows plan ts)) ≡ physical_rows plan ts
  pub numbers :
      (book : Book) (kinds : List Kind) (plan : PhysicalTree) (ts : List Rows) → IsReady book kinds plan ts →
      fit (plan_cell_numbers (coded_tree (text_code book) plan) (coded_tables (text_code book) ts)) ≡ fit (physical_numbers plan ts)
  pub knows :
      (book : Book) (kinds : List Kind) (plan : PhysicalTree) (ts : List Rows) → IsReady book kinds plan ts → KnowsRows (text_code book) (physical_rows plan ts)

-- the codes of a plan's rows, where its numbers fit, and a refusal only where they don't
abbrev pub GivesCodes : Book → PhysicalTree → List Rows → Result CellRows EvalFault → Type 0
GivesCodes book plan ts result =
    MatchResult result
    (λ made. (made ≡ coded_rows (text_code book) (physical_rows plan ts)) × (fit (physical_numbers plan ts) ≡ true))
    (λ f. f ≡ fault.Overflow → fit (physical_numbers plan ts) ≡ false)
