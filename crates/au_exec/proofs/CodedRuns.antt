-- What a run over codes gives stands for the rows of the plan.
use Rattle.std.specs.Prelude.{◌≡◌, List, map, Result, Ok, Err}
use Rattle.std.proofs.Common.{sym, ap, ◌∙◌, subst}
use Rattle.au_value.specs.declared.kinds.Kind.{Kind}
use Rattle.au_expr.specs.declared.fault.EvalFault.{EvalFault}
use Rattle.au_expr.specs.Figures.{fit}
use Rattle.au_algebra.specs.Ordinary.{Rows}
use Rattle.au_physical.specs.PhysicalMeaning.{physical_rows}
use Rattle.au_physical.specs.Physicals.{PhysicalTree}
use Rattle.au_codes.specs.Books.{Book}
use Rattle.au_codes.specs.CellMeaning.{plan_cells}
use Rattle.au_codes.specs.CellNumbers.{plan_cell_numbers}
use Rattle.au_codes.specs.CodedPlans.{coded_tree}
use Rattle.au_codes.specs.Codes.{CellRows, coded_rows, coded_tables}
use Rattle.au_codes.specs.Decoding.{decoded_row}
use Rattle.au_codes.specs.TextCodes.{text_code}
use Rattle.au_vector.specs.Runs.{Runs}
use Rattle.au_exec.specs.Ready.{GivesCodes, IsReady, ReadyPlansStand}

module _ (book : Book) (kinds : List Kind) (p : PhysicalTree) (ts : List Rows) (laws : ReadyPlansStand) (ready : IsReady book kinds p ts) where
  of_cells : (result : Result CellRows EvalFault) → Runs (coded_tree (text_code book) p) (coded_tables (text_code book) ts) result → GivesCodes book p ts result
  of_cells (Ok made) h = (h.0 ∙ laws.cells book kinds p ts ready, sym (laws.numbers book kinds p ts ready) ∙ h.1)
  of_cells (Err f) h = λ over. sym (laws.numbers book kinds p ts ready) ∙ h over

pub runs_stand :
    (book : Book) (kinds : List Kind) (p : PhysicalTree) (ts : List Rows) (coded : PhysicalTree) (made result : Result CellRows EvalFault) → ReadyPlansStand → IsReady book kinds p ts →
    coded ≡ coded_tree (text_code book) p → Runs coded (coded_tables (text_code book) ts) made → result ≡ made → GivesCodes book p ts result
runs_stand book kinds p ts coded made result laws ready is runs same =
    let own = subst (λ q. Runs q (coded_tables (text_code book) ts) made) is runs in
    subst (GivesCodes book p ts) (sym same) (of_cells book kinds p ts laws ready made own)

-- the codes of the plan's rows decode to them
pub rows_read :
    (book : Book) (kinds ks : List Kind) (p : PhysicalTree) (ts : List Rows) (batch : CellRows) → ReadyPlansStand → IsReady book kinds p ts →
    ks ≡ kinds → batch ≡ coded_rows (text_code book) (physical_rows p ts) → map (decoded_row book ks) batch ≡ physical_rows p ts
rows_read book kinds ks p ts batch laws ready same is = (λ i. map (decoded_row book (same i)) (is i)) ∙ laws.rows book kinds p ts ready
