-- The codes of the plan's rows are the rows of the coded plan, and each row stands for itself.
use Rattle.au_physical.specs.PhysicalMeaning.{physical_rows}
use Rattle.au_codes.specs.TextCodes.{text_code}
use Rattle.au_exec.proofs.CodedRows.{rows_back}
use Rattle.au_exec.proofs.theorems.ready_plans_stand.Goals as goal

pub returns : goal.returns
returns c = record {
  cells = λ book kinds plan ts s. c.cells_keep_rows.ensures (text_code book) (c.text_codes_keep_order.ensures book s.is_book) plan ts s.typed s.knows_plan s.knows_tables;
  rows = λ book kinds plan ts s.
      let knows = c.rows_stay_known.ensures (text_code book) (c.text_codes_keep_order.ensures book s.is_book) plan ts s.typed s.knows_plan s.knows_tables in
      rows_back c.cells_stand.ensures book kinds (physical_rows plan ts) s.is_book s.have_kinds knows;
  knows = λ book kinds plan ts s. c.rows_stay_known.ensures (text_code book) (c.text_codes_keep_order.ensures book s.is_book) plan ts s.typed s.knows_plan s.knows_tables;
  numbers = λ book kinds plan ts s. c.cells_keep_numbers.ensures (text_code book) (c.text_codes_keep_order.ensures book s.is_book) plan ts s.typed s.knows_plan s.knows_tables;
}
