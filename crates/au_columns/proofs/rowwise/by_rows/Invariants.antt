use Rattle.std.proofs.Common.{◌≡◌, ◌<◌, ℕ, [], get_or, length}
use Rattle.std.specs.Prelude.{Some}
use Rattle.au_plain.specs.PTerms.{pterm}
use Rattle.au_codes.specs.Careful.{careful}
use Rattle.au_columns.specs.Steps.{number_at}
use Rattle.au_columns.proofs.rowwise.by_rows.Given as goal

abbrev pub invariant-loop-row : goal.invariant-loop-row
invariant-loop-row l = record {
  len : length l.column ≡ l.row;
  each : (i : ℕ) → i < l.row → careful (pterm l.tree) (get_or l.batch i []) ≡ Some (number_at l.column i);
}
