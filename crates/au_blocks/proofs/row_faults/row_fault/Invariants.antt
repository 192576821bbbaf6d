use Rattle.std.proofs.Common.{◌≡◌, ◌+◌, drop}
use Rattle.std.specs.Prelude.{flat_map}
use Rattle.std.specs.List.{enumerate_from}
use Rattle.au_blocks.specs.Defects.{record_defects, rows_defects}
use Rattle.au_blocks.specs.Read.{first}
use Rattle.au_blocks.proofs.row_faults.row_fault.Given as goal

-- the records so far have no defect
abbrev pub invariant-loop-place : goal.invariant-loop-place
invariant-loop-place l =
    first (rows_defects l.format l.width l.written l.rows) ≡ first (flat_map (record_defects l.format l.width l.written) (enumerate_from (l.place + 1) (drop l.place l.rows)))
