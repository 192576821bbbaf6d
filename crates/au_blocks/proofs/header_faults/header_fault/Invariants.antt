use Rattle.std.proofs.Common.{◌≡◌, drop}
use Rattle.std.specs.Prelude.{flat_map, zip}
use Rattle.std.specs.List.{enumerate_from}
use Rattle.au_blocks.specs.Defects.{column_defects, header_defects}
use Rattle.au_blocks.specs.Read.{first}
use Rattle.au_blocks.proofs.header_faults.header_fault.Given as goal

-- the columns so far have no defect
abbrev pub invariant-loop-place : goal.invariant-loop-place
invariant-loop-place l =
    first (header_defects l.format l.fields) ≡ first (flat_map (λ c. column_defects l.format l.names (c.0, c.1.0, c.1.1)) (enumerate_from l.place (drop l.place (zip l.names l.fields))))
