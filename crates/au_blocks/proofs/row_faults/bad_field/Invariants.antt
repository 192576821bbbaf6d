use Rattle.std.proofs.Common.{◌≡◌, drop}
use Rattle.std.specs.Prelude.{flat_map, zip, not}
use Rattle.std.specs.List.{enumerate_from}
use Rattle.au_blocks.specs.declared.faults.TableFault.TheVariants as fault
use Rattle.au_blocks.specs.Headers.{cells_of}
use Rattle.au_blocks.specs.Defects.{bad_fields, is_field, where_true}
use Rattle.au_blocks.specs.Read.{first}
use Rattle.au_blocks.proofs.row_faults.bad_field.Given as goal

-- the cells so far are values of the written kinds
abbrev pub invariant-loop-place : goal.invariant-loop-place
invariant-loop-place l =
    first (bad_fields l.format l.number l.written (cells_of l.format l.record))
    ≡ first (flat_map (λ c. where_true (not (is_field l.format c.1.0 c.1.1)) (fault.BadField l.number c.0)) (enumerate_from l.place (drop l.place (zip l.written (cells_of l.format l.record)))))
