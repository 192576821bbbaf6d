-- The columns are those of the header.
use Rattle.std.proofs.Common.{refl}
use Rattle.au_blocks.proofs.schema.schema.Goals as goal

pub returns-clause-columns : goal.returns-clause-columns
returns-clause-columns c =
    rw (c.in_ok-typed.ensures, c.in_ok-names.ensures.names, c.as_slice-2.ensures.value, c.in_ok-names.ensures.written, c.cells.ensures, c.of-format.ensures) refl
