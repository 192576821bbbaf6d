-- The table of the header and of what lies below it.
use Rattle.std.proofs.Common.{◌≡◌, ◌∙◌, Ok, refl, sym, ap}
use Rattle.au_blocks.specs.Headers.{cells_of, column_names, format_of}
use Rattle.au_blocks.specs.Read.{columns_of}
use Rattle.au_blocks.proofs.OnePassTables.{pass_fits, pass_reads}
use Rattle.au_blocks.proofs.one_pass.table_named.Goals as goal

pub of-requires : goal.of-requires
of-requires c =
    let header = c.args.header.now in
    let written = c.args.written.now in
    let are : c.in_ok-columns.columns.items ≡ columns_of (column_names (format_of header) (cells_of (format_of header) header)) c.in-Some.kinds.items =
    rw (c.in_ok-columns.ensures, c.requires.names) refl in
    let all = rw c.in-Some.is at c.in_ok-kinds.ensures in
    pass_fits c.args.bytes.now header written c.in-Some.kinds.items c.in_ok-columns.columns.items c.in-Some.alternatives c.in-Some.extents.items all c.requires.sound c.requires.written are

pub returns : goal.returns
returns c =
    let header = c.args.header.now in
    let written = c.args.written.now in
    let are : c.in_ok-columns.columns.items ≡ columns_of (column_names (format_of header) (cells_of (format_of header) header)) c.in-Some.kinds.items =
    rw (c.in_ok-columns.ensures, c.requires.names) refl in
    let all = rw c.in-Some.is at c.in_ok-kinds.ensures in
    pass_reads c.args.bytes.now header written c.in-Some.kinds.items c.in_ok-columns.columns.items c.in-Some.alternatives c.in-Some.extents.items all c.requires.sound c.requires.written are ∙ ap Ok (sym c.of.ensures)
