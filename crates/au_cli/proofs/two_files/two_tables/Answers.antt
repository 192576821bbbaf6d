-- Both files are read, and each is made a table or refused.
use Rattle.std.proofs.Common.{◌≡◌, ℕ, Option, List, Some, Ok, arith, length, subst, sym}
use Rattle.std.specs.Prelude.{IfErr, IfOk}
use Rattle.au_io.specs.Files.{File}
use Rattle.au_words.specs.CommandLine.{seen_table}
use Rattle.au_cli.specs.declared.files.Purpose.TheVariants as purpose
use Rattle.au_cli.specs.Files.{IsFoundAt, file_bytes}
use Rattle.au_cli.specs.FileCauses.{ReadCause}
use Rattle.au_cli.specs.TwoFiles.{NamesTable}
use Rattle.au_cli.proofs.FileTables.{read_cause}
use Rattle.au_cli.proofs.TwoTables.{first_cause, two_made, two_refused}
use Rattle.au_cli.proofs.two_files.two_tables.Goals as goal

pub returns-in-Err-clause-refused : goal.returns-in-Err-clause-refused
returns-in-Err-clause-refused g c =
    let told = g.S.Shelf.files c.args.shelf.now in
    let u = seen_table c.args.first.now in
    first_cause told u (seen_table c.args.second.now) _ _ _ _ c.in-Err.outcome (read_cause told purpose.Query u.1 0 0 _ _ _ _ c.in-Err.outcome c.in-Err.ensures.refused)

pub returns-clause-tables : goal.returns-clause-tables
returns-clause-tables g c =
    let told = g.S.Shelf.files c.args.shelf.now in
    let u = seen_table c.args.first.now in
    let w = seen_table c.args.second.now in
    let more = c.file_bytes-more.result in
    let f1 = g.S.Shelf.faults c.file_bytes.new.shelf in
    let fn = g.S.Shelf.faults c.file_bytes-more.new.shelf in
    let a1 = g.S.Shelf.absences c.file_bytes.new.shelf in
    let an = g.S.Shelf.absences c.file_bytes-more.new.shelf in
    let same = c.file_bytes.ensures.files in
    let n : c.len.result ≡ length c.in-Ok.bytes.items = first_of (omega (arith, c.len.ensures, c.in-Ok.bytes.ok), grind (arith, c.len.ensures)) in
    two_made told u w c.in-Ok.bytes.items c.in-Ok.ensures.read c.in-Ok.ensures.bytes f1 fn a1 an more c.parsed-one.result.0 c.parsed-one.result.1
    (subst (λ (t : Option (List File)). IfOk more (λ b. IsFoundAt t w.1 (Some b.items))) same c.file_bytes-more.ensures.read)
    (subst (λ (m : ℕ). IfOk more (λ b. file_bytes 1 m (Some b.items) ≡ Ok b.items)) n c.file_bytes-more.ensures.bytes)
    (subst (λ (m : ℕ). IfErr more (ReadCause told w.1 1 m f1 fn a1 an)) n
    (subst (λ (t : Option (List File)). IfErr more (ReadCause t w.1 1 c.len.result f1 fn a1 an)) same c.file_bytes-more.ensures.refused))
    (subst (λ (bs : List ℕ). NamesTable purpose.Query 0 u.0 bs c.parsed-one.result.0) c.as_slice.ensures.value c.parsed-one.ensures.one)
    c.parsed-one.ensures.other
    c.both_tables.result c.both_tables.ensures

pub returns-clause-refused : goal.returns-clause-refused
returns-clause-refused g c =
    let told = g.S.Shelf.files c.args.shelf.now in
    let u = seen_table c.args.first.now in
    let w = seen_table c.args.second.now in
    let more = c.file_bytes-more.result in
    let f1 = g.S.Shelf.faults c.file_bytes.new.shelf in
    let fn = g.S.Shelf.faults c.file_bytes-more.new.shelf in
    let a1 = g.S.Shelf.absences c.file_bytes.new.shelf in
    let an = g.S.Shelf.absences c.file_bytes-more.new.shelf in
    let same = c.file_bytes.ensures.files in
    let n : c.len.result ≡ length c.in-Ok.bytes.items = first_of (omega (arith, c.len.ensures, c.in-Ok.bytes.ok), grind (arith, c.len.ensures)) in
    two_refused told u w c.in-Ok.bytes.items c.in-Ok.ensures.read c.in-Ok.ensures.bytes f1 fn a1 an more c.parsed-one.result.0 c.parsed-one.result.1
    (subst (λ (t : Option (List File)). IfOk more (λ b. IsFoundAt t w.1 (Some b.items))) same c.file_bytes-more.ensures.read)
    (subst (λ (m : ℕ). IfOk more (λ b. file_bytes 1 m (Some b.items) ≡ Ok b.items)) n c.file_bytes-more.ensures.bytes)
    (subst (λ (m : ℕ). IfErr more (ReadCause told w.1 1 m f1 fn a1 an)) n
    (subst (λ (t : Option (List File)). IfErr more (ReadCause t w.1 1 c.len.result f1 fn a1 an)) same c.file_bytes-more.ensures.refused))
    (subst (λ (bs : List ℕ). NamesTable purpose.Query 0 u.0 bs c.parsed-one.result.0) c.as_slice.ensures.value c.parsed-one.ensures.one)
    c.parsed-one.ensures.other
    _ _ c.file_bytes.ensures.counts.0 c.file_bytes.ensures.counts.1 c.file_bytes-more.ensures.counts.0 c.file_bytes-more.ensures.counts.1 c.both_tables.result c.both_tables.ensures
