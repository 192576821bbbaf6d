-- There are two words.
use Rattle.std.proofs.Common.{◌≡◌, ◌∷◌, [], List, Ok, ap, map, subst, sym}
use Rattle.std.specs.Prelude.{IfErr, IfOk}
use Rattle.au_words.specs.CommandLine.{seen_table}
use Rattle.au_cli.specs.FileCauses.{FilesCause}
use Rattle.au_value.specs.Texts.{Text}
use Rattle.au_cli.specs.Files.{FilesFound, tables_from}
use Rattle.au_cli.specs.declared.files.Purpose.TheVariants as purpose
use Rattle.au_cli.proofs.two_files.query_tables.Goals as goal

pub returns-in-Some-clause-tables : goal.returns-in-Some-clause-tables
returns-in-Some-clause-tables g c =
    subst (λ (words : List (Text × Text)). IfOk c.two_tables.result (λ v. FilesFound (g.S.Shelf.files c.args.shelf.now) words (λ found. tables_from purpose.Query 0 0 found ≡ Ok v.items))) (sym (ap (map seen_table) c.in-Some.ensures)) c.two_tables.ensures.tables

pub returns-in-Some-clause-refused : goal.returns-in-Some-clause-refused
returns-in-Some-clause-refused g c =
    subst (λ (words : List (Text × Text)). IfErr c.two_tables.result (FilesCause (g.S.Shelf.files c.args.shelf.now) purpose.Query 0 0 words (g.S.Shelf.faults c.args.shelf.now) (g.S.Shelf.faults c.two_tables.new.shelf) (g.S.Shelf.absences c.args.shelf.now) (g.S.Shelf.absences c.two_tables.new.shelf)))
    (sym (ap (map seen_table) c.in-Some.ensures)) c.two_tables.ensures.refused
