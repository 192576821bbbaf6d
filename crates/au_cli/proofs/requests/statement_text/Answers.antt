-- Why the files are not answered.
use Rattle.std.proofs.Common.{◌≡◌, sym, subst, map, Ok}
use Rattle.au_parse.specs.Views.{statement_tree}
use Rattle.au_engine.specs.Answers.{AnswerCause, statement_defects}
use Rattle.au_words.specs.CommandLine.{seen_request, seen_table}
use Rattle.au_cli.specs.Files.{FilesFound, tables_of}
use Rattle.au_cli.specs.declared.files.Purpose.TheVariants as purpose
use Rattle.au_cli.specs.FileCauses.{FilesCause}
use Rattle.au_cli.specs.Causes.{IsRead, RequestCause}
use Rattle.au_cli.specs.Requests.{numbers_fit}
use Rattle.au_cli.proofs.RequestCauses.{answer_cause, files_request}
use Rattle.au_cli.proofs.requests.statement_text.Goals as goal

pub returns-in-Err-clause-refused : goal.returns-in-Err-clause-refused
returns-in-Err-clause-refused g c =
    let r = seen_request c.args.request.now in
    let read : IsRead r = record { allowed = c.requires.allowed; statement = statement_tree c.args.statement.now; is = c.requires.tree } in
    let told = g.S.Shelf.files c.args.shelf.now in
    files_request told r _ _ _ _ c.in-Err.outcome read
    (subst (λ words. FilesCause told purpose.Query 0 0 (map seen_table words) (g.S.Shelf.faults c.args.shelf.now) (g.S.Shelf.faults c.query_tables.new.shelf) (g.S.Shelf.absences c.args.shelf.now) (g.S.Shelf.absences c.query_tables.new.shelf) c.in-Err.outcome)
    c.as_slice-words.ensures.value c.in-Err.ensures.refused)

pub returns-in-Err-answer_text-clause-refused : goal.returns-in-Err-answer_text-clause-refused
returns-in-Err-answer_text-clause-refused g c =
    let r = seen_request c.args.request.now in
    let s = statement_tree c.args.statement.now in
    let read : IsRead r = record { allowed = c.requires.allowed; statement = s; is = c.requires.tree } in
    let told = g.S.Shelf.files c.args.shelf.now in
    let given = subst (λ words. FilesFound told (map seen_table words) (λ found. tables_of found ≡ Ok c.in-Ok.tables.items)) c.as_slice-words.ensures.value c.in-Ok.ensures.tables in
    let cause = subst (λ ts. AnswerCause (statement_defects ts s) (numbers_fit r ts s) c.in-Err-answer_text.fault) c.as_slice.ensures.value c.in-Err-answer_text.ensures.refused in
    subst (λ o. RequestCause r told (g.S.Shelf.faults c.args.shelf.now) (g.S.Shelf.faults c.query_tables.new.shelf) (g.S.Shelf.absences c.args.shelf.now) (g.S.Shelf.absences c.query_tables.new.shelf) o) (sym c.ended.ensures)
    (answer_cause told r _ _ _ _ read c.in-Ok.tables.items c.in-Err-answer_text.fault given cause)
