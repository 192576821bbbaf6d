-- What was read of the file decides which table it gives.
use Rattle.au_cli.proofs.FileTables.{read_cause}
use Rattle.au_cli.proofs.files.file_table.Goals as goal

pub returns-in-Err-clause-refused : goal.returns-in-Err-clause-refused
returns-in-Err-clause-refused g c =
    read_cause (g.S.Shelf.files c.args.shelf.now) c.args.purpose c.args.word.now.path.now c.args.file c.args.before _ _ _ _ c.in-Err.outcome c.in-Err.ensures.refused
