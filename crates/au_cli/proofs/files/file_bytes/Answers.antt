-- What was read of the file decides which bytes it gives.
use Rattle.au_cli.proofs.files.file_bytes.Goals as goal

pub returns-in-Err-clause-refused : goal.returns-in-Err-clause-refused
returns-in-Err-clause-refused g c = c.in-Err.ensures.refused c.args.before
