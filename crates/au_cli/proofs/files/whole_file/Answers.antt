-- A file that is too large has this refusal, whatever was read before.
use Rattle.std.proofs.Common.{Err, ap, refl}
use Rattle.au_cli.proofs.FileTables.{large_refused}
use Rattle.au_cli.proofs.files.whole_file.Goals as goal

pub returns-in-Err-TooLarge-clause-refused : goal.returns-in-Err-TooLarge-clause-refused
returns-in-Err-TooLarge-clause-refused g c before =
    (refl, large_refused (g.S.Shelf.files c.args.shelf.now) c.args.path.now c.args.file before (c.in-Err-TooLarge.ensures.too_large (ap Err c.in-Err-TooLarge.field-0-is)))
