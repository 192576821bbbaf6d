-- The texts of a column are its cells.
use Rattle.au_blocks.proofs.Filled.{text-cells}
use Rattle.au_blocks.proofs.filling.filled.Goals as goal

pub returns-in_ok-texts-in-Text : goal.returns-in_ok-texts-in-Text
returns-in_ok-texts-in-Text c = rw (c.in-Text.is, c.texts-in-Text.ensures, c.in_ok-texts-in-Text.ensures) (text-cells c.args.format c.args.place c.args.records.now)
