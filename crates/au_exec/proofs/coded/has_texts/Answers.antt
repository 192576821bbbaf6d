-- A book without a first text has none.
use Rattle.std.proofs.Common.{ap, sym, ◌∙◌}
use Rattle.std.specs.Prelude.{option_copied}
use Rattle.au_exec.proofs.HeldCodes.{no_first}
use Rattle.au_exec.proofs.coded.has_texts.Goals as goal

pub returns-in-None : goal.returns-in-None
returns-in-None c = λ without. no_first c.args.book.now (sym (ap option_copied c.in-None.is) ∙ c.text.ensures)
