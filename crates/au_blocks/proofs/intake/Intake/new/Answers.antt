-- No record yet.
use Rattle.std.proofs.Common.{◌∙◌, sym, refl}
use Rattle.au_blocks.proofs.OnePassColumns.{none-over}
use Rattle.au_blocks.proofs.intake.Intake.new.Goals as goal

pub returns : goal.returns
returns c = record {
  format = refl;
  wide = refl;
  columns = c.in_ok-columns.ensures ∙ sym (none-over c.args.format 0 c.args.kinds.now);
  blocks = c.new.ensures;
  count = refl;
  fitting = refl;
}
