-- Typed plans have their widths over cells.
use Rattle.au_vector.proofs.TypedWidths.{typed_wide}
use Rattle.au_vector.proofs.theorems.typed_plans_are_wide.Goals as goal

pub returns : goal.returns
returns c = typed_wide
