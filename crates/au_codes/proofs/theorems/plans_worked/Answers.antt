-- Worked rows, by computation.
use Rattle.std.proofs.Common.{refl}
use Rattle.au_codes.proofs.theorems.plans_worked.Goals as goal

pub returns : goal.returns
returns c = record { cells = refl; plan = refl; answer = refl }
