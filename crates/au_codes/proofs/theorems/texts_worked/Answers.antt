-- Worked numbers, by computation.
use Rattle.std.proofs.Common.{refl}
use Rattle.au_codes.proofs.theorems.texts_worked.Goals as goal

pub returns : goal.returns
returns c = record { empty = refl; letter = refl; nul = refl; two = refl; next = refl; ring = refl; short = refl; first = refl; second = refl }
