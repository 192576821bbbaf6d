-- The printed counts are those of the answer in the guess world.
use Rattle.std.proofs.Common.{◌≡◌, ◌&&◌, Bool, true, false, List, refl, sym, ◌∙◌, ap}
use Rattle.au_algebra.specs.Counted.{CountedRow, StandsFor}
use Rattle.au_algebra.specs.Ordinary.{Rows}
use Rattle.au_print.specs.GuessTexts.{counts_fit, guess_rows, world_rows}
use Rattle.au_print.proofs.GuessWorlds.{guess_world}

either : (a b : Bool) → b ≡ false → (a && b) ≡ false
either true b e = e
either false b e = refl

pub guess_printed : (rows : List CountedRow) (world : Rows) → StandsFor rows world → counts_fit (guess_rows rows) ≡ true → counts_fit (world_rows world) ≡ true
guess_printed rows world stands k = ap counts_fit (sym (guess_world rows world stands)) ∙ k

pub guess_left : (made : Bool) (rows : List CountedRow) (world : Rows) → StandsFor rows world → counts_fit (guess_rows rows) ≡ false
    → (made && counts_fit (world_rows world)) ≡ false
guess_left made rows world stands k = either made (counts_fit (world_rows world)) (ap counts_fit (sym (guess_world rows world stands)) ∙ k)
