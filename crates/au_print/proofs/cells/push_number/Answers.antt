-- A fixed-point number is shown as it is.
use Rattle.std.proofs.Common.{◌∙◌, ap, sym, to_z-of_z}
use Rattle.au_print.specs.Texts.{fixed_text, number_text}
use Rattle.au_print.specs.Tables.{printable}
use Rattle.au_print.proofs.PrintableDigits.{fixed_kept}
use Rattle.au_print.proofs.cells.push_number.Goals as goal

pub returns-in-Dec : goal.returns-in-Dec
returns-in-Dec c =
    let kept = ap (λ k. printable (number_text k c.args.n)) c.in-Dec.is ∙ fixed_kept c.in-Dec.scale c.args.n c.ranges.n.sfits ∙ ap (fixed_text c.in-Dec.scale) (sym (to_z-of_z c.ranges.n)) in
    rw kept c.push_fixed.ensures
