-- So far the widths of the names before this one are there.
use Rattle.std.proofs.Common.{◌≡◌, take, map}
use Rattle.au_print.specs.Tables.{characters, printable}
use Rattle.au_print.proofs.widths.name_widths.Given as goal

abbrev pub invariant-loop-name : goal.invariant-loop-name
invariant-loop-name l = l.widths.items ≡ map (λ n. characters (printable n)) (take l.name-index l.names)
