-- So far the bytes before this one are shown.
use Rattle.std.proofs.Common.{◌≡◌, ◌++◌, take}
use Rattle.au_print.specs.Tables.{printable}
use Rattle.au_print.proofs.cells.push_printable.Given as goal

abbrev pub invariant-loop-byte : goal.invariant-loop-byte
invariant-loop-byte l = l.text.items ≡ l.initial.text.items ++ printable (take l.byte-index l.bytes)
