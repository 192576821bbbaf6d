-- So far the characters of the bytes before this one are counted.
use Rattle.std.proofs.Common.{◌≡◌, take}
use Rattle.au_print.specs.Tables.{characters}
use Rattle.au_print.proofs.cells.characters.Given as goal

abbrev pub invariant-loop-byte : goal.invariant-loop-byte
invariant-loop-byte l = l.count ≡ characters (take l.byte-index l.text)
