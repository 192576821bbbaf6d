-- What the records that are left leave of the marks so far is what all leave of the first ones.
use Rattle.std.proofs.Common.{◌≡◌, drop}
use Rattle.au_blocks.specs.Marks.{marks}
use Rattle.au_blocks.proofs.kinds.numerals.Given as goal

abbrev pub invariant-loop-record : goal.invariant-loop-record
invariant-loop-record l = marks l.format (drop l.record-index l.rows) 0 l.marks.items ≡ marks l.format l.rows 0 l.fn.marks.items
