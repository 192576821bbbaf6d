-- What is counted, and what is still to be counted.
use Rattle.std.proofs.Common.{◌≡◌, ◌+◌, ◌≤◌, drop}
use Rattle.au_codes.specs.Books.{rank}
use Rattle.au_codes.proofs.book.count_below.Given as goal

abbrev pub invariant-loop-text : goal.invariant-loop-text
invariant-loop-text l = (l.count + rank (drop l.text-index l.texts) l.word ≡ rank l.texts l.word) × (l.count ≤ l.text-index)
