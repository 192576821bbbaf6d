-- So far the byte is there as often as the loop has run.
use Rattle.std.proofs.Common.{◌≡◌, ◌++◌, replicate}
use Rattle.au_print.proofs.repeated.push_repeated.Given as goal

abbrev pub invariant-loop : goal.invariant-loop
invariant-loop l = l.text.items ≡ l.initial.text.items ++ replicate l.counter l.byte
