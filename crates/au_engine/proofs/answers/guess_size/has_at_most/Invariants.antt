-- The rows that are left have room in what is left just where all have room.
use Rattle.std.proofs.Common.{◌≡◌, drop, map, nat_le, sum}
use Rattle.au_translate.specs.Translate.{guessed_copies}
use Rattle.au_engine.proofs.answers.guess_size.has_at_most.Given as goal

abbrev pub invariant-loop-place : goal.invariant-loop-place
invariant-loop-place l = nat_le (sum (map guessed_copies (drop l.place l.blocks))) l.left ≡ nat_le (sum (map guessed_copies l.blocks)) l.count
