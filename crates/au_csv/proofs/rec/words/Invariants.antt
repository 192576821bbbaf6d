use Rattle.std.proofs.Common.{◌≡◌, take}
use Rattle.au_csv.proofs.rec.words.Given as goal

-- the words so far are the first fields
abbrev pub invariant-loop-place : goal.invariant-loop-place
invariant-loop-place l = l.words.items ≡ take l.place l.record
