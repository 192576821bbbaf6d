-- The number so far, with the digits that are left, is the front.
use Rattle.std.proofs.Common.{◌≡◌, ◌-◌, drop}
use Rattle.au_codes.specs.TextCodes.{packed}
use Rattle.au_codes.proofs.packing.pack.Given as goal

abbrev pub invariant-loop-place : goal.invariant-loop-place
invariant-loop-place l = packed (12 - l.place) l.number (drop l.place l.text) ≡ packed 12 0 l.text
