-- The digits that are left, before those that are written, are all.
use Rattle.std.proofs.Common.{◌≡◌, ◌-◌, drop, length, []}
use Rattle.au_codes.specs.Decoding.{unpacked}
use Rattle.au_codes.proofs.packing.unpack.Given as goal

abbrev pub invariant-loop-place : goal.invariant-loop-place
invariant-loop-place l = (length l.bytes ≡ 12) × (unpacked (12 - l.place) l.rest (drop (12 - l.place) l.bytes) ≡ unpacked 12 l.number [])
