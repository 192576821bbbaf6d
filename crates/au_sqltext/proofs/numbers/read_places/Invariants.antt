-- The places that are left tell of all.
use Rattle.std.proofs.Common.{◌≡◌, drop}
use Rattle.std.specs.List.{list_all}
use Rattle.au_sqltext.specs.Fitting.{is_usize}
use Rattle.au_sqltext.proofs.numbers.read_places.Given as goal

abbrev pub invariant-loop-place : goal.invariant-loop-place
invariant-loop-place l = list_all is_usize (drop l.place-index l.places) ≡ list_all is_usize l.places
