-- Each place so far stands at itself.
use Rattle.std.proofs.Common.{◌≡◌, ◌<◌, ℕ, get_or, length}
use Rattle.au_folds.proofs.seen.first_places.Given as goal

abbrev pub invariant-loop-i : goal.invariant-loop-i
invariant-loop-i l = record {
  long : length l.places.items ≡ l.count;
  each : (k : ℕ) → k < l.i → get_or l.places.items k 0 ≡ k;
}
