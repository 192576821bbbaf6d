-- The best numbers so far, with those that are left, are those of all.
use Rattle.std.proofs.Common.{◌≡◌, drop}
use Rattle.au_codes.specs.Careful.{extreme_number}
use Rattle.au_folds.specs.Puts.{put_all}
use Rattle.au_folds.proofs.numbers.improve_each.Given as goal

abbrev pub invariant-loop-i : goal.invariant-loop-i
invariant-loop-i l =
    put_all (λ z. z) (extreme_number l.how) l.bests.items (drop l.i l.places) (drop l.i l.numbers)
    ≡ put_all (λ z. z) (extreme_number l.how) l.fn.bests.items l.places l.numbers
