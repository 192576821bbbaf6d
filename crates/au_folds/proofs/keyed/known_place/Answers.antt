-- The place that the search found is that of the key's cells.
use Rattle.std.proofs.Common.{refl, ℤ}
use Rattle.std.specs.Prelude.{Vec}
use Rattle.std.specs.Cmp.Lexicographic.{pointwise}
use Rattle.std.specs.Ordering.{int_eq}
use Rattle.std.specs.declared.alloc.Global.{Global}
use Rattle.au_folds.proofs.KeySets.{found}
use Rattle.au_folds.proofs.keyed.known_place.Goals as goal

pub returns-in-Some : goal.returns-in-Some
returns-in-Some c =
    let key = c.args.key.now in
    found (λ (k : Vec ℤ Global). k.items) (λ (k : Vec ℤ Global). pointwise int_eq key k.items) key (λ k. refl) c.args.known.now.keys c.in-Some.place c.in-Some.ensures.found c.in-Some.ensures.index
