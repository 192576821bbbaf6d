-- The keys by their cells.
use Rattle.std.proofs.Common.{ap, refl, ◌∙◌, ℤ}
use Rattle.std.specs.Prelude.{Vec}
use Rattle.std.specs.Cmp.Lexicographic.{pointwise}
use Rattle.std.specs.Ordering.{int_eq}
use Rattle.std.specs.declared.alloc.Global.{Global}
use Rattle.au_folds.specs.Keyed.{lists}
use Rattle.au_folds.proofs.KeySets.{insert_is, place_is}
use Rattle.au_folds.proofs.keyed.put_new.Goals as goal

pub returns-clause-place : goal.returns-clause-place
returns-clause-place c =
    let key = c.args.key.items in
    c.in_ok-place.ensures.index ∙ place_is (λ (k : Vec ℤ Global). k.items) (λ (k : Vec ℤ Global). pointwise int_eq key k.items) key (λ k. refl) c.args.known.now.keys

pub returns-clause-seen : goal.returns-clause-seen
returns-clause-seen c =
    ap lists c.in_ok-place.ensures.keys
    ∙ insert_is (λ (k : Vec ℤ Global). k.items) (λ (x y : Vec ℤ Global). pointwise int_eq x.items y.items) (λ x y. refl) c.args.known.now.keys c.args.key
