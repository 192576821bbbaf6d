-- The place that the search found is that of the key's cells.
use Rattle.std.proofs.Common.{refl, ℤ}
use Rattle.std.specs.Prelude.{Vec}
use Rattle.std.specs.Cmp.Lexicographic.{pointwise}
use Rattle.std.specs.Ordering.{int_eq}
use Rattle.std.specs.declared.alloc.Global.{Global}
use Rattle.au_folds.proofs.KeySets.{finds}
use Rattle.au_folds.proofs.keys.list_found.Goals as goal

pub returns : goal.returns
returns c =
    let key = c.args.key.now in
    finds (λ (k : Vec ℤ Global). k.items) (λ (k : Vec ℤ Global). pointwise int_eq key k.items) key (λ k. refl) c.args.known.now.keys c.get_index_of.result c.get_index_of.ensures.index c.get_index_of.ensures.found
