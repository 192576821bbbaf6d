-- The keys are all there, since none stands twice.
use Rattle.std.proofs.Common.{ap, map, sym, ◌∙◌, ℤ, List}
use Rattle.std.proofs.lemmas.List.{drop_all}
use Rattle.au_codes.specs.Codes.{Cells}
use Rattle.au_folds.specs.Keyed.{lists}
use Rattle.au_folds.specs.Packed.{unpacked}
use Rattle.au_folds.specs.Places.{seen_after}
use Rattle.au_folds.proofs.PackedLaws.{all_put}
use Rattle.au_folds.proofs.held.free_lists.Goals as goal

pub returns : goal.returns
returns c =
    let keys = c.args.keys.now in
    let u : ℤ → Cells = λ z. unpacked c.args.width c.args.deep z in
    let none = drop_all c.loop-key.key-index keys c.loop-key-test.false in
    ap (λ (ks : List ℤ). seen_after (lists c.loop-key.free.keys) (map u ks)) (sym none)
    ∙ c.loop-key.invariant
    ∙ all_put c.args.width c.args.deep keys c.requires.unique
