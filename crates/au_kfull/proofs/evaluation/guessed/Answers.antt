-- The tree is typed for the embedded tables.
use Rattle.std.proofs.Common.{◌∙◌, subst, sym}
use Rattle.au_algebra.specs.Trees.{tree}
use Rattle.au_kfull.specs.Typed.{IsTypedOver}
use Rattle.au_kfull.proofs.CertainTables.{typed_embedded}
use Rattle.au_kfull.proofs.evaluation.guessed.Goals as goal

pub evaluated-requires : goal.evaluated-requires
evaluated-requires c =
    let q = tree c.args.query.now in
    subst (IsTypedOver q) (sym (c.deref.ensures.value ∙ c.in_ok-certain.ensures)) (typed_embedded q c.args.tables.now c.requires)
