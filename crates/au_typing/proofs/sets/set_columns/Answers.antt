-- The columns are those of sides that fit.
use Rattle.std.proofs.Common.{sym, subst}
use Rattle.au_typing.specs.Judged.{FewDigits}
use Rattle.au_typing.proofs.SetColumns.{set_done, set_few}
use Rattle.au_typing.proofs.sets.set_columns.Goals as goal

pub returns-clause-few : goal.returns-clause-few
returns-clause-few c =
    subst FewDigits (sym (set_done c.loop-l.columns.items c.loop-l.own.now c.loop-l.other.now c.args.left.now c.args.right.now c.in_default.ensures.cases c.loop-l.invariant.0))
    (set_few c.args.left.now c.args.right.now c.requires)
