-- The bounded operator's rows have its kinds, and stand for the ordinary operator's.
use Rattle.std.proofs.Common.{◌≡◌, sym, subst}
use Rattle.std.proofs.lemmas.Result.{IfOk-weaker}
use Rattle.au_algebra.specs.Bounded as bounded
use Rattle.au_algebra.specs.Laws.{IsRelation}
use Rattle.au_algebra.specs.Ordinary as ordinary
use Rattle.au_kfull.specs.NonPositive.{RangesStandFor}
use Rattle.au_kfull.proofs.NonPositiveRanges.{difference_stands, difference_kinds}
use Rattle.au_kfull.proofs.full.TripleFullRangeDomain.difference.Goals as goal

pub returns-clause-kinds : goal.returns-clause-kinds
returns-clause-kinds c =
    IfOk-weaker c.difference.result (λ r. r ≡ bounded.difference c.args.left.now c.args.right.now) _
    (λ r same. λ ks a b. subst (IsRelation ks) (sym same) (difference_kinds c.args.left.now c.args.right.now ks a b)) c.difference.ensures.rows

pub returns-clause-stands : goal.returns-clause-stands
returns-clause-stands c =
    IfOk-weaker c.difference.result (λ r. r ≡ bounded.difference c.args.left.now c.args.right.now) _
    (λ r same. λ w xs ys a b. subst (λ rows. RangesStandFor w rows (ordinary.difference xs ys)) (sym same) (difference_stands c.args.left.now c.args.right.now c.requires w xs ys a b)) c.difference.ensures.rows
