-- The bounded operator's rows have its kinds, and stand for the ordinary operator's.
use Rattle.std.proofs.Common.{◌≡◌, sym, subst}
use Rattle.std.proofs.lemmas.Result.{IfOk-weaker}
use Rattle.au_algebra.specs.Bounded as bounded
use Rattle.au_algebra.specs.Laws.{IsRelation}
use Rattle.au_algebra.specs.Ordinary as ordinary
use Rattle.au_kfull.specs.NonPositive.{RangesStandFor}
use Rattle.au_kfull.proofs.NonPositiveRanges.{total_stands, total_has_kinds}
use Rattle.au_kfull.proofs.full.TripleFullRangeDomain.total.Goals as goal

pub returns-clause-kinds : goal.returns-clause-kinds
returns-clause-kinds c =
    IfOk-weaker c.total.result (λ r. r ≡ bounded.total c.args.aggs.now c.args.of.now) _
    (λ r same. λ ks js a h. subst (IsRelation js) (sym same) (total_has_kinds c.args.aggs.now c.args.of.now ks js a h)) c.total.ensures.rows

pub returns-clause-stands : goal.returns-clause-stands
returns-clause-stands c =
    IfOk-weaker c.total.result (λ r. r ≡ bounded.total c.args.aggs.now c.args.of.now) _
    (λ r same. λ w xs a. subst (λ rows. RangesStandFor w rows (ordinary.total c.args.aggs.now xs)) (sym same) (total_stands c.args.aggs.now c.args.of.now c.requires w xs a)) c.total.ensures.rows
