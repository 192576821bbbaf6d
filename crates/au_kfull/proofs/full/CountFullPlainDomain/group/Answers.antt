-- The counted rows have the operator's kinds, and stand for the ordinary operator's.
use Rattle.std.proofs.Common.{◌≡◌, sym, subst}
use Rattle.au_algebra.specs.Counted.{StandsFor}
use Rattle.au_algebra.specs.Ordinary as ordinary
use Rattle.au_kfull.specs.Embedding.{IsCountedTable}
use Rattle.au_kfull.specs.NonPositive.{counted_operators, values_fit}
use Rattle.au_kfull.proofs.GivesMore.{gives_ok}
use Rattle.au_kfull.proofs.NonPositiveValues.{group_stands, group_has_kinds}
use Rattle.au_kfull.proofs.full.CountFullPlainDomain.group.Goals as goal

pub returns-clause-kinds : goal.returns-clause-kinds
returns-clause-kinds c =
    gives_ok c.group.result (λ r. r ≡ counted_operators.group c.args.keys c.args.aggs.now c.args.of.now) (values_fit.group c.args.keys c.args.aggs.now c.args.of.now) c.group.ensures _
    (λ r same. λ ks js a h. subst (IsCountedTable js) (sym same) (group_has_kinds c.args.keys c.args.aggs.now c.args.of.now ks js a h))

pub returns-clause-stands : goal.returns-clause-stands
returns-clause-stands c =
    gives_ok c.group.result (λ r. r ≡ counted_operators.group c.args.keys c.args.aggs.now c.args.of.now) (values_fit.group c.args.keys c.args.aggs.now c.args.of.now) c.group.ensures _
    (λ r same. λ w xs a. subst (λ rows. StandsFor rows (ordinary.group c.args.keys c.args.aggs.now xs)) (sym same) (group_stands c.args.keys c.args.aggs.now c.args.of.now c.requires w xs a))
