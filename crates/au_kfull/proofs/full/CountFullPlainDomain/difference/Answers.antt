-- The counted rows have the operator's kinds, and stand for the ordinary operator's.
use Rattle.std.proofs.Common.{◌≡◌, sym, subst}
use Rattle.au_algebra.specs.Counted.{StandsFor}
use Rattle.au_algebra.specs.Ordinary as ordinary
use Rattle.au_kfull.specs.Embedding.{IsCountedTable}
use Rattle.au_kfull.specs.NonPositive.{counted_operators, values_fit}
use Rattle.au_kfull.proofs.GivesMore.{gives_ok}
use Rattle.au_kfull.proofs.NonPositiveValues.{difference_stands, difference_kinds}
use Rattle.au_kfull.proofs.full.CountFullPlainDomain.difference.Goals as goal

pub returns-clause-kinds : goal.returns-clause-kinds
returns-clause-kinds c =
    gives_ok c.difference.result (λ r. r ≡ counted_operators.difference c.args.left.now c.args.right.now) (values_fit.difference c.args.left.now c.args.right.now) c.difference.ensures _
    (λ r same. λ ks a b. subst (IsCountedTable ks) (sym same) (difference_kinds c.args.left.now c.args.right.now ks a b))

pub returns-clause-stands : goal.returns-clause-stands
returns-clause-stands c =
    gives_ok c.difference.result (λ r. r ≡ counted_operators.difference c.args.left.now c.args.right.now) (values_fit.difference c.args.left.now c.args.right.now) c.difference.ensures _
    (λ r same. λ w xs ys a b. subst (λ rows. StandsFor rows (ordinary.difference xs ys)) (sym same) (difference_stands c.args.left.now c.args.right.now c.requires w xs ys a b))
