-- The query is typed for the table.
use Rattle.std.proofs.Common.{[], ◌∷◌, refl, sym, subst}
use Rattle.au_value.specs.declared.kinds.Kind.TheVariants.{Int}
use Rattle.au_annot.specs.Pairs.{IsPair}
use Rattle.au_expr.specs.Ordinary.{IsKind}
use Rattle.au_keval.specs.Reading.{IsPositiveOver}
use Rattle.au_evaltests.proofs.ua_tests.twice.Goals as goal

pub ua-requires : goal.ua-requires
ua-requires c =
    subst (λ q. IsPositiveOver IsKind IsPair q (c.args.table ∷ [])) (sym c.in_ok-query.ensures)
    (record { kinds = (Int ∷ []) ∷ []; tables = (c.requires, tt); typed = refl; positive = refl })
