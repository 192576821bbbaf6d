-- Groups of the same keys and aggregates are alike.
use Rattle.std.proofs.Common.{◌∷◌, [], subst, sym}
use Rattle.au_plain.specs.declared.plan.PAgg.TheVariants as agg
use Rattle.au_folds.specs.Merged.{Alike}
use Rattle.au_folds.specs.Tables.{empty_table, grown}
use Rattle.au_texttests.proofs.fold_tests.sums_merged.Goals as goal

pub merge-requires : goal.merge-requires
merge-requires c =
    let aggs = agg.Sum 0 ∷ [] in
    let none = empty_table c.args.keys.now aggs in
    let alike = c.tables_stay_alike.ensures c.args.keys.now aggs c.args.first.now c.args.second.now in
    subst (Alike c.in_ok-front.front) (sym c.in_ok-back.ensures) (subst (λ t. Alike t (grown none c.args.second.now)) (sym c.in_ok-front.ensures) alike)
