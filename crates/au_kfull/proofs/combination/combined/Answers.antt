-- The groups are those of the rows by their guesses.
use Rattle.std.proofs.Common.{◌≡◌, ◌∙◌, ap, map, subst, sym}
use Rattle.std.specs.List.{AllByRecursion}
use Rattle.au_algebra.specs.Fits.{triples_fit}
use Rattle.au_kfull.specs.Gives.{GivesOrOverflows}
use Rattle.au_kfull.specs.Keys.{HasKinds}
use Rattle.au_kfull.proofs.CombineRows.{combine_groups, groups_kinds, merged_group}
use Rattle.au_kfull.proofs.PutRows.{Held}
use Rattle.au_kfull.proofs.combination.combined.Goals as goal

pub all_merged-requires : goal.all_merged-requires
all_merged-requires c =
    let ks = c.requires.0 in
    (ks, subst (AllByRecursion (λ (g : Held). HasKinds ks g.items)) (sym c.deref.ensures.value) (groups_kinds ks c.args.rows.now c.in_ok-groups.groups.items c.in_ok-groups.ensures c.requires.1))

pub returns : goal.returns
returns c =
    let all = ap (map merged_group) c.deref.ensures.value ∙ combine_groups c.args.rows.now c.in_ok-groups.groups.items c.in_ok-groups.ensures in
    subst (λ q. GivesOrOverflows c.all_merged.result (λ r. r ≡ q) (triples_fit q)) all c.all_merged.ensures
