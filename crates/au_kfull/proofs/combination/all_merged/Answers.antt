-- Each group has the kinds of all.
use Rattle.std.proofs.Common.{◌++◌, ap, map, subst, sym}
use Rattle.std.specs.List.{AllByRecursion}
use Rattle.au_kfull.specs.Keys.{HasKinds}
use Rattle.au_kfull.proofs.CombineRows.{merged_group}
use Rattle.au_kfull.proofs.Fitting.{triples_fit-map}
use Rattle.au_kfull.proofs.PutRows.{Held}
use Rattle.au_kfull.proofs.RowByRow.{split_at}
use Rattle.au_kfull.proofs.combination.all_merged.Goals as goal

pub loop-group-init : goal.loop-group-init
loop-group-init c =
    let groups = c.args.groups.now in
    record {
      made = ap (λ q. q ++ map merged_group groups) c.new-rel.ensures;
      fits = sym (triples_fit-map merged_group groups);
      one_kinds = c.requires;
    }

pub merged-requires : goal.merged-requires
merged-requires c =
    let ks = c.loop-group.invariant.one_kinds.0 in
    let whole = split_at c.args.groups.now c.loop-group.group-index c.group-item.result c.loop-group-test.true c.group-item.is in
    let here = subst (AllByRecursion (λ (g : Held). HasKinds ks g.items)) whole c.loop-group.invariant.one_kinds.1 in
    (ks, subst (HasKinds ks) (sym c.deref.ensures.value) here.0)
