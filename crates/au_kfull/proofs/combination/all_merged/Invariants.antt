-- The rows so far, with those of the groups that are left, are those of all groups.
use Rattle.std.proofs.Common.{◌≡◌, ◌++◌, List, map, drop}
use Rattle.std.specs.List.{AllByRecursion, list_all}
use Rattle.au_value.specs.declared.kinds.Kind.{Kind}
use Rattle.au_annot.specs.Triples.{in_range}
use Rattle.au_algebra.specs.Fits.{triples_fit}
use Rattle.au_kfull.specs.Keys.{HasKinds}
use Rattle.au_kfull.proofs.CombineRows.{merged_group}
use Rattle.au_kfull.proofs.combination.all_merged.Given as goal

abbrev pub invariant-loop-group : goal.invariant-loop-group
invariant-loop-group l = record {
  made : l.rel ++ map merged_group (drop l.group-index l.groups) ≡ map merged_group l.groups;
  fits : list_all (λ g. in_range (merged_group g).annot) (drop l.group-index l.groups) ≡ triples_fit (map merged_group l.groups);
  one_kinds : (ks : List Kind) × AllByRecursion (λ g. HasKinds ks g.items) (drop l.group-index l.groups);
}
