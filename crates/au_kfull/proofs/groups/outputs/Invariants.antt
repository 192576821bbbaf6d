-- The outputs so far, with those of the groups that are left, are all.
use Rattle.std.proofs.Common.{◌≡◌, ◌++◌, drop, map}
use Rattle.std.specs.List.{AllByRecursion, list_all}
use Rattle.au_algebra.specs.Bounded.{present}
use Rattle.au_kfull.specs.Outputs.{IsOutputReady, made_fits, made_output}
use Rattle.au_kfull.proofs.groups.outputs.Given as goal

abbrev pub invariant-loop-group : goal.invariant-loop-group
invariant-loop-group l = record {
  made : l.rel ++ present (map (λ g. made_output l.keys l.aggs l.rows g.items) (drop l.group-index l.groups)) ≡ present (map (λ g. made_output l.keys l.aggs l.rows g.items) l.groups);
  fits : list_all (λ g. made_fits l.keys l.aggs l.rows g.items) (drop l.group-index l.groups) ≡ list_all (λ g. made_fits l.keys l.aggs l.rows g.items) l.groups;
  ready : AllByRecursion (λ g. IsOutputReady l.keys l.aggs l.rows g.items) (drop l.group-index l.groups);
}
