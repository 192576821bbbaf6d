-- The terms so far, with those that are left, are all.
use Rattle.std.proofs.Common.{◌≡◌, ◌+◌, ◌<◌, ◌^◌, drop, map, sum_by}
use Rattle.std.specs.Prelude.{◌+ℤ◌, nat_abs}
use Rattle.au_algebra.specs.Lists.{int_sum}
use Rattle.au_kfull.specs.Groups.{like, term_of}
use Rattle.au_kfull.proofs.sums.sum.Given as goal

abbrev pub invariant-loop-row : goal.invariant-loop-row
invariant-loop-row l = record {
  total : l.adder.total +ℤ int_sum (map (term_of (like l.keys l.certain) l.bound l.at) (drop l.row-index l.rows)) ≡ int_sum (map (term_of (like l.keys l.certain) l.bound l.at) l.rows);
  magnitude : l.adder.magnitude + sum_by nat_abs (map (term_of (like l.keys l.certain) l.bound l.at) (drop l.row-index l.rows)) ≡ sum_by nat_abs (map (term_of (like l.keys l.certain) l.bound l.at) l.rows);
  fits : l.adder.magnitude < 2 ^ 127;
}
