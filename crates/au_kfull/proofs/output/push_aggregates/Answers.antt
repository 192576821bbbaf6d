-- At first all aggregates are left.
use Rattle.std.proofs.Common.{refl, sym}
use Rattle.au_value.specs.Numeral.{is_i128}
use Rattle.au_algebra.specs.Fits.{agg_numbers}
use Rattle.au_kfull.specs.Groups.{seen}
use Rattle.au_kfull.proofs.DifferenceRows.{list_all-flat_map}
use Rattle.au_kfull.proofs.output.push_aggregates.Goals as goal

pub loop-agg-init : goal.loop-agg-init
loop-agg-init c = record {
  made = refl;
  fits = sym (list_all-flat_map is_i128 (agg_numbers (seen c.args.group.now)) c.args.aggs.now);
  possible = c.requires;
}
