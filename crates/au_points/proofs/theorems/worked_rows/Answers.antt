-- Each computes.
use Rattle.std.proofs.Common.{refl}
use Rattle.au_points.proofs.theorems.worked_rows.Goals as goal

pub returns : goal.returns
returns c = record {
  orders_by_points = refl;
  orders_by_hulls = refl;
  customers_by_points = refl;
  customers_by_hulls = refl;
  movers_by_points = refl;
  many_by_points = refl;
  many_by_hulls = refl;
}
