-- The laws of grouping by points, and of trees.
use Rattle.au_algebra.specs.Bounded.{product}
use Rattle.au_algebra.proofs.ByProduct.{product_keeps}
use Rattle.au_points.specs.PointLaws.{PointsKeepGroups, AnyProductByPoints, BoundedByPointsAnswers}
use Rattle.au_points.specs.Points.{by_points}
use Rattle.au_points.proofs.AnyGrouping.{any_grouping}
use Rattle.au_points.proofs.PointsKeep as keep

pub points_keep_groups : PointsKeepGroups
points_keep_groups = keep.points_keep_groups

pub any_product_by_points : AnyProductByPoints
any_product_by_points join keeps = any_grouping join by_points keeps keep.points_keep_groups

pub bounded_by_points_answers : BoundedByPointsAnswers
bounded_by_points_answers = any_product_by_points product product_keeps
