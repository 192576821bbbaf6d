-- What grouping by points promises: it bounds the ordinary groups and guesses them exactly, and so does the relation by
-- points of each typed tree.
use Rattle.au_algebra.specs.Bounded.{Bounded, product}
use Rattle.au_algebra.specs.Products.{KeepsProduct}
use Rattle.au_points.specs.Groupings.{AnswersWith, KeepsGroups}
use Rattle.au_points.specs.Points.{by_points}

-- Grouping by points keeps what Group and Distinct keep.
abbrev pub PointsKeepGroups : Type 0
PointsKeepGroups = KeepsGroups by_points

-- With each product that keeps what Product keeps, the relation by points of each typed tree, and its answer, bound the
-- ordinary answer and guess it exactly.
abbrev pub AnyProductByPoints : Type 0
AnyProductByPoints = (join : Bounded → Bounded → Bounded) → KeepsProduct join → AnswersWith join by_points

-- So with Product itself.
abbrev pub BoundedByPointsAnswers : Type 0
BoundedByPointsAnswers = AnswersWith product by_points
