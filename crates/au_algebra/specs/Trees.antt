-- Query trees without where they lie in memory,
-- and the tree of a query.
use Rattle.std.specs.Prelude.{ℕ, List, map}
use Rattle.au_expr.specs.Terms.{Term, term}
use Rattle.au_algebra.specs.declared.query.Agg.{Agg}
use Rattle.au_algebra.specs.declared.query.Query.{Query}
use Rattle.au_algebra.specs.declared.query.Query.TheVariants as code

pub data Tree : Type 0 where
  Table : ℕ → Tree
  Select : Term → Tree → Tree
  Project : List Term → Tree → Tree
  Product : Tree → Tree → Tree
  Union : Tree → Tree → Tree
  Difference : Tree → Tree → Tree
  Distinct : Tree → Tree
  Group : ℕ → List Agg → Tree → Tree
  Total : List Agg → Tree → Tree

-- the tree of a query
abbrev pub tree : Query → Tree
tree (code.Table i) = Table i
tree (code.Select' e p q) = Select (term e) (tree q)
tree (code.Project' items p q) = Project (map term items.items) (tree q)
tree (code.Product' p a q b) = Product (tree a) (tree b)
tree (code.Union' p a q b) = Union (tree a) (tree b)
tree (code.Difference' p a q b) = Difference (tree a) (tree b)
tree (code.Distinct' p q) = Distinct (tree q)
tree (code.Group' keys aggs p q) = Group keys aggs.items (tree q)
tree (code.Total' aggs p q) = Total aggs.items (tree q)
