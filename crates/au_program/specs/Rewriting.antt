-- One plan of a whole tree, over encoded tables.
use Rattle.std.specs.Prelude.{◌≡◌, ℕ, List, length, map, Some}
use Rattle.std.specs.List.{AllZip}
use Rattle.au_value.specs.declared.kinds.Kind.{Kind}
use Rattle.au_expr.specs.Figures.{Fit}
use Rattle.au_algebra.specs.Bounded.{Bounded, bounded}
use Rattle.au_algebra.specs.Fits.{numbers}
use Rattle.au_algebra.specs.Laws.{IsRelation}
use Rattle.au_algebra.specs.Lists.{SameUpToOrder, same_row}
use Rattle.au_algebra.specs.Trees.{Tree}
use Rattle.au_algebra.specs.Typing.{kinds_of}
use Rattle.au_plain.specs.Meaning.{plain_rows}
use Rattle.au_plain.specs.PlanKinds.{FitTables, plan_kinds}
use Rattle.au_plain.specs.PlanNumbers.{plan_numbers}
use Rattle.au_plain.specs.Plans.{PlanTree}
use Rattle.au_encode.specs.Encode.{encode, encoded_kinds}
use Rattle.au_encode.specs.Gives.{GivesRelation}
use Rattle.au_program.specs.Rules.{plain_rules, tree_numbers, tree_rows}

-- relations of these columns, whose whole numbers lie between -2^127 and 2^127 - 1 where they are encoded
pub record AreEncodable (kinds : List (List Kind)) (ts : List Bounded) : Type 0 where
  pub relations : AllZip IsRelation kinds ts
  pub fit : FitTables (map encode ts)

-- A plan of a tree that is typed for tables of these columns. Over encoded tables it is typed, with the encoded kinds of
-- the tree's columns, whatever the tables hold. Its rows are the encoded rows of the tree's bounded relation, each as often,
-- in some order. No number that it makes leaves the range where none of the tree's does.
pub record IsPlanOf (kinds : List (List Kind)) (q : Tree) (p : PlanTree) : Type 0 where
  pub typed : (ks : List Kind) → kinds_of kinds q ≡ Some ks → plan_kinds (map encoded_kinds kinds) p ≡ Some (encoded_kinds ks)
  pub rows : (ts : List Bounded) → AreEncodable kinds ts → SameUpToOrder same_row (plain_rows p (map encode ts)) (encode (bounded q ts))
  pub fits : (ts : List Bounded) → AreEncodable kinds ts → Fit (numbers q ts) → Fit (plan_numbers p (map encode ts))

-- what the plan of a tree's part gives, with its number of columns and its rows in the tree's order
abbrev pub GivesTree : List (List Kind) → Tree → PlanTree → ℕ → Type 0
GivesTree kinds q p c =
    (ts : List Bounded) (ks : List Kind) → AreEncodable kinds ts → kinds_of kinds q ≡ Some ks →
    (length ks ≡ c) × GivesRelation (map encoded_kinds kinds) (map encode ts) p ks (tree_rows plain_rules q ts) (tree_numbers plain_rules q ts)
