-- How many operators a tree has.
use Rattle.std.specs.Prelude.{ℕ, ◌+◌, suc}
use Rattle.au_algebra.specs.Trees.{Tree, Table, Select, Project, Product, Union, Difference, Distinct, Group, Total}

abbrev pub tree_size : Tree → ℕ
tree_size (Table i) = 1
tree_size (Select e q) = suc (tree_size q)
tree_size (Project items q) = suc (tree_size q)
tree_size (Product a b) = suc (tree_size a + tree_size b)
tree_size (Union a b) = suc (tree_size a + tree_size b)
tree_size (Difference a b) = suc (tree_size a + tree_size b)
tree_size (Distinct q) = suc (tree_size q)
tree_size (Group keys aggs q) = suc (tree_size q)
tree_size (Total aggs q) = suc (tree_size q)
