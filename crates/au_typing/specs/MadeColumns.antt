-- Whether a tree makes no more columns than may be made, along each path from its top to a table.
use Rattle.std.specs.Prelude.{ℕ, ◌-◌, ◌&&◌, Bool, true, length, nat_le}
use Rattle.au_algebra.specs.Trees.{Tree, Table, Select, Project, Product, Union, Difference, Distinct, Group, Total}

-- at most so many: the items of each Project, and the keys and the aggregates of each grouping
abbrev pub makes_at_most : ℕ → Tree → Bool
makes_at_most n (Table i) = true
makes_at_most n (Select e q) = makes_at_most n q
makes_at_most n (Project items q) = nat_le (length items) n && makes_at_most (n - length items) q
makes_at_most n (Product a b) = makes_at_most n a && makes_at_most n b
makes_at_most n (Union a b) = makes_at_most n a && makes_at_most n b
makes_at_most n (Difference a b) = makes_at_most n a && makes_at_most n b
makes_at_most n (Distinct q) = makes_at_most n q
makes_at_most n (Group keys aggs q) = nat_le keys n && nat_le (length aggs) (n - keys) && makes_at_most (n - keys - length aggs) q
makes_at_most n (Total aggs q) = nat_le (length aggs) n && makes_at_most (n - length aggs) q

abbrev pub makes_few_columns : Tree → Bool
makes_few_columns q = makes_at_most 8192 q
