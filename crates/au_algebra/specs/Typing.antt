-- Which query trees fit columns of which kinds,
-- and the kinds of the columns that they give.
use Rattle.std.specs.Prelude.{ℕ, Bool, IsTrue, false, true, List, [], ◌∷◌, ◌++◌, length, map, take, slice_get, Option, Some, None, is_some, nat_le, option_and_then, if◌then◌else◌}
use Rattle.std.specs.List.{list_all}
use Rattle.std.specs.Cmp.Lexicographic.{pointwise}
use Rattle.au_value.specs.declared.kinds.Kind.{Kind}
use Rattle.au_value.specs.declared.kinds.Kind.TheVariants.{Int, Flag}
use Rattle.au_value.specs.Order.{kind_eq}
use Rattle.au_expr.specs.Terms.{Term}
use Rattle.au_expr.specs.Kinds.{kind_in, is_kind}
use Rattle.au_algebra.specs.declared.query.Agg.{Agg}
use Rattle.au_algebra.specs.declared.query.Agg.TheVariants.{Sum, Min, Max}
use Rattle.au_algebra.specs.Trees.{Tree}
use Rattle.au_algebra.specs.Trees.{Table, Select, Project, Product, Union, Difference, Distinct, Group, Total}

-- all of the kinds, where each is there
abbrev pub all_kinds : List (Option Kind) → Option (List Kind)
all_kinds [] = Some []
all_kinds (o ∷ os) = option_and_then (λ k. option_and_then (λ ks. Some (k ∷ ks)) (all_kinds os)) o

-- these kinds, where the test holds
abbrev pub kinds_if : Bool → List Kind → Option (List Kind)
kinds_if fits ks = if fits then Some ks else None

abbrev pub same_kinds : List Kind → List Kind → Bool
same_kinds js ks = pointwise kind_eq js ks

-- the kind of an aggregate over columns of these kinds
abbrev pub agg_kind : List Kind → Agg → Option Kind
agg_kind ks (Sum c) = if is_kind Int (slice_get ks c) then Some Int else None
agg_kind ks (Min c) = slice_get ks c
agg_kind ks (Max c) = slice_get ks c

abbrev pub is_sum : Agg → Bool
is_sum (Sum c) = true
is_sum (Min c) = false
is_sum (Max c) = false

-- the kinds of the expressions over these columns
abbrev pub items_kinds : List Kind → List Term → Option (List Kind)
items_kinds ks items = all_kinds (map (kind_in ks) items)

-- the kinds of the keys and then of the aggregates
abbrev pub group_kinds : ℕ → List Agg → List Kind → Option (List Kind)
group_kinds keys aggs ks =
    if nat_le keys (length ks)
    then option_and_then (λ more. Some (take keys ks ++ more)) (all_kinds (map (agg_kind ks) aggs))
    else None

-- the kinds of the sums over all rows
abbrev pub total_kinds : List Agg → List Kind → Option (List Kind)
total_kinds aggs ks = if list_all is_sum aggs then all_kinds (map (agg_kind ks) aggs) else None

-- the kinds of the columns that a tree gives over tables of these kinds, and none where it is not typed
abbrev pub kinds_of : List (List Kind) → Tree → Option (List Kind)
kinds_of ts (Table i) = slice_get ts i
kinds_of ts (Select e q) = option_and_then (λ ks. kinds_if (is_kind Flag (kind_in ks e)) ks) (kinds_of ts q)
kinds_of ts (Project items q) = option_and_then (λ ks. items_kinds ks items) (kinds_of ts q)
kinds_of ts (Product a b) = option_and_then (λ ks. option_and_then (λ js. Some (ks ++ js)) (kinds_of ts b)) (kinds_of ts a)
kinds_of ts (Union a b) = option_and_then (λ ks. option_and_then (λ js. kinds_if (same_kinds ks js) ks) (kinds_of ts b)) (kinds_of ts a)
kinds_of ts (Difference a b) = option_and_then (λ ks. option_and_then (λ js. kinds_if (same_kinds ks js) ks) (kinds_of ts b)) (kinds_of ts a)
kinds_of ts (Distinct q) = kinds_of ts q
kinds_of ts (Group keys aggs q) = option_and_then (λ ks. group_kinds keys aggs ks) (kinds_of ts q)
kinds_of ts (Total aggs q) = option_and_then (λ ks. total_kinds aggs ks) (kinds_of ts q)

-- the tree is typed for tables of these kinds
abbrev pub IsTyped : List (List Kind) → Tree → Type 0
IsTyped ts q = IsTrue (is_some (kinds_of ts q))
