-- What queries show over literal tables.
use Rattle.std.specs.Prelude.{[], ◌∷◌, negsuc, refl}
use Rattle.au_value.specs.declared.value.Value.TheVariants.{Int}
use Rattle.au_value.specs.declared.comparison.Comparison.TheVariants.{Equal}
use Rattle.au_value.specs.Ranges.{range}
use Rattle.au_expr.specs.Terms.{Term, Compare, Literal, Multiply}
use Rattle.au_algebra.specs.declared.query.Agg.TheVariants.{Sum, Min}
use Rattle.au_algebra.specs.Trees.{Tree, Table, Select, Project, Product, Union, Difference, Distinct, Group, Total}
use Rattle.au_translate.specs.Translate.{bounded_blocks}
use Rattle.au_translate.proofs.ExampleData.{Shows, int, oslo, moss, ints, bergen_only, oslo_only, bergen_to_oslo, row, tables, signed, large, with_absent, keyed, col, lit}

abbrev equals : Term → Term → Term
equals a b = Compare Equal a b

-- the columns of the orders
abbrev all_of : Tree → Tree
all_of q = Project (col 0 ∷ col 1 ∷ col 2 ∷ []) q

all_orders : Shows (all_of (Table 0)) tables
    (row 1 1 1 (ints 1 1 1 ∷ bergen_to_oslo ∷ ints 10 10 12 ∷ [])
    ∷ row 1 1 1 (ints 2 2 2 ∷ bergen_only ∷ ints 5 5 5 ∷ [])
    ∷ row 0 1 1 (ints 3 3 3 ∷ oslo_only ∷ ints 7 7 7 ∷ [])
    ∷ [])
all_orders = refl

orders_to_oslo : Shows (all_of (Select (equals (col 1) (Literal oslo)) (Table 0))) tables
    (row 0 1 1 (ints 1 1 1 ∷ bergen_to_oslo ∷ ints 10 10 12 ∷ [])
    ∷ row 0 1 1 (ints 3 3 3 ∷ oslo_only ∷ ints 7 7 7 ∷ [])
    ∷ [])
orders_to_oslo = refl

joined_rates : Shows (Project (col 0 ∷ col 4 ∷ []) (Select (equals (col 1) (col 3)) (Product (Table 0) (Table 1)))) tables
    (row 0 1 1 (ints 1 1 1 ∷ ints 3 3 3 ∷ [])
    ∷ row 0 0 1 (ints 1 1 1 ∷ ints 4 4 4 ∷ [])
    ∷ row 1 1 1 (ints 2 2 2 ∷ ints 4 4 4 ∷ [])
    ∷ row 0 1 1 (ints 3 3 3 ∷ ints 3 3 3 ∷ [])
    ∷ [])
joined_rates = refl

total_sums : Shows (Project (col 0 ∷ col 1 ∷ []) (Total (Sum 0 ∷ Sum 1 ∷ []) (Project (lit 1 ∷ col 2 ∷ []) (Table 0)))) tables
    (row 1 1 1 (ints 2 3 3 ∷ ints 15 22 24 ∷ []) ∷ [])
total_sums = refl

sums_by_city : Shows (Project (col 0 ∷ col 1 ∷ []) (Group 1 (Sum 1 ∷ []) (Project (col 1 ∷ col 2 ∷ []) (Table 0)))) tables
    (row 1 1 1 (bergen_only ∷ ints 5 5 17 ∷ []) ∷ row 0 1 2 (bergen_to_oslo ∷ ints 0 17 24 ∷ []) ∷ [])
sums_by_city = refl

least_by_city : Shows (Project (col 0 ∷ col 1 ∷ []) (Group 1 (Min 1 ∷ []) (Project (col 1 ∷ col 2 ∷ []) (Table 0)))) tables
    (row 1 1 1 (bergen_only ∷ ints 5 5 5 ∷ []) ∷ row 0 1 2 (bergen_to_oslo ∷ ints 5 7 12 ∷ []) ∷ [])
least_by_city = refl

abbrev cities : Tree
cities = Project (col 1 ∷ []) (Table 0)

distinct_cities : Shows (Distinct cities) tables
    (row 1 1 1 (bergen_only ∷ []) ∷ row 0 1 2 (bergen_to_oslo ∷ []) ∷ [])
distinct_cities = refl

difference_of_all : Shows (Difference cities (Project (col 1 ∷ []) (Select (equals (col 0) (lit 2)) (Table 0)))) tables
    (row 0 2 2 (bergen_to_oslo ∷ []) ∷ [])
difference_of_all = refl

difference_of_distinct : Shows (Difference (Distinct cities) (Project (col 0 ∷ []) (Select (equals (col 1) (lit 4)) (Table 1)))) tables
    (row 0 1 2 (bergen_to_oslo ∷ []) ∷ [])
difference_of_distinct = refl

total_of_no_rows : Shows (Total (Sum 0 ∷ Sum 1 ∷ []) (Project (lit 1 ∷ col 2 ∷ []) (Table 0))) ([] ∷ [])
    (row 1 1 1 (ints 0 0 0 ∷ ints 0 0 0 ∷ []) ∷ [])
total_of_no_rows = refl

multiply_signed : Shows (Project (Multiply (col 0) (col 0) ∷ []) (Table 0)) (bounded_blocks signed ∷ [])
    (row 1 1 1 (range (Int (negsuc 5)) (int 4) (int 9) ∷ []) ∷ [])
multiply_signed = refl

group_large_numbers : Shows (Group 1 (Min 1 ∷ []) (Table 0)) (bounded_blocks large ∷ [])
    (row 1 1 1 (ints 1 1 1 ∷ ints 1 1 1 ∷ []) ∷ [])
group_large_numbers = refl

absent_in_guess_world : Shows (all_of (Select (equals (col 0) (lit 4)) (Table 0))) (bounded_blocks with_absent ∷ [])
    (row 0 0 1 (ints 4 4 4 ∷ range moss moss moss ∷ ints 1 1 1 ∷ []) ∷ [])
absent_in_guess_world = refl

union_of_cities : Shows (Union cities (Project (col 0 ∷ []) (Table 1))) tables
    (row 2 2 2 (bergen_only ∷ []) ∷ row 1 1 1 (bergen_to_oslo ∷ []) ∷ row 1 2 2 (oslo_only ∷ []) ∷ [])
union_of_cities = refl

-- a row with certain keys whose output's keys are not certain
certain_key_in_wide_box : Shows (Group 1 (Sum 1 ∷ []) (Project (col 0 ∷ lit 1 ∷ []) (Table 0))) (bounded_blocks keyed ∷ [])
    (row 1 1 2 (range moss oslo oslo ∷ ints 0 2 2 ∷ []) ∷ [])
certain_key_in_wide_box = refl
