-- Further queries over literal tables: a condition with CASE, HAVING, many blocks.
use Rattle.std.specs.Prelude.{ℕ, false, List, [], ◌∷◌, replicate, Some, negsuc, refl}
use Rattle.au_value.specs.Ranges.{range}
use Rattle.au_value.specs.declared.value.Value.TheVariants.{Int}
use Rattle.au_value.specs.declared.comparison.Comparison.TheVariants.{Equal, Greater}
use Rattle.au_blocks.specs.Blocks.{Choices, choices}
use Rattle.au_expr.specs.Terms.{Compare, Literal, Case}
use Rattle.au_algebra.specs.declared.query.Agg.TheVariants.{Sum}
use Rattle.au_algebra.specs.Trees.{Table, Select, Project, Group, Total}
use Rattle.au_translate.specs.Translate.{bounded_blocks}
use Rattle.au_translate.proofs.ExampleData.{Shows, int, values, imputed, oslo, ints, bergen_only, bergen_to_oslo, row, tables, col, lit}

case_by_city : Shows (Project (col 0 ∷ Case (Compare Equal (col 1) (Literal oslo)) (col 2) (lit 0) ∷ []) (Table 0)) tables
    (row 1 1 1 (ints 1 1 1 ∷ ints 0 10 12 ∷ []) ∷ row 1 1 1 (ints 2 2 2 ∷ ints 0 0 0 ∷ []) ∷ row 0 1 1 (ints 3 3 3 ∷ ints 7 7 7 ∷ []) ∷ [])
case_by_city = refl

having_more : Shows (Project (col 0 ∷ col 1 ∷ []) (Select (Compare Greater (col 2) (lit 10)) (Group 1 (Sum 1 ∷ Sum 2 ∷ []) (Project (col 1 ∷ col 2 ∷ col 2 ∷ []) (Table 0))))) tables
    (row 0 0 1 (bergen_only ∷ ints 5 5 17 ∷ []) ∷ row 0 1 2 (bergen_to_oslo ∷ ints 0 17 24 ∷ []) ∷ [])
having_more = refl

one_each : Shows (Project (lit 1 ∷ []) (Table 0)) tables (row 2 3 3 (ints 1 1 1 ∷ []) ∷ [])
one_each = refl

all_of_no_rows : Shows (Table 0) ([] ∷ []) []
all_of_no_rows = refl

many : ℕ → List Choices
many n = replicate n (choices (values (int 1 ∷ []) ∷ values (int 2 ∷ []) ∷ []) false (Some 0))

total_of_many : Shows (Total (Sum 0 ∷ Sum 1 ∷ []) (Project (lit 1 ∷ col 0 ∷ []) (Table 0))) (bounded_blocks (many 300) ∷ [])
    (row 1 1 1 (ints 300 300 300 ∷ ints 300 300 600 ∷ []) ∷ [])
unfolding many
total_of_many = refl

-- 40 rows in the normal form, and grouped
many_merged : Shows (Table 0) (bounded_blocks (many 40) ∷ []) (row 40 40 40 (ints 1 1 2 ∷ []) ∷ [])
unfolding many
many_merged = refl

many_grouped : Shows (Group 1 (Sum 0 ∷ []) (Table 0)) (bounded_blocks (many 40) ∷ []) (row 0 1 40 (ints 1 1 2 ∷ ints 0 40 80 ∷ []) ∷ [])
unfolding many
many_grouped = refl

all_imputed : Shows (Table 0) (bounded_blocks imputed ∷ [])
    (row 1 3 5 (ints 1 1 1 ∷ ints 8 10 20 ∷ []) ∷ row 0 1 1 (ints 2 2 2 ∷ range (Int (negsuc 2)) (Int (negsuc 0)) (int 4) ∷ []) ∷ [])
all_imputed = refl

total_of_imputed : Shows (Total (Sum 0 ∷ Sum 1 ∷ []) (Project (lit 1 ∷ col 1 ∷ []) (Table 0))) (bounded_blocks imputed ∷ [])
    (row 1 1 1 (ints 1 4 6 ∷ ints 5 29 104 ∷ []) ∷ [])
total_of_imputed = refl
