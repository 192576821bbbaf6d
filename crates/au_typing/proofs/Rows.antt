-- Worked rows, computed from the definitions.
use Rattle.std.specs.Prelude.{ℕ, ◌≡◌, true, false, List, [], ◌∷◌, ◌++◌, decimal, Option, Some, None, codes, pos}
use Rattle.std.proofs.Common.{refl}
use Rattle.au_value.specs.declared.kinds.Kind.{Kind}
use Rattle.au_value.specs.declared.kinds.Kind.TheVariants as kind
use Rattle.au_value.specs.declared.value.Value.TheVariants as value
use Rattle.au_value.specs.declared.comparison.Comparison.TheVariants as comparison
use Rattle.au_expr.specs.Terms as term
use Rattle.au_algebra.specs.Trees as query
use Rattle.au_algebra.specs.declared.query.Agg.TheVariants as agg
use Rattle.au_blocks.specs.declared.column.Column.{Column}
use Rattle.au_parse.specs.declared.AggWord.TheVariants as word
use Rattle.au_parse.specs.Tree.{TermTree, ItemTree, QueryTree, Sources, Operator, SetWord}
use Rattle.au_typing.specs.Queries.{Relation, typing_defects, resolved_tree, resolved_names, resolved_kinds}
use Rattle.au_typing.specs.declared.fault.TypingFault.TheVariants as fault

abbrev column_of : List ℕ → Kind → Column
column_of name kind = record { name = name; kind = kind }

-- the tables: `orders` with id, city and amount, and `rates` with city and fee
abbrev orders : Relation
orders = record { name = codes "orders"; columns = column_of (codes "id") kind.Int ∷ column_of (codes "city") kind.Text ∷ column_of (codes "amount") kind.Int ∷ [] }

abbrev rates : Relation
rates = record { name = codes "rates"; columns = column_of (codes "city") kind.Text ∷ column_of (codes "fee") kind.Int ∷ [] }

-- and `prices` with price, of two digits behind the point, and quantity
abbrev prices : Relation
prices = record { name = codes "prices"; columns = column_of (codes "price") (kind.Dec 2) ∷ column_of (codes "quantity") kind.Int ∷ [] }

abbrev tables : List Relation
tables = orders ∷ rates ∷ prices ∷ []

abbrev name_at : ℕ → List ℕ → TermTree
name_at at column = TermTree.column (record { at = at; table = None; column = column })

abbrev qualified : ℕ → List ℕ → List ℕ → TermTree
qualified at table column = TermTree.column (record { at = at; table = Some table; column = column })

abbrev item : TermTree → ItemTree
item e = ItemTree.value e None

abbrev plain_select : List ItemTree → Sources → Option (ℕ × TermTree) → QueryTree
plain_select items from condition = QueryTree.select 0 false items from condition [] false None

abbrev from_orders : ℕ → Sources
from_orders at = Sources.table at (codes "orders") None Sources.no_sources

abbrev from_both : ℕ → ℕ → Sources
from_both i j = Sources.table i (codes "orders") (Some (codes "o")) (Sources.table j (codes "rates") (Some (codes "r")) Sources.no_sources)

-- SELECT MIN(amount) FROM orders
min_needs_group : typing_defects tables (plain_select (item (TermTree.aggregate 7 word.Min (name_at 11 (codes "amount"))) ∷ []) (from_orders 24) None) ≡ fault.MinMaxNeedsGroup 7 ∷ []
min_needs_group = refl

-- SELECT COUNT(*) FROM orders o, rates r
count_over_join : typing_defects tables (plain_select (item (TermTree.count_rows 7) ∷ []) (from_both 21 31) None) ≡ fault.CountOverJoin 7 ∷ []
count_over_join = refl

-- SELECT COUNT(*) FROM (SELECT o.id FROM orders o, rates r) u
count_over_inner_join :
    typing_defects tables (plain_select (item (TermTree.count_rows 7) ∷ []) (Sources.inner 21 (plain_select (item (qualified 29 (codes "o") (codes "id")) ∷ []) (from_both 39 49) None) (codes "u") Sources.no_sources) None)
    ≡ fault.CountOverJoin 7 ∷ []
count_over_inner_join = refl

-- SELECT z FROM orders
unknown_column : typing_defects tables (plain_select (item (name_at 7 (codes "z")) ∷ []) (from_orders 14) None) ≡ fault.UnknownColumn 7 ∷ []
unknown_column = refl

-- SELECT id FROM orders WHERE city > 1
kind_mismatch :
    typing_defects tables (plain_select (item (name_at 7 (codes "id")) ∷ []) (from_orders 15) (Some (22, TermTree.binary 33 (Operator.compare comparison.Greater) (name_at 28 (codes "city")) (TermTree.number 35 (pos 1)))))
    ≡ fault.KindMismatch 33 ∷ []
kind_mismatch = refl

-- SELECT CITY, SUM(amount) FROM orders GROUP BY city HAVING COUNT(*) > 1
abbrev grouped : QueryTree
grouped =
    QueryTree.select 0 false (item (name_at 7 (codes "CITY")) ∷ item (TermTree.aggregate 13 word.Sum (name_at 17 (codes "amount"))) ∷ []) (from_orders 30) None
    (record { at = 46; table = None; column = codes "city" } ∷ []) true
    (Some (51, TermTree.binary 67 (Operator.compare comparison.Greater) (TermTree.count_rows 58) (TermTree.number 69 (pos 1))))

grouped_well : typing_defects tables grouped ≡ []
grouped_well = refl

grouped_names : resolved_names tables grouped ≡ codes "city" ∷ (codes "col" ++ decimal 2) ∷ []
grouped_names = refl

grouped_kinds : resolved_kinds tables grouped ≡ kind.Text ∷ kind.Int ∷ []
grouped_kinds = refl

grouped_tree :
    resolved_tree tables grouped
    ≡ query.Project (term.Column 0 ∷ term.Column 1 ∷ []) (
    query.Select (term.Compare comparison.Greater (term.Column 2) (term.Literal (value.Int (pos 1)))) (
    query.Group 1 (agg.Sum 1 ∷ agg.Sum 2 ∷ []) (query.Project (term.Column 1 ∷ term.Column 2 ∷ term.Literal (value.Int (pos 1)) ∷ []) (query.Table 0))
    )
    )
grouped_tree = refl

-- SELECT * FROM orders o, rates r WHERE o.city = r.city
abbrev starred : QueryTree
starred = plain_select (ItemTree.star 7 ∷ []) (from_both 14 24) (Some (32, TermTree.binary 45 (Operator.compare comparison.Equal) (qualified 38 (codes "o") (codes "city")) (qualified 47 (codes "r") (codes "city"))))

starred_well : typing_defects tables starred ≡ []
starred_well = refl

starred_names : resolved_names tables starred ≡ codes "id" ∷ codes "city" ∷ codes "amount" ∷ codes "city" ∷ codes "fee" ∷ []
starred_names = refl

starred_tree :
    resolved_tree tables starred
    ≡ query.Project (term.Column 0 ∷ term.Column 1 ∷ term.Column 2 ∷ term.Column 3 ∷ term.Column 4 ∷ []) (
    query.Select (term.Compare comparison.Equal (term.Column 1) (term.Column 3)) (query.Product (query.Table 0) (query.Table 1))
    )
starred_tree = refl

-- SELECT city FROM orders EXCEPT SELECT city FROM rates
abbrev except : QueryTree
except = QueryTree.set SetWord.except false 24 (plain_select (item (name_at 7 (codes "city")) ∷ []) (from_orders 17) None) (plain_select (item (name_at 38 (codes "city")) ∷ []) (Sources.table 48 (codes "rates") None Sources.no_sources) None)

except_well : typing_defects tables except ≡ []
except_well = refl

except_tree : resolved_tree tables except ≡ query.Difference (query.Distinct (query.Project (term.Column 1 ∷ []) (query.Table 0))) (query.Project (term.Column 0 ∷ []) (query.Table 1))
except_tree = refl

abbrev priced : TermTree → QueryTree
priced e = plain_select (item e ∷ []) (Sources.table 20 (codes "prices") None Sources.no_sources) None

abbrev hundredfold : term.Term → term.Term
hundredfold e = term.Multiply e (term.Literal (value.Int (pos 100)))

-- SELECT price * quantity FROM prices
cost_kinds : resolved_kinds tables (priced (TermTree.binary 13 Operator.multiply (name_at 7 (codes "price")) (name_at 15 (codes "quantity")))) ≡ kind.Dec 2 ∷ []
cost_kinds = refl

-- SELECT price + 1 FROM prices
sum_tree :
    resolved_tree tables (priced (TermTree.binary 13 Operator.add (name_at 7 (codes "price")) (TermTree.number 15 (pos 1))))
    ≡ query.Project (term.Add (term.Column 0) (hundredfold (term.Literal (value.Int (pos 1)))) ∷ []) (query.Table 2)
sum_tree = refl

-- SELECT price < 2.6 FROM prices
comparison_tree :
    resolved_tree tables (priced (TermTree.binary 13 (Operator.compare comparison.Less) (name_at 7 (codes "price")) (TermTree.decimal 15 (pos 26) 1)))
    ≡ query.Project (term.Compare comparison.Less (term.Column 0) (term.Multiply (term.Literal (value.Int (pos 26))) (term.Literal (value.Int (pos 10)))) ∷ []) (query.Table 2)
comparison_tree = refl

-- SELECT price * 0.12345678 FROM prices
ten_digits : typing_defects tables (priced (TermTree.binary 13 Operator.multiply (name_at 7 (codes "price")) (TermTree.decimal 15 (pos 12345678) 8))) ≡ fault.KindMismatch 13 ∷ []
ten_digits = refl

-- SELECT CASE WHEN TRUE THEN quantity ELSE price END FROM prices
abbrev chosen : QueryTree
chosen = priced (TermTree.case 7 (TermTree.when (TermTree.flag 17 true) (name_at 27 (codes "quantity")) (name_at 41 (codes "price"))))

chosen_tree :
    resolved_tree tables chosen ≡ query.Project (term.Case (term.Literal (value.Flag true)) (hundredfold (term.Column 1)) (term.Column 0) ∷ []) (query.Table 2)
chosen_tree = refl

-- SELECT price FROM prices UNION SELECT quantity FROM prices
abbrev united : QueryTree
united = QueryTree.set SetWord.union false 25 (priced (name_at 7 (codes "price"))) (priced (name_at 38 (codes "quantity")))

united_kinds : resolved_kinds tables united ≡ kind.Dec 2 ∷ []
united_kinds = refl

united_tree :
    resolved_tree tables united
    ≡ query.Distinct (query.Union (query.Project (term.Column 0 ∷ []) (query.Table 2)) (query.Project (hundredfold (term.Column 0) ∷ []) (query.Project (term.Column 1 ∷ []) (query.Table 2))))
united_tree = refl
