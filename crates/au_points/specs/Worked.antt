-- Worked rows: what queries give by points.
use Rattle.std.specs.Prelude.{◌≡◌, ℕ, List, [], ◌∷◌, codes, pos}
use Rattle.au_value.specs.declared.value.Value.{Value}
use Rattle.au_value.specs.declared.value.Value.TheVariants.{Int, Text}
use Rattle.au_value.specs.Ranges.{Span, range, certain}
use Rattle.au_annot.specs.Triples.{counts}
use Rattle.au_expr.specs.Terms.{Column, Literal}
use Rattle.au_algebra.specs.declared.query.Agg.TheVariants.{Sum}
use Rattle.au_algebra.specs.Entries.{entry}
use Rattle.au_algebra.specs.Bounded.{Bounded, RangeRow, bounded, normal}
use Rattle.au_algebra.specs.Trees.{Tree, Table, Project, Distinct, Group, Total}
use Rattle.au_points.specs.Points.{bounded_by_points}

abbrev int : ℕ → Value
int n = Int (pos n)

abbrev oslo : Value
oslo = Text (codes "Oslo")

abbrev bergen : Value
bergen = Text (codes "Bergen")

abbrev moss : Value
moss = Text (codes "Moss")

-- a range of numbers, and a row with its triple
abbrev ints : ℕ → ℕ → ℕ → Span
ints l s h = range (int l) (int s) (int h)

abbrev row : ℕ → ℕ → ℕ → List Span → RangeRow
row l g m cells = entry cells (counts l g m)

-- the rows in order, by points and by Group
abbrev points : Tree → Bounded → Bounded
points q table = normal (bounded_by_points q (table ∷ []))

abbrev hulls : Tree → Bounded → Bounded
hulls q table = normal (bounded q (table ∷ []))

-- id, city and amount of three orders: the city of the first is open, and the last may be missing
abbrev orders : Bounded
orders =
    row 1 1 1 (certain (int 1) ∷ range bergen oslo oslo ∷ ints 10 10 12 ∷ [])
    ∷ row 1 1 1 (certain (int 2) ∷ certain bergen ∷ ints 5 5 5 ∷ [])
    ∷ row 0 1 1 (certain (int 3) ∷ certain oslo ∷ ints 7 7 7 ∷ [])
    ∷ []

-- id and city of five customers: the first lives in Oslo or Moss, and the fourth may be the second
abbrev customers : Bounded
customers =
    row 1 1 1 (certain (int 1) ∷ range moss oslo oslo ∷ [])
    ∷ row 1 1 1 (certain (int 2) ∷ certain bergen ∷ [])
    ∷ row 1 1 1 (certain (int 3) ∷ certain oslo ∷ [])
    ∷ row 0 0 1 (certain (int 7) ∷ certain bergen ∷ [])
    ∷ row 1 1 1 (certain (int 8) ∷ certain moss ∷ [])
    ∷ []

-- id and city of two customers whose cities are open
abbrev movers : Bounded
movers =
    row 1 1 1 (certain (int 1) ∷ range moss oslo oslo ∷ [])
    ∷ row 1 1 1 (certain (int 9) ∷ range bergen bergen moss ∷ [])
    ∷ []

-- SELECT city, SUM(amount) FROM orders GROUP BY city
abbrev sums_by_city : Tree
sums_by_city = Group 1 (Sum 1 ∷ []) (Project (Column 1 ∷ Column 2 ∷ []) (Table 0))

-- SELECT city, COUNT(*) FROM customers GROUP BY city
abbrev counts_by_city : Tree
counts_by_city = Group 1 (Sum 1 ∷ []) (Project (Column 1 ∷ Literal (int 1) ∷ []) (Table 0))

-- SELECT COUNT(*) FROM (SELECT DISTINCT id, city FROM movers)
abbrev how_many : Tree
how_many = Total (Sum 0 ∷ []) (Project (Literal (int 1) ∷ []) (Distinct (Table 0)))

pub record WorkedRows : Type 0 where
  -- Bergen [5/5/17] 1/1/1; [Bergen/Oslo/Oslo] [0/0/12] 0/0/1; Oslo [0/17/19] 0/1/1
  pub orders_by_points :
      points sums_by_city orders ≡
      row 1 1 1 (certain bergen ∷ ints 5 5 17 ∷ [])
      ∷ row 0 0 1 (range bergen oslo oslo ∷ ints 0 0 12 ∷ [])
      ∷ row 0 1 1 (certain oslo ∷ ints 0 17 19 ∷ [])
      ∷ []
  -- Bergen [5/5/17] 1/1/1; [Bergen/Oslo/Oslo] [0/17/24] 0/1/2
  pub orders_by_hulls :
      hulls sums_by_city orders ≡
      row 1 1 1 (certain bergen ∷ ints 5 5 17 ∷ []) ∷ row 0 1 2 (range bergen oslo oslo ∷ ints 0 17 24 ∷ []) ∷ []
  -- Bergen [1/1/2] 1/1/1; Moss [1/1/2] 1/1/1; [Moss/Oslo/Oslo] [0/0/1] 0/0/1; Oslo [1/2/2] 1/1/1
  pub customers_by_points :
      points counts_by_city customers ≡
      row 1 1 1 (certain bergen ∷ ints 1 1 2 ∷ [])
      ∷ row 1 1 1 (certain moss ∷ ints 1 1 2 ∷ [])
      ∷ row 0 0 1 (range moss oslo oslo ∷ ints 0 0 1 ∷ [])
      ∷ row 1 1 1 (certain oslo ∷ ints 1 2 2 ∷ [])
      ∷ []
  -- Bergen [1/1/2] 1/1/1; Moss [1/1/2] 1/1/1; [Moss/Oslo/Oslo] [0/2/3] 1/1/2
  pub customers_by_hulls :
      hulls counts_by_city customers ≡
      row 1 1 1 (certain bergen ∷ ints 1 1 2 ∷ [])
      ∷ row 1 1 1 (certain moss ∷ ints 1 1 2 ∷ [])
      ∷ row 1 1 2 (range moss oslo oslo ∷ ints 0 2 3 ∷ [])
      ∷ []
  -- of the others each row keeps which id has which city
  pub movers_by_points :
      points (Distinct (Table 0)) movers ≡
      row 0 0 1 (certain (int 1) ∷ range moss oslo oslo ∷ [])
      ∷ row 0 1 1 (certain (int 1) ∷ certain oslo ∷ [])
      ∷ row 0 1 1 (certain (int 9) ∷ certain bergen ∷ [])
      ∷ row 0 0 1 (certain (int 9) ∷ range bergen bergen moss ∷ [])
      ∷ []
  -- how many distinct rows there are is wider by points, since each row may be at its point or elsewhere
  pub many_by_points : points how_many movers ≡ row 1 1 1 (ints 0 2 4 ∷ []) ∷ []
  pub many_by_hulls : hulls how_many movers ≡ row 1 1 1 (ints 0 2 2 ∷ []) ∷ []
