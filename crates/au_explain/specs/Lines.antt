-- A physical plan as lines for people: one for each operator, and below it those of what it reads. The two sides of a join or
-- a union stand two blanks to the right. Columns, expressions and aggregates are spelled as in the text of a plan.
use Rattle.std.specs.Prelude.{ℕ, zero, suc, ◌+◌, Bool, false, List, [], ◌∷◌, ◌++◌, length, map, None, Some, if◌then◌else◌, codes, decimal}
use Rattle.au_value.specs.declared.value.Value.TheVariants.{Flag}
use Rattle.au_plain.specs.declared.plan.PAgg.{PAgg}
use Rattle.au_plain.specs.PTerms.{PTerm}
use Rattle.au_plain.specs.PTerms as term
use Rattle.au_physical.specs.declared.physical.Bounds.{Bounds}
use Rattle.au_physical.specs.Physicals.{PhysicalTree}
use Rattle.au_physical.specs.Physicals as physical
use Rattle.au_sqltext.specs.Texts.{aggregate_text, column_text, listed, term_text}

-- how many columns a plan has
abbrev pub width : PhysicalTree → ℕ
width (physical.Scan t n) = n
width (physical.Rows n rows) = n
width (physical.Extend e p) = width p + 1
width (physical.Keep places p) = length places
width (physical.Filter e p) = width p
width (physical.Nested e p q) = width p + width q
width (physical.Hash places e p q) = width p + width q
width (physical.Overlap at e p q) = width p + width q
width (physical.Union p q) = width p
width (physical.Group keys aggs p) = length keys + length aggs

-- ---- joins, whose left columns are those of x and whose right ones those of y

-- two columns that are to be equal
abbrev pub equal_text : ℕ × ℕ → List ℕ
equal_text p = (codes "x." ++ column_text p.0) ++ codes " = " ++ (codes "y." ++ column_text p.1)

-- two ranges that are to overlap, each with the columns of its ends
abbrev pub range_text : List ℕ → ℕ → ℕ → List ℕ
range_text side lo hi = (side ++ column_text lo) ++ codes ".." ++ (side ++ column_text hi)

abbrev pub overlap_text : Bounds → List ℕ
overlap_text at = range_text (codes "x.") at.left_lo at.left_hi ++ codes " overlapping " ++ range_text (codes "y.") at.right_lo at.right_hi

-- the rest of the condition, over a left side of so many columns, where it is not TRUE
abbrev pub always : PTerm → Bool
always (term.Literal (Flag holds)) = holds
always _ = false

abbrev pub rest_text : ℕ → PTerm → List ℕ
rest_text w e = if always e then [] else codes " where " ++ term_text (Some w) e

-- ---- operators

-- one more column, which stands at this place
abbrev pub extend_text : ℕ → PTerm → List ℕ
extend_text place e = codes "extend " ++ column_text place ++ codes " = " ++ term_text None e

abbrev pub keys_text : List ℕ → List ℕ
keys_text [] = []
keys_text (key ∷ keys) = codes " by " ++ listed (map column_text (key ∷ keys))

abbrev pub aggregates_text : List PAgg → List ℕ
aggregates_text [] = []
aggregates_text (agg ∷ aggs) = codes ": " ++ listed (map aggregate_text (agg ∷ aggs))

-- what the operator at the top of a plan does
abbrev pub operator_text : PhysicalTree → List ℕ
operator_text (physical.Scan t n) = codes "scan t" ++ decimal t
operator_text (physical.Rows n rows) = codes "rows: " ++ decimal (length rows)
operator_text (physical.Extend e p) = extend_text (width p) e
operator_text (physical.Keep places p) = codes "keep " ++ listed (map column_text places)
operator_text (physical.Filter e p) = codes "filter " ++ term_text None e
operator_text (physical.Nested e p q) = codes "join all pairs" ++ rest_text (width p) e
operator_text (physical.Hash places e p q) = codes "join on " ++ listed (map equal_text places) ++ rest_text (width p) e
operator_text (physical.Overlap at e p q) = codes "join on " ++ overlap_text at ++ rest_text (width p) e
operator_text (physical.Union p q) = codes "union"
operator_text (physical.Group keys aggs p) = codes "group" ++ keys_text keys ++ aggregates_text aggs

-- ---- lines

-- two blanks for each level
abbrev pub margin : ℕ → List ℕ
margin zero = []
margin (suc depth) = codes "  " ++ margin depth

abbrev pub line : ℕ → List ℕ → List ℕ
line depth text = margin depth ++ text ++ codes "\n"

-- a plan, so many levels to the right
abbrev pub plan_lines : ℕ → PhysicalTree → List ℕ
plan_lines depth (physical.Scan t n) = line depth (operator_text (physical.Scan t n))
plan_lines depth (physical.Rows n rows) = line depth (operator_text (physical.Rows n rows))
plan_lines depth (physical.Extend e p) = line depth (operator_text (physical.Extend e p)) ++ plan_lines depth p
plan_lines depth (physical.Keep places p) = line depth (operator_text (physical.Keep places p)) ++ plan_lines depth p
plan_lines depth (physical.Filter e p) = line depth (operator_text (physical.Filter e p)) ++ plan_lines depth p
plan_lines depth (physical.Group keys aggs p) = line depth (operator_text (physical.Group keys aggs p)) ++ plan_lines depth p
plan_lines depth (physical.Nested e p q) = line depth (operator_text (physical.Nested e p q)) ++ (plan_lines (depth + 1) p ++ plan_lines (depth + 1) q)
plan_lines depth (physical.Hash places e p q) = line depth (operator_text (physical.Hash places e p q)) ++ (plan_lines (depth + 1) p ++ plan_lines (depth + 1) q)
plan_lines depth (physical.Overlap at e p q) = line depth (operator_text (physical.Overlap at e p q)) ++ (plan_lines (depth + 1) p ++ plan_lines (depth + 1) q)
plan_lines depth (physical.Union p q) = line depth (operator_text (physical.Union p q)) ++ (plan_lines (depth + 1) p ++ plan_lines (depth + 1) q)
