-- The long texts among values, each once, in the order in which they are seen.
use Rattle.std.specs.Prelude.{ℕ, List, [], ◌∷◌, ◌++◌, if◌then◌else◌}
use Rattle.au_value.specs.declared.value.Value.{Value}
use Rattle.au_value.specs.declared.value.Value.TheVariants.{Int, Text, Flag}
use Rattle.au_algebra.specs.Ordinary.{Rows}
use Rattle.au_plain.specs.declared.expr.PExpr.{PExpr}
use Rattle.au_plain.specs.PTerms.{PTerm, PTerms, nil, cons, pterm}
use Rattle.au_plain.specs.PTerms as term
use Rattle.au_physical.specs.Physicals.{PhysicalTree}
use Rattle.au_physical.specs.Physicals as physical
use Rattle.au_codes.specs.Books.{Book}
use Rattle.au_codes.specs.TextCodes.{knows_text}

-- one more text, behind the others if it is long and new
abbrev pub with_text : Book → List ℕ → Book
with_text texts w = if knows_text texts w then texts else texts ++ w ∷ []

-- that of a value, if it is one
abbrev pub with_value : Book → Value → Book
with_value texts (Int n) = texts
with_value texts (Text w) = with_text texts w
with_value texts (Flag b) = texts

-- those of a row, and of rows
abbrev pub with_row : Book → List Value → Book
with_row texts [] = texts
with_row texts (v ∷ vs) = with_row (with_value texts v) vs

abbrev pub with_rows : Book → Rows → Book
with_rows texts [] = texts
with_rows texts (row ∷ rows) = with_rows (with_row texts row) rows

-- those of tables
abbrev pub with_tables : Book → List Rows → Book
with_tables texts [] = texts
with_tables texts (rows ∷ ts) = with_tables (with_rows texts rows) ts

-- those of the literals of an expression
abbrev mutual
  pub with_term : Book → PTerm → Book
  with_term texts (term.Column i) = texts
  with_term texts (term.Literal v) = with_value texts v
  with_term texts (term.Add a b) = with_term (with_term texts a) b
  with_term texts (term.Subtract a b) = with_term (with_term texts a) b
  with_term texts (term.Multiply a b) = with_term (with_term texts a) b
  with_term texts (term.Negate a) = with_term texts a
  with_term texts (term.Compare how a b) = with_term (with_term texts a) b
  with_term texts (term.And a b) = with_term (with_term texts a) b
  with_term texts (term.Or a b) = with_term (with_term texts a) b
  with_term texts (term.Not a) = with_term texts a
  with_term texts (term.Case c a b) = with_term (with_term (with_term texts c) a) b
  with_term texts (term.Least es) = with_terms texts es
  with_term texts (term.Greatest es) = with_terms texts es

  pub with_terms : Book → PTerms → Book
  with_terms texts nil = texts
  with_terms texts (cons e es) = with_terms (with_term texts e) es

-- those that a plan has written out
abbrev pub with_plan : Book → PhysicalTree → Book
with_plan texts (physical.Scan t w) = texts
with_plan texts (physical.Rows w rows) = with_rows texts rows
with_plan texts (physical.Extend e p) = with_plan (with_term texts e) p
with_plan texts (physical.Keep places p) = with_plan texts p
with_plan texts (physical.Filter e p) = with_plan (with_term texts e) p
with_plan texts (physical.Nested e p q) = with_plan (with_plan (with_term texts e) p) q
with_plan texts (physical.Hash places e p q) = with_plan (with_plan (with_term texts e) p) q
with_plan texts (physical.Overlap at e p q) = with_plan (with_plan (with_term texts e) p) q
with_plan texts (physical.Union p q) = with_plan (with_plan texts p) q
with_plan texts (physical.Group keys aggs p) = with_plan texts p

-- the terms of some expressions
abbrev pub terms : List PExpr → PTerms
terms [] = nil
terms (e ∷ es) = cons (pterm e) (terms es)
