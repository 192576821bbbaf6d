-- Plans over cells: each text that a plan has written out becomes its number, and all else stays.
use Rattle.std.specs.Prelude.{List, [], ◌∷◌, ◌++◌, map, flat_map}
use Rattle.au_value.specs.declared.value.Value.{Value}
use Rattle.au_value.specs.declared.value.Value.TheVariants.{Int, Text, Flag}
use Rattle.au_algebra.specs.Ordinary.{Rows}
use Rattle.au_plain.specs.PTerms.{PTerm, PTerms, nil, cons}
use Rattle.au_plain.specs.PTerms as term
use Rattle.au_physical.specs.Physicals.{PhysicalTree}
use Rattle.au_physical.specs.Physicals as physical
use Rattle.au_codes.specs.Codes.{Code, KnowsRow}

-- a value that is written out, and rows of such
abbrev pub coded_literal : Code → Value → Value
coded_literal c (Int n) = Int n
coded_literal c (Text w) = Int (c.number w)
coded_literal c (Flag b) = Flag b

abbrev pub coded_literals : Code → List Value → List Value
coded_literals c row = map (coded_literal c) row

abbrev pub coded_list : Code → Rows → Rows
coded_list c rows = map (coded_literals c) rows

-- an expression over cells
abbrev mutual
  pub coded_term : Code → PTerm → PTerm
  coded_term c (term.Column i) = term.Column i
  coded_term c (term.Literal v) = term.Literal (coded_literal c v)
  coded_term c (term.Add a b) = term.Add (coded_term c a) (coded_term c b)
  coded_term c (term.Subtract a b) = term.Subtract (coded_term c a) (coded_term c b)
  coded_term c (term.Multiply a b) = term.Multiply (coded_term c a) (coded_term c b)
  coded_term c (term.Negate a) = term.Negate (coded_term c a)
  coded_term c (term.Compare how a b) = term.Compare how (coded_term c a) (coded_term c b)
  coded_term c (term.And a b) = term.And (coded_term c a) (coded_term c b)
  coded_term c (term.Or a b) = term.Or (coded_term c a) (coded_term c b)
  coded_term c (term.Not a) = term.Not (coded_term c a)
  coded_term c (term.Case e a b) = term.Case (coded_term c e) (coded_term c a) (coded_term c b)
  coded_term c (term.Least es) = term.Least (coded_terms c es)
  coded_term c (term.Greatest es) = term.Greatest (coded_terms c es)

  pub coded_terms : Code → PTerms → PTerms
  coded_terms c nil = nil
  coded_terms c (cons e es) = cons (coded_term c e) (coded_terms c es)

-- a physical plan over cells
abbrev pub coded_tree : Code → PhysicalTree → PhysicalTree
coded_tree c (physical.Scan t w) = physical.Scan t w
coded_tree c (physical.Rows w rows) = physical.Rows w (coded_list c rows)
coded_tree c (physical.Extend e p) = physical.Extend (coded_term c e) (coded_tree c p)
coded_tree c (physical.Keep places p) = physical.Keep places (coded_tree c p)
coded_tree c (physical.Filter e p) = physical.Filter (coded_term c e) (coded_tree c p)
coded_tree c (physical.Nested e p q) = physical.Nested (coded_term c e) (coded_tree c p) (coded_tree c q)
coded_tree c (physical.Hash places e p q) = physical.Hash places (coded_term c e) (coded_tree c p) (coded_tree c q)
coded_tree c (physical.Overlap at e p q) = physical.Overlap at (coded_term c e) (coded_tree c p) (coded_tree c q)
coded_tree c (physical.Union p q) = physical.Union (coded_tree c p) (coded_tree c q)
coded_tree c (physical.Group keys aggs p) = physical.Group keys aggs (coded_tree c p)

-- the literals of an expression
abbrev mutual
  pub literals : PTerm → List Value
  literals (term.Column i) = []
  literals (term.Literal v) = v ∷ []
  literals (term.Add a b) = literals a ++ literals b
  literals (term.Subtract a b) = literals a ++ literals b
  literals (term.Multiply a b) = literals a ++ literals b
  literals (term.Negate a) = literals a
  literals (term.Compare how a b) = literals a ++ literals b
  literals (term.And a b) = literals a ++ literals b
  literals (term.Or a b) = literals a ++ literals b
  literals (term.Not a) = literals a
  literals (term.Case e a b) = literals e ++ (literals a ++ literals b)
  literals (term.Least es) = all_literals es
  literals (term.Greatest es) = all_literals es

  pub all_literals : PTerms → List Value
  all_literals nil = []
  all_literals (cons e es) = literals e ++ all_literals es

-- the values that a plan has written out: its literals, and the rows that it lists
abbrev pub written : PhysicalTree → List Value
written (physical.Scan t w) = []
written (physical.Rows w rows) = flat_map (λ row. row) rows
written (physical.Extend e p) = literals e ++ written p
written (physical.Keep places p) = written p
written (physical.Filter e p) = literals e ++ written p
written (physical.Nested e p q) = literals e ++ (written p ++ written q)
written (physical.Hash places e p q) = literals e ++ (written p ++ written q)
written (physical.Overlap at e p q) = literals e ++ (written p ++ written q)
written (physical.Union p q) = written p ++ written q
written (physical.Group keys aggs p) = written p

-- the code knows each text of an expression, and of a plan
abbrev pub KnowsTerm : Code → PTerm → Type 0
KnowsTerm c e = KnowsRow c (literals e)

abbrev pub KnowsPlan : Code → PhysicalTree → Type 0
KnowsPlan c p = KnowsRow c (written p)
