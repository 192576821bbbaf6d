-- The levels of an expression as the reader's calls see them: pieces between marks, from the left.
use Rattle.std.specs.Prelude.{ℕ, zero, suc, ◌≡◌, ◌≤◌, ◌<◌, ◌==◌, ◌&&◌, Bool, true, false, List, [], ◌∷◌, length, Option, Some, None, option_map, is_some}
use Rattle.au_lex.specs.declared.Keyword.TheVariants as key
use Rattle.au_lex.specs.declared.Lexeme.{Lexeme}
use Rattle.au_lex.specs.declared.Lexeme.TheVariants as lex
use Rattle.au_lex.specs.declared.Token.{Token}
use Rattle.au_parse.specs.declared.Term.{Term}
use Rattle.au_parse.specs.declared.pieces.Mark.{Mark}
use Rattle.au_parse.specs.declared.pieces.Mark.TheVariants as at
use Rattle.au_parse.specs.declared.pieces.Bracket.{Bracket}
use Rattle.au_parse.specs.declared.pieces.Bracket.TheVariants as bracket
use Rattle.au_parse.specs.declared.operators.Level.{Level}
use Rattle.au_parse.specs.declared.operators.Level.TheVariants as level
use Rattle.au_parse.specs.declared.operators.Operation.{Operation}
use Rattle.au_parse.specs.declared.operators.Operation.TheVariants as op
use Rattle.au_parse.specs.Tree.{TermTree, Operator}
use Rattle.au_parse.specs.Words.{or_operator, and_operator, comparison_operator, product_operator, set_word, clause_word, CasePart, case_word, comma, depth_after, ends_operand, is_close, is_group_close, is_end}
use Rattle.au_parse.specs.Cuts.{Part, Parts, cut_from, cut, anywhere}
use Rattle.au_parse.specs.Expressions.{Reader, both, chain, sum_mark, and_step, not_step, product_step, sign_step, case_rest, expression_within}
use Rattle.au_parse.specs.Views.{term_tree}

-- whether a lexeme is a mark of a kind; it is told whether the token before it ends an operand
abbrev pub is_mark : Mark → Bool → Lexeme → Bool
is_mark at.Or after what = is_some (or_operator what)
is_mark at.And after what = is_some (and_operator what)
is_mark at.Compare after what = is_some (comparison_operator what)
is_mark at.Sum after what = is_some (sum_mark after what)
is_mark at.Product after what = is_some (product_operator what)
is_mark at.Comma after what = is_some (comma what)
is_mark at.Clause after what = is_some (clause_word what)
is_mark at.Case after what = is_some (case_word what)
is_mark at.Set after what = is_some (set_word what)

-- how many tokens stand before the first mark outside brackets
unfoldable pub front_length : (Bool → Lexeme → Bool) → Bool → ℕ → List Token → ℕ
front_length test after depth [] = 0
front_length test after depth (t ∷ ts) =
    elim ((depth == 0) && test after t.what) [ true ↦ 0 | false ↦ suc (front_length test (ends_operand t.what) (depth_after depth t.what) ts) ]

-- the parts of a list that begins with a mark
abbrev pub part_before : {A : Type 0} → Token → Option A → Parts A → List (Part A)
part_before o (Some m) parts = Part.part m o.from parts.first ∷ parts.others
part_before o None parts = []

abbrev pub rest_parts : {A : Type 0} → (Bool → Lexeme → Option A) → List Token → List (Part A)
rest_parts mark [] = []
rest_parts mark (o ∷ ts) = part_before o (mark true o.what) (cut_from mark false zero ts)

-- a list is empty or begins with a mark
abbrev pub BeginsAtMark : (Bool → Lexeme → Bool) → List Token → Type 0
BeginsAtMark test [] = Unit {0}
BeginsAtMark test (t ∷ ts) = test true t.what ≡ true

-- how many tokens stand before the first bracket that closes none of them
unfoldable pub close_length : ℕ → List Token → ℕ
close_length depth [] = 0
close_length depth (t ∷ ts) = elim ((depth == 0) && is_close t.what) [ true ↦ 0 | false ↦ suc (close_length (depth_after depth t.what) ts) ]

abbrev pub closes : Bracket → Lexeme → Bool
closes bracket.Group what = is_group_close what
closes bracket.Case what = is_end what

-- the operator that an operation is
abbrev pub operator_of : Operation → Operator
operator_of op.Or = Operator.or
operator_of op.And = Operator.and
operator_of (op.Compare how) = Operator.compare how
operator_of op.Add = Operator.add
operator_of op.Subtract = Operator.subtract
operator_of op.Multiply = Operator.multiply

-- the levels that split at their last operator
abbrev pub mark_of : Level → Bool → Lexeme → Option Operator
mark_of level.Or after what = or_operator what
mark_of level.And after what = and_operator what
mark_of level.Sum after what = sum_mark after what
mark_of level.Product after what = product_operator what

abbrev pub mark_kind : Level → Mark
mark_kind level.Or = at.Or
mark_kind level.And = at.And
mark_kind level.Sum = at.Sum
mark_kind level.Product = at.Product

abbrev pub below : Level → Reader → Reader
below level.Or inner ts = and_step inner ts
below level.And inner ts = not_step inner ts
below level.Sum inner ts = product_step inner ts
below level.Product inner ts = sign_step inner ts

abbrev pub level_step : Level → Reader → Reader
level_step l inner ts = chain (mark_of l) (below l inner) (length ts) ts

-- parts, grouped from the left
abbrev pub grouped : {A R : Type 0} → (R → Part A → R) → R → List (Part A) → R
grouped join so_far [] = so_far
grouped join so_far (p ∷ more) = grouped join (join so_far p) more

abbrev pub joins : Reader → Option TermTree → Part Operator → Option TermTree
joins next so_far (Part.part m p ts) = both (TermTree.binary p m) so_far (next ts)

abbrev pub from_left : Reader → Option TermTree → List (Part Operator) → Option TermTree
from_left next so_far parts = grouped (joins next) so_far parts

-- the parts of a CASE before the value of its ELSE
abbrev pub arms_tree : List (Term × Term) → TermTree → TermTree
arms_tree [] otherwise = otherwise
arms_tree (arm ∷ arms) otherwise = TermTree.when (term_tree arm.0) (term_tree arm.1) (arms_tree arms otherwise)

-- what a call has read: the tree, or that there is none, wherever brackets may be nested as deep as the list is long
abbrev pub tree_read : Option Term → Option TermTree
tree_read found = option_map term_tree found

abbrev pub Reads : (Reader → Reader) → List Token → Option Term → Type 0
Reads step ts found = (n : ℕ) → length ts ≤ suc n → step (expression_within n) ts ≡ tree_read found

-- the same of a list between brackets, which are one nesting more
abbrev pub ReadsInside : (Reader → Reader) → List Token → Option Term → Type 0
ReadsInside step ts found = (n : ℕ) → length ts < n → step (expression_within n) ts ≡ tree_read found

-- the words of a CASE
abbrev pub is_when : Lexeme → Bool
is_when (lex.Key key.When) = true
is_when _ = false

abbrev pub is_then : Lexeme → Bool
is_then (lex.Key key.Then) = true
is_then _ = false

abbrev pub is_else : Lexeme → Bool
is_else (lex.Key key.Else) = true
is_else _ = false

abbrev pub begins_with_when : List Token → Bool
begins_with_when [] = false
begins_with_when (t ∷ ts) = is_when t.what

-- a list is a WHEN and these tokens
pub record IsWhen (ts others : List Token) : Type 0 where
  pub word : Token
  pub list : ts ≡ word ∷ others
  pub when : is_when word.what ≡ true

-- the parts of a CASE whose WHEN stands before a list
abbrev pub behind_when : ℕ → List Token → List (Part CasePart)
behind_when p ts = let parts = cut case_word ts in Part.part CasePart.when_part p parts.first ∷ parts.others

-- the list begins with a condition, THEN and a value, and these tokens are left; or it doesn't
pub record ReadsArm (ts : List Token) (condition value : TermTree) (left : List Token) : Type 0 where
  pub reads : (n p : ℕ) → length ts < n
      → case_rest (expression_within n) (behind_when p ts) ≡ option_map (TermTree.when condition value) (case_rest (expression_within n) (rest_parts (anywhere case_word) left))

pub record ReadsNoArm (ts : List Token) : Type 0 where
  pub reads : (n p : ℕ) → length ts < n → case_rest (expression_within n) (behind_when p ts) ≡ None

-- what the parts of a CASE from a list on are
pub record ReadsElse (ts : List Token) (found : Option Term) : Type 0 where
  pub reads : (n : ℕ) → length ts < n → case_rest (expression_within n) (rest_parts (anywhere case_word) ts) ≡ tree_read found
