-- Queries and their lists as the reader's calls see them: pieces between commas, clause words and set words, from the left.
use Rattle.std.specs.Prelude.{ℕ, suc, ◌≡◌, ◌≤◌, ◌+◌, ◌==◌, ◌&&◌, ◌||◌, Bool, true, false, List, [], ◌∷◌, length, map, Option, if◌then◌else◌, Some, None, option_map, option_and_then}
use Rattle.au_lex.specs.declared.Lexeme.{Lexeme}
use Rattle.au_lex.specs.declared.Token.{Token}
use Rattle.au_parse.specs.declared.Source.{Source}
use Rattle.au_parse.specs.declared.Statement.{Statement}
use Rattle.au_parse.specs.declared.SelectPart.{SelectPart}
use Rattle.au_parse.specs.declared.queries.ClauseWord.{ClauseWord}
use Rattle.au_parse.specs.declared.queries.ClauseWord.TheVariants as word
use Rattle.au_parse.specs.declared.queries.SetOperation.{SetOperation}
use Rattle.au_parse.specs.declared.queries.SetOperation.TheVariants as operation
use Rattle.au_parse.specs.declared.limits.Listed.{Listed}
use Rattle.au_parse.specs.declared.limits.Listed.TheVariants as listed
use Rattle.au_parse.specs.Tree.{SetWord, QueryTree, Sources}
use Rattle.au_parse.specs.Words.{Clause, clause_word, is_select, is_comma, is_group_open, is_group_close, is_star, is_dot, is_all, is_distinct, name_word}
use Rattle.au_parse.specs.Cuts.{Part, anywhere}
use Rattle.au_parse.specs.Expressions.{both}
use Rattle.au_parse.specs.Levels.{grouped, rest_parts}
use Rattle.au_parse.specs.Limits.{is_from, begins_part}
use Rattle.au_parse.specs.Queries.{QueryReader, ClauseTokens, Aliased, aliased, between_commas, has_all, without_all, operand, set_chain, source_with, sources, query_within}
use Rattle.au_parse.specs.Views.{statement_tree, source_before, item_view, condition_view}

-- the lists behind a comma, if there is one
abbrev pub behind_comma : Option (List Token) → List (List Token)
behind_comma None = []
behind_comma (Some ts) = between_commas ts

-- a list without its alias, and the token that is the alias
abbrev pub aliased_by : List Token → Option Token → Aliased
aliased_by ts name = record { tokens = ts; alias = option_and_then (λ t. name_word t.what) name }

-- the place of a `*` that is a whole list, and what stands before `.` and `*` in a list of three
abbrev pub whole_star : List Token → Option ℕ
whole_star (s ∷ []) = if is_star s.what then Some s.from else None
whole_star _ = None

abbrev pub star_owner : List Token → Option Token
star_owner (t ∷ d ∷ s ∷ []) = if is_dot d.what && is_star s.what then Some t else None
star_owner _ = None

-- set words: one more operand joins those before it
abbrev pub joins_sets : QueryReader → Option QueryTree → Part SetWord → Option QueryTree
joins_sets query so_far (Part.part m p ts) = both (QueryTree.set m (has_all ts) p) so_far (operand query (without_all ts))

abbrev pub sets_from_left : QueryReader → Option QueryTree → List (Part SetWord) → Option QueryTree
sets_from_left query so_far parts = grouped (joins_sets query) so_far parts

abbrev pub set_step : QueryReader → QueryReader
set_step query ts = set_chain query (length ts) ts

-- what a call has read: the tree, or that there is none, wherever brackets may be nested as deep as the list is long
abbrev pub query_read : Option Statement → Option QueryTree
query_read found = option_map statement_tree found

abbrev pub ReadsQuery : (QueryReader → QueryReader) → List Token → Option Statement → Type 0
ReadsQuery step ts found = (n : ℕ) → length ts ≤ suc n → step (query_within n) ts ≡ query_read found

-- the words that cut a SELECT
abbrev pub clause_of : ClauseWord → Clause
clause_of word.From = Clause.from
clause_of word.Where = Clause.condition
clause_of word.Group = Clause.group
clause_of word.Having = Clause.having

abbrev pub same_clause : Clause → Clause → Bool
same_clause Clause.from Clause.from = true
same_clause Clause.condition Clause.condition = true
same_clause Clause.group Clause.group = true
same_clause Clause.having Clause.having = true
same_clause _ _ = false

abbrev pub is_clause : ClauseWord → Lexeme → Bool
is_clause w what = elim (clause_word what) [ None ↦ false | Some c ↦ same_clause (clause_of w) c ]

-- what stands behind the clause words of a list that begins with one
abbrev pub clause_parts : List Token → List (Part Clause)
clause_parts ts = rest_parts (anywhere clause_word) ts

abbrev pub begins_with : Clause → List (Part Clause) → Bool
begins_with c [] = false
begins_with c (Part.part d p ts ∷ parts) = same_clause c d

abbrev pub has_parts : List (Part Clause) → Bool
has_parts [] = false
has_parts (p ∷ parts) = true

-- a clause before others, if it stands there
abbrev pub with_clause : Clause → Option (ℕ × List Token) → List (Part Clause) → List (Part Clause)
with_clause c None rest = rest
with_clause c (Some found) rest = Part.part c found.0 found.1 ∷ rest

pub record TakesClause (w : ClauseWord) (ts : List Token) (found : Option (ℕ × List Token)) (rest : List Token) : Type 0 where
  pub parts : clause_parts ts ≡ with_clause (clause_of w) found (clause_parts rest)
  pub none : found ≡ None → begins_with (clause_of w) (clause_parts ts) ≡ false

-- the clauses of a SELECT, with the place of GROUP left out
abbrev pub all_clauses : List Token → Option (ℕ × List Token) → Option (ℕ × List Token) → Option (ℕ × List Token) → ClauseTokens
all_clauses from condition group having = record { from = from; condition = condition; group = option_map (λ g. g.1) group; having = having }

-- one DISTINCT or ALL at the front
abbrev pub says_distinct : List Token → Bool
says_distinct [] = false
says_distinct (t ∷ ts) = is_distinct t.what

abbrev pub behind_quantifier : List Token → List Token
behind_quantifier [] = []
behind_quantifier (t ∷ ts) = if is_distinct t.what || is_all t.what then ts else t ∷ ts

-- the set words
abbrev pub set_of : SetOperation → SetWord
set_of operation.Union = SetWord.union
set_of operation.Except = SetWord.except

-- sources before others
abbrev pub sources_before : List Source → Sources → Sources
sources_before [] others = others
sources_before (s ∷ more) others = source_before s (sources_before more others)

abbrev pub sources_of : List Source → Sources
sources_of list = sources_before list Sources.no_sources

-- a SELECT of its parts
abbrev pub part_view : SelectPart → QueryTree
part_view p = QueryTree.select p.at p.distinct (map item_view p.items.items) (sources_of p.sources.items) (condition_view p.condition) p.keys.items p.grouped (condition_view p.having)

-- a piece of a FROM clause is this source, or none
abbrev pub source_step : QueryReader → List Token → Option Sources → Option Sources
source_step query ts others = let parts = aliased ts in source_with query parts.tokens parts.alias others

pub record ReadsSource (ts : List Token) (found : Option Source) : Type 0 where
  pub reads : (n : ℕ) (others : Option Sources) → length ts ≤ suc n → source_step (query_within n) ts others ≡ both source_before found others

pub record ReadsSources (ts : List Token) (found : Option (List Source)) : Type 0 where
  pub reads : (n : ℕ) → length ts ≤ suc n → sources (query_within n) (between_commas ts) ≡ option_map sources_of found

-- the words whose commas are counted
abbrev pub counted : Listed → Lexeme → Bool
counted listed.Items what = is_select what
counted listed.Sources what = is_from what

-- The commas so far of the word for which a comma would count, if it is one that is counted: inside all brackets that are open, and outside each, the innermost first.
pub record Commas : Type 0 where
  pub inner : Option ℕ
  pub outer : List (Option ℕ)

-- the same after a bracket has closed
abbrev pub after_close : Commas → List (Option ℕ) → Commas
after_close commas [] = commas
after_close commas (around ∷ more) = record { inner = around; outer = more }

-- the same after a lexeme
abbrev pub commas_after : (Lexeme → Bool) → Lexeme → Commas → Commas
commas_after word what commas =
    elim (is_comma what) [
      | true ↦ record commas { inner = option_map (λ n. n + 1) commas.inner }
      | false ↦ elim (is_group_open what) [
        | true ↦ record { inner = None; outer = commas.inner ∷ commas.outer }
        | false ↦ elim (is_group_close what) [
          | true ↦ after_close commas commas.outer
          | false ↦ elim (begins_part what) [
            | true ↦ record commas { inner = if word what then Some 0 else None }
            | false ↦ commas
          ]
        ]
      ]
    ]

-- whether this is the comma of that number
abbrev pub is_last : ℕ → Lexeme → Commas → Bool
is_last limit what commas = elim commas.inner [ None ↦ false | Some n ↦ is_comma what && (n + 1 == limit) ]
