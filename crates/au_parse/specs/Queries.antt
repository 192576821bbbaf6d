-- The tree of a query: split at its LAST set word, a SELECT cut at its clause words, lists cut at their commas.
use Rattle.std.specs.Prelude.{ℕ, zero, suc, ◌&&◌, Bool, true, false, List, [], ◌∷◌, length, map, Option, Some, None, option_map, option_and_then, if◌then◌else◌, is_some}
use Rattle.au_lex.specs.declared.Token.{Token}
use Rattle.au_parse.specs.declared.Name.{Name}
use Rattle.au_parse.specs.Tree.{TermTree, ItemTree, QueryTree, Sources}
use Rattle.au_parse.specs.Words.{set_word, Clause, clause_word, comma, ends_operand, name_word, is_group_open, is_group_close, is_star, is_dot, is_semicolon, is_as, is_select, is_by, is_all, is_distinct}
use Rattle.au_parse.specs.Cuts.{Part, last_split, cut, inside, anywhere}
use Rattle.au_parse.specs.Expressions.{both, expression, column_of}

-- the values, if each is there
unfoldable pub all_some : {A : Type 0} → List (Option A) → Option (List A)
all_some [] = Some []
all_some (None ∷ others) = None
all_some (Some x ∷ others) = option_map (λ xs. x ∷ xs) (all_some others)

-- the lists between the commas outside brackets
abbrev pub part_tokens : {A : Type 0} → Part A → List Token
part_tokens (Part.part mark place tokens) = tokens

abbrev pub between_commas : List Token → List (List Token)
between_commas ts = let parts = cut comma ts in parts.first ∷ map part_tokens parts.others

-- a list without its alias, and the alias: a name behind AS, or behind a token that ends an operand
pub record Aliased : Type 0 where
  pub tokens : List Token
  pub alias : Option (List ℕ)

abbrev pub alias_of_two : Token → Token → Aliased
alias_of_two t u =
    if is_as t.what && is_some (name_word u.what) then record { tokens = []; alias = name_word u.what }
    else if ends_operand t.what && is_some (name_word u.what) then record { tokens = t ∷ []; alias = name_word u.what }
    else record { tokens = t ∷ u ∷ []; alias = None }

unfoldable pub aliased : List Token → Aliased
aliased [] = record { tokens = []; alias = None }
aliased (t ∷ []) = record { tokens = t ∷ []; alias = None }
aliased (t ∷ u ∷ []) = alias_of_two t u
aliased (t ∷ u ∷ v ∷ ts) = let rest = aliased (u ∷ v ∷ ts) in record rest { tokens = t ∷ rest.tokens }

-- an item: `*`, a name with `.` and `*`, or an expression with or without an alias
abbrev pub value_item : List Token → Option ItemTree
value_item ts = let parts = aliased ts in option_map (λ e. ItemTree.value e parts.alias) (expression parts.tokens)

abbrev pub item_tree : List Token → Option ItemTree
item_tree (s ∷ []) = if is_star s.what then Some (ItemTree.star s.from) else value_item (s ∷ [])
item_tree (t ∷ d ∷ s ∷ []) = if is_dot d.what && is_star s.what then option_map (ItemTree.star_of t.from) (name_word t.what) else value_item (t ∷ d ∷ s ∷ [])
item_tree ts = value_item ts

-- the sources of a FROM clause
abbrev pub QueryReader : Type 0
QueryReader = List Token → Option QueryTree

abbrev pub inner_source : ℕ → Option QueryTree → Option (List ℕ) → Option Sources → Option Sources
inner_source at found None others = None
inner_source at found (Some name) others = option_and_then (λ q. option_map (Sources.inner at q name) others) found

abbrev pub table_source : ℕ → Option (List ℕ) → Option (List ℕ) → Option Sources → Option Sources
table_source at name alias others = option_and_then (λ w. option_map (Sources.table at w alias) others) name

abbrev pub source_with : QueryReader → List Token → Option (List ℕ) → Option Sources → Option Sources
source_with query [] alias others = None
source_with query (t ∷ []) alias others = table_source t.from (name_word t.what) alias others
source_with query (t ∷ u ∷ ts) alias others = if is_group_open t.what then inner_source t.from (option_and_then query (inside is_group_close zero (u ∷ ts))) alias others else None

unfoldable pub sources : QueryReader → List (List Token) → Option Sources
sources query [] = Some Sources.no_sources
sources query (ts ∷ others) = let parts = aliased ts in source_with query parts.tokens parts.alias (sources query others)

-- what stands behind the clause words of a SELECT: FROM, and then WHERE, GROUP and HAVING, each at most once and in this order
pub record ClauseTokens : Type 0 where
  pub from : List Token
  pub condition : Option (ℕ × List Token)
  pub group : Option (List Token)
  pub having : Option (ℕ × List Token)

abbrev pub having_clause : List (Part Clause) → ClauseTokens → Option ClauseTokens
having_clause [] done = Some done
having_clause (Part.part Clause.having p ts ∷ []) done = Some (record done { having = Some (p, ts) })
having_clause _ done = None

abbrev pub group_clause : List (Part Clause) → ClauseTokens → Option ClauseTokens
group_clause (Part.part Clause.group p ts ∷ parts) done = having_clause parts (record done { group = Some ts })
group_clause parts done = having_clause parts done

abbrev pub condition_clause : List (Part Clause) → ClauseTokens → Option ClauseTokens
condition_clause (Part.part Clause.condition p ts ∷ parts) done = group_clause parts (record done { condition = Some (p, ts) })
condition_clause parts done = group_clause parts done

abbrev pub clauses : List (Part Clause) → Option ClauseTokens
clauses (Part.part Clause.from p ts ∷ parts) = condition_clause parts (record { from = ts; condition = None; group = None; having = None })
clauses _ = None

-- the trees of the clauses
abbrev pub condition_tree : Option (ℕ × List Token) → Option (Option (ℕ × TermTree))
condition_tree None = Some None
condition_tree (Some c) = option_map (λ e. Some (c.0, e)) (expression c.1)

abbrev pub keys_after_by : List Token → Option (List Name)
keys_after_by [] = None
keys_after_by (t ∷ ts) = if is_by t.what then all_some (map column_of (between_commas ts)) else None

abbrev pub keys_tree : Option (List Token) → Option (List Name)
keys_tree None = Some []
keys_tree (Some ts) = keys_after_by ts

-- a SELECT of these parts, where each has a tree: its items, sources, condition, keys and HAVING
abbrev pub select_of : ℕ → Bool → Bool → Option (List ItemTree) → Option Sources → Option (Option (ℕ × TermTree)) → Option (List Name) → Option (Option (ℕ × TermTree)) → Option QueryTree
select_of at distinct grouped (Some is) (Some from) (Some condition) (Some keys) (Some having) = Some (QueryTree.select at distinct is from condition keys grouped having)
select_of at distinct grouped _ _ _ _ _ = None

abbrev pub select_with : QueryReader → ℕ → Bool → List Token → ClauseTokens → Option QueryTree
select_with query at distinct items parts =
    select_of at distinct (is_some parts.group) (all_some (map item_tree (between_commas items))) (sources query (between_commas parts.from))
    (condition_tree parts.condition) (keys_tree parts.group) (condition_tree parts.having)

abbrev pub select_body : QueryReader → ℕ → Bool → List Token → Option QueryTree
select_body query at distinct ts = let parts = cut clause_word ts in option_and_then (select_with query at distinct parts.first) (clauses parts.others)

-- the rest of a SELECT, with one DISTINCT or ALL taken off
abbrev pub select_rest : QueryReader → ℕ → List Token → Option QueryTree
select_rest query at [] = None
select_rest query at (t ∷ ts) =
    elim (is_distinct t.what) [
      | true ↦ select_body query at true ts
      | false ↦ elim (is_all t.what) [ true ↦ select_body query at false ts | false ↦ select_body query at false (t ∷ ts) ]
    ]

-- an operand: a query in brackets, or a SELECT
abbrev pub operand : QueryReader → QueryReader
operand query [] = None
operand query (t ∷ ts) =
    elim (is_group_open t.what) [
      | true ↦ option_and_then query (inside is_group_close zero ts)
      | false ↦ elim (is_select t.what) [ true ↦ select_rest query t.from ts | false ↦ None ]
    ]

-- whether ALL stands first, and what is left
abbrev pub has_all : List Token → Bool
has_all [] = false
has_all (t ∷ ts) = is_all t.what

abbrev pub without_all : List Token → List Token
without_all [] = []
without_all (t ∷ ts) = if is_all t.what then ts else t ∷ ts

-- a list of operands, split at the last set word
unfoldable pub set_chain : QueryReader → ℕ → QueryReader
set_chain query zero ts = operand query ts
set_chain query (suc n) ts =
    elim (last_split (anywhere set_word) false zero ts) [
      | None ↦ operand query ts
      | Some s ↦ both (QueryTree.set s.mark (has_all s.right) s.place) (set_chain query n s.left) (operand query (without_all s.right))
    ]

-- a query, with brackets nested no deeper than the number
unfoldable pub query_within : ℕ → QueryReader
query_within zero ts = None
query_within (suc n) ts = set_chain (query_within n) (length ts) ts

-- a list without one last `;`
abbrev pub without_semicolon : List Token → List Token
without_semicolon [] = []
without_semicolon (t ∷ []) = if is_semicolon t.what then [] else t ∷ []
without_semicolon (t ∷ u ∷ ts) = t ∷ without_semicolon (u ∷ ts)

-- the tree of a token list, if it has one
abbrev pub parsed_tree : List Token → Option QueryTree
parsed_tree ts = let query = without_semicolon ts in query_within (length query) query
