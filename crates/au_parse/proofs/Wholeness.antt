-- Each tree of the grammar is whole.
use Rattle.std.proofs.Common.{◌≡◌, ℕ, zero, suc, ◌&&◌, Bool, true, false, List, [], ◌∷◌, length, map, Some, None, refl, subst}
use Rattle.std.specs.Prelude.{Option, IfSome, option_map, option_and_then, is_some, if◌then◌else◌}
use Rattle.au_lex.specs.declared.Keyword.TheVariants as key
use Rattle.au_lex.specs.declared.Lexeme.{Lexeme}
use Rattle.au_lex.specs.declared.Lexeme.TheVariants as lex
use Rattle.au_lex.specs.Lexemes.{is_scale}
use Rattle.au_lex.specs.declared.Token.{Token}
use Rattle.au_parse.specs.declared.AggWord.{AggWord}
use Rattle.au_parse.specs.declared.Name.{Name}
use Rattle.au_parse.specs.Tree.{TermTree, Operator, ItemTree, SetWord, QueryTree, Sources}
use Rattle.au_parse.specs.Words.{CasePart, case_word, comma, comparison_operator, is_group_open, is_group_close, is_case, is_end, is_minus, is_not, is_star, is_dot, is_by, is_select, is_distinct, is_all, aggregate_word, name_word, or_operator, and_operator, product_operator, clause_word}
use Rattle.au_parse.specs.Cuts.{Split, Part, cut, inside, anywhere}
use Rattle.au_parse.specs.Expressions.{Reader, both, both_parts, split_tree, chain, sum_mark, atom, column_of, counts_rows, aggregate_tree, case_rest, case_parts, case_tree, called, primary, sign_step, product_step, sum_step, compared, comparison_step, not_step, and_step, or_step, expression_within, expression}
use Rattle.au_parse.specs.Queries.{QueryReader, ClauseTokens, all_some, aliased, between_commas, part_tokens, value_item, item_tree, inner_source, table_source, source_with, sources, condition_tree, keys_tree, select_of, select_with, select_body, select_rest, operand, has_all, without_all, set_chain, query_within, parsed_tree, without_semicolon, clauses}
use Rattle.au_parse.specs.Whole.{HasWhen, WholeTerm, WholeItem, WholeItems, has_keys, HasSource, WholeQuery, WholeSources}

-- what is read is whole
abbrev Whole : Option TermTree → Type 0
Whole found = IfSome found WholeTerm

abbrev Reads : Reader → Type 0
Reads reader = (ts : List Token) → Whole (reader ts)

whole_binary : (p : ℕ) (m : Operator) (a b : Option TermTree) → Whole a → Whole b → Whole (both (TermTree.binary p m) a b)
whole_binary p m None b is also = tt
whole_binary p m (Some x) None is also = tt
whole_binary p m (Some x) (Some y) is also = (is, also)

whole_then : {A : Type 0} (f : A → Option TermTree) (o : Option A) → ((x : A) → Whole (f x)) → Whole (option_and_then f o)
whole_then f None is = tt
whole_then f (Some x) is = is x

whole_split : (again next : Reader) (ts : List Token) (found : Option (Split Operator)) → Reads again → Reads next → Whole (split_tree again next ts found)
whole_split again next ts None more is = is ts
whole_split again next ts (Some s) more is = whole_binary s.place s.mark (again s.left) (next s.right) (more s.left) (is s.right)

whole_chain : (mark : Bool → Lexeme → Option Operator) (next : Reader) → Reads next → (n : ℕ) → Reads (chain mark next n)
unfolding chain
whole_chain mark next is zero ts = is ts
whole_chain mark next is (suc n) ts = whole_split (chain mark next n) next ts _ (whole_chain mark next is n) is

whole_atom : (at : ℕ) (what : Lexeme) → Whole (atom at what)
whole_atom at (lex.Name w) = tt
whole_atom at (lex.Quoted w) = tt
whole_atom at (lex.Number n) = tt
whole_atom at (lex.Decimal n digits) = by_test (is_scale digits) refl
  where
    by_test : (v : Bool) → is_scale digits ≡ v → Whole (if v then Some (TermTree.decimal at n digits) else None)
    by_test true is = is
    by_test false is = tt
whole_atom at (lex.Text w) = tt
whole_atom at (lex.Key key.True) = tt
whole_atom at (lex.Key key.False) = tt
whole_atom at _ = tt

whole_column : (found : Option Name) → Whole (option_map TermTree.column found)
whole_column None = tt
whole_column (Some name) = tt

module _ (inner : Reader) (is : Reads inner) where
  whole_map : (f : TermTree → TermTree) → ((e : TermTree) → WholeTerm e → WholeTerm (f e)) → (found : Option TermTree) → Whole found → Whole (option_map f found)
  whole_map f step None is' = tt
  whole_map f step (Some e) is' = step e is'

  whole_aggregate : (at : ℕ) (word : AggWord) → Reads (aggregate_tree inner at word)
  whole_aggregate at word ts = by_test (counts_rows word ts)
    where
      by_test : (v : Bool) → Whole (if v then Some (TermTree.count_rows at) else option_map (TermTree.aggregate at word) (inner ts))
      by_test true = tt
      by_test false = whole_map (TermTree.aggregate at word) (λ e is'. is') (inner ts) (is ts)

  abbrev Arms : Option TermTree → Type 0
  Arms found = IfSome found (λ e. HasWhen e × WholeTerm e)

  whole_arm : (condition value rest : Option TermTree) → Whole condition → Whole value → Whole rest → Arms (both_parts condition value rest)
  whole_arm None value rest c v r = tt
  whole_arm (Some x) None rest c v r = tt
  whole_arm (Some x) (Some y) None c v r = tt
  whole_arm (Some x) (Some y) (Some z) c v r = (tt, (c, v, r))

  arms_whole : (found : Option TermTree) → Arms found → Whole found
  arms_whole None arms = tt
  arms_whole (Some e) arms = arms.1

  whole_rest : (parts : List (Part CasePart)) → Whole (case_rest inner parts)
  whole_rest (Part.part CasePart.else_part p value ∷ []) = is value
  whole_rest (Part.part CasePart.when_part p condition ∷ Part.part CasePart.then_part q value ∷ more) =
      arms_whole _ (whole_arm (inner condition) (inner value) (case_rest inner more) (is condition) (is value) (whole_rest more))
  whole_rest _ = tt

  whole_parts : (first : List Token) (parts : List (Part CasePart)) → Arms (case_parts inner first parts)
  whole_parts [] (Part.part CasePart.when_part p condition ∷ Part.part CasePart.then_part q value ∷ more) =
      whole_arm (inner condition) (inner value) (case_rest inner more) (is condition) (is value) (whole_rest more)
  whole_parts _ _ = tt

  whole_case : (at : ℕ) → Reads (case_tree inner at)
  whole_case at ts = by_arms (case_parts inner (cut case_word ts).first (cut case_word ts).others) (whole_parts (cut case_word ts).first (cut case_word ts).others)
    where
      by_arms : (found : Option TermTree) → Arms found → Whole (option_map (TermTree.case at) found)
      by_arms None arms = tt
      by_arms (Some e) arms = arms

  whole_called : (t : Token) (ts : List Token) (word : Option AggWord) → Whole (called inner t ts word)
  whole_called t ts None = whole_column (column_of (t ∷ ts))
  whole_called t [] (Some word) = tt
  whole_called t (b ∷ ts) (Some word) = by_test (is_group_open b.what)
    where
      by_test : (v : Bool) → Whole (if v then option_and_then (aggregate_tree inner t.from word) (inside is_group_close zero ts) else option_map TermTree.column (column_of (t ∷ b ∷ ts)))
      by_test true = whole_then (aggregate_tree inner t.from word) (inside is_group_close zero ts) (whole_aggregate t.from word)
      by_test false = whole_column (column_of (t ∷ b ∷ ts))

  whole_primary : Reads (primary inner)
  whole_primary [] = tt
  whole_primary (t ∷ []) = whole_atom t.from t.what
  whole_primary (t ∷ u ∷ ts) = by_tests (is_group_open t.what) (is_case t.what)
    where
      by_tests : (v w : Bool) → Whole (elim v [
        | true ↦ option_and_then inner (inside is_group_close zero (u ∷ ts))
        | false ↦ elim w [ true ↦ option_and_then (case_tree inner t.from) (inside is_end zero (u ∷ ts)) | false ↦ called inner t (u ∷ ts) (aggregate_word t.what) ]
      ])
      by_tests true w = whole_then inner (inside is_group_close zero (u ∷ ts)) is
      by_tests false true = whole_then (case_tree inner t.from) (inside is_end zero (u ∷ ts)) (whole_case t.from)
      by_tests false false = whole_called t (u ∷ ts) (aggregate_word t.what)

  whole_sign : Reads (sign_step inner)
  whole_sign [] = tt
  whole_sign (t ∷ ts) = by_test (is_minus t.what)
    where
      by_test : (v : Bool) → Whole (elim v [ true ↦ option_map (TermTree.negate t.from) (primary inner ts) | false ↦ primary inner (t ∷ ts) ])
      by_test true = whole_map (TermTree.negate t.from) (λ e is'. is') (primary inner ts) (whole_primary ts)
      by_test false = whole_primary (t ∷ ts)

  whole_sum : Reads (sum_step inner)
  whole_sum ts = whole_chain sum_mark (product_step inner) (λ us. whole_chain (anywhere product_operator) (sign_step inner) whole_sign (length us) us) (length ts) ts

  whole_compared : (first : List Token) (parts : List (Part Operator)) → Whole (compared inner first parts)
  whole_compared first [] = whole_sum first
  whole_compared first (Part.part m p second ∷ []) = whole_binary p m (sum_step inner first) (sum_step inner second) (whole_sum first) (whole_sum second)
  whole_compared first (m ∷ n ∷ more) = tt

  whole_comparison : Reads (comparison_step inner)
  whole_comparison ts = whole_compared (cut comparison_operator ts).first (cut comparison_operator ts).others

  whole_not : Reads (not_step inner)
  whole_not [] = tt
  whole_not (t ∷ ts) = by_test (is_not t.what)
    where
      by_test : (v : Bool) → Whole (elim v [ true ↦ option_map (TermTree.not t.from) (comparison_step inner ts) | false ↦ comparison_step inner (t ∷ ts) ])
      by_test true = whole_map (TermTree.not t.from) (λ e is'. is') (comparison_step inner ts) (whole_comparison ts)
      by_test false = whole_comparison (t ∷ ts)

  whole_or : Reads (or_step inner)
  whole_or ts = whole_chain (anywhere or_operator) (and_step inner) (λ us. whole_chain (anywhere and_operator) (not_step inner) whole_not (length us) us) (length ts) ts

whole_expression_within : (n : ℕ) → Reads (expression_within n)
unfolding expression_within
whole_expression_within zero ts = tt
whole_expression_within (suc n) ts = whole_or (expression_within n) (whole_expression_within n) ts

whole_expression : Reads expression
whole_expression ts = whole_expression_within (length ts) ts

-- items and keys
whole_value : (alias : Option (List ℕ)) (found : Option TermTree) → Whole found → IfSome (option_map (λ e. ItemTree.value e alias) found) WholeItem
whole_value alias None is = tt
whole_value alias (Some e) is = is

whole_value_item : (ts : List Token) → IfSome (value_item ts) WholeItem
whole_value_item ts = whole_value (aliased ts).alias (expression (aliased ts).tokens) (whole_expression (aliased ts).tokens)

whole_star : (at : ℕ) (name : Option (List ℕ)) → IfSome (option_map (ItemTree.star_of at) name) WholeItem
whole_star at None = tt
whole_star at (Some w) = tt

whole_item : (ts : List Token) → IfSome (item_tree ts) WholeItem
whole_item [] = whole_value_item []
whole_item (s ∷ []) = by_test (is_star s.what)
  where
    by_test : (v : Bool) → IfSome (if v then Some (ItemTree.star s.from) else value_item (s ∷ [])) WholeItem
    by_test true = tt
    by_test false = whole_value_item (s ∷ [])
whole_item (t ∷ d ∷ []) = whole_value_item (t ∷ d ∷ [])
whole_item (t ∷ d ∷ s ∷ []) = by_test (is_dot d.what && is_star s.what)
  where
    by_test : (v : Bool) → IfSome (if v then option_map (ItemTree.star_of t.from) (name_word t.what) else value_item (t ∷ d ∷ s ∷ [])) WholeItem
    by_test true = whole_star t.from (name_word t.what)
    by_test false = whole_value_item (t ∷ d ∷ s ∷ [])
whole_item (t ∷ d ∷ s ∷ x ∷ ts) = whole_value_item (t ∷ d ∷ s ∷ x ∷ ts)

items_step : (found : Option ItemTree) (rest : List (Option ItemTree)) → IfSome found WholeItem → IfSome (all_some rest) WholeItems → IfSome (all_some (found ∷ rest)) WholeItems
unfolding all_some
items_step None rest is more = tt
items_step (Some item) rest is more = by_rest (all_some rest) more
  where
    by_rest : (others : Option (List ItemTree)) → IfSome others WholeItems → IfSome (option_map (λ items. item ∷ items) others) WholeItems
    by_rest None more = tt
    by_rest (Some items) more = (is, more)

whole_items : (lists : List (List Token)) → IfSome (all_some (map item_tree lists)) WholeItems
unfolding all_some
whole_items [] = tt
whole_items (ts ∷ more) = items_step (item_tree ts) (map item_tree more) (whole_item ts) (whole_items more)

keys_step : (found : Option Name) (rest : List (Option Name)) → IfSome (all_some (found ∷ rest)) (λ keys. true ≡ has_keys keys)
unfolding all_some
keys_step None rest = tt
keys_step (Some name) rest = by_rest (all_some rest)
  where
    by_rest : (others : Option (List Name)) → IfSome (option_map (λ names. name ∷ names) others) (λ keys. true ≡ has_keys keys)
    by_rest None = tt
    by_rest (Some names) = refl

whole_keys : (group : Option (List Token)) → IfSome (keys_tree group) (λ keys. is_some group ≡ has_keys keys)
whole_keys None = refl
whole_keys (Some []) = tt
whole_keys (Some (t ∷ ts)) = by_test (is_by t.what)
  where
    by_test : (v : Bool) → IfSome (if v then all_some (map column_of (between_commas ts)) else None) (λ keys. true ≡ has_keys keys)
    by_test true = keys_step _ _
    by_test false = tt

abbrev placed : ℕ → TermTree → Option (ℕ × TermTree)
placed at e = Some (at, e)

whole_placed : (at : ℕ) (found : Option TermTree) → Whole found → IfSome (option_map (placed at) found) (λ o. IfSome o (λ c. WholeTerm c.1))
whole_placed at None is = tt
whole_placed at (Some e) is = is

whole_condition : (clause : Option (ℕ × List Token)) → IfSome (condition_tree clause) (λ o. IfSome o (λ c. WholeTerm c.1))
whole_condition None = tt
whole_condition (Some c) = whole_placed c.0 (expression c.1) (whole_expression c.1)

-- queries
abbrev WholeRead : Option QueryTree → Type 0
WholeRead found = IfSome found WholeQuery

abbrev WholeFrom : Sources → Type 0
WholeFrom s = HasSource s × WholeSources s

whole_select_of : (at : ℕ) (distinct grouped : Bool) (items : Option (List ItemTree)) (from : Option Sources) (condition : Option (Option (ℕ × TermTree))) (keys : Option (List Name)) (having : Option (Option (ℕ × TermTree)))
    → IfSome items WholeItems → IfSome from WholeFrom → IfSome condition (λ o. IfSome o (λ c. WholeTerm c.1)) → IfSome keys (λ names. grouped ≡ has_keys names) → IfSome having (λ o. IfSome o (λ c. WholeTerm c.1))
    → WholeRead (select_of at distinct grouped items from condition keys having)
whole_select_of at d g None from condition keys having i f c k h = tt
whole_select_of at d g (Some items) None condition keys having i f c k h = tt
whole_select_of at d g (Some items) (Some from) None keys having i f c k h = tt
whole_select_of at d g (Some items) (Some from) (Some condition) None having i f c k h = tt
whole_select_of at d g (Some items) (Some from) (Some condition) (Some keys) None i f c k h = tt
whole_select_of at d g (Some items) (Some from) (Some condition) (Some keys) (Some having) i f c k h = (i, f.0, f.1, c, k, h)

whole_table : (at : ℕ) (name alias : Option (List ℕ)) (others : Option Sources) → IfSome others WholeSources → IfSome (table_source at name alias others) WholeFrom
whole_table at None alias others is = tt
whole_table at (Some w) alias None is = tt
whole_table at (Some w) alias (Some s) is = (tt, is)

whole_inner : (at : ℕ) (found : Option QueryTree) (alias : Option (List ℕ)) (others : Option Sources) → WholeRead found → IfSome others WholeSources → IfSome (inner_source at found alias others) WholeFrom
whole_inner at found None others is also = tt
whole_inner at None (Some w) others is also = tt
whole_inner at (Some q) (Some w) None is also = tt
whole_inner at (Some q) (Some w) (Some s) is also = (tt, (is, also))

whole_set : (m : SetWord) (all : Bool) (at : ℕ) (a b : Option QueryTree) → WholeRead a → WholeRead b → WholeRead (both (QueryTree.set m all at) a b)
whole_set m all at None b is also = tt
whole_set m all at (Some x) None is also = tt
whole_set m all at (Some x) (Some y) is also = (is, also)

module _ (query : QueryReader) (is : (ts : List Token) → WholeRead (query ts)) where
  whole_inside : (o : Option (List Token)) → WholeRead (option_and_then query o)
  whole_inside None = tt
  whole_inside (Some ts) = is ts

  whole_source : (ts : List Token) (alias : Option (List ℕ)) (others : Option Sources) → IfSome others WholeSources → IfSome (source_with query ts alias others) WholeFrom
  whole_source [] alias others more = tt
  whole_source (t ∷ []) alias others more = whole_table t.from (name_word t.what) alias others more
  whole_source (t ∷ u ∷ ts) alias others more = by_test (is_group_open t.what)
    where
      by_test : (v : Bool) → IfSome (if v then inner_source t.from (option_and_then query (inside is_group_close zero (u ∷ ts))) alias others else None) WholeFrom
      by_test true = whole_inner t.from (option_and_then query (inside is_group_close zero (u ∷ ts))) alias others (whole_inside (inside is_group_close zero (u ∷ ts))) more
      by_test false = tt

  from_whole : (found : Option Sources) → IfSome found WholeFrom → IfSome found WholeSources
  from_whole None whole = tt
  from_whole (Some s) whole = whole.1

  whole_sources : (lists : List (List Token)) → IfSome (sources query lists) WholeSources
  unfolding sources
  whole_sources [] = tt
  whole_sources (ts ∷ more) = from_whole _ (whole_source (aliased ts).tokens (aliased ts).alias (sources query more) (whole_sources more))

  whole_from : (ts : List Token) → IfSome (sources query (between_commas ts)) WholeFrom
  unfolding sources
  whole_from ts =
      let first = aliased (cut comma ts).first in
      let others = map part_tokens (cut comma ts).others in
      whole_source first.tokens first.alias (sources query others) (whole_sources others)

  whole_body : (at : ℕ) (distinct : Bool) (ts : List Token) → WholeRead (select_body query at distinct ts)
  whole_body at distinct ts = by_clauses (cut clause_word ts).first (clauses (cut clause_word ts).others)
    where
      by_clauses : (items : List Token) (found : Option ClauseTokens) → WholeRead (option_and_then (select_with query at distinct items) found)
      by_clauses items None = tt
      by_clauses items (Some parts) =
          whole_select_of at distinct (is_some parts.group) _ _ _ _ _ (whole_items (between_commas items)) (whole_from parts.from) (whole_condition parts.condition) (whole_keys parts.group) (whole_condition parts.having)

  whole_select : (at : ℕ) (ts : List Token) → WholeRead (select_rest query at ts)
  whole_select at [] = tt
  whole_select at (t ∷ ts) = by_tests (is_distinct t.what) (is_all t.what)
    where
      by_tests : (v w : Bool) → WholeRead (elim v [ true ↦ select_body query at true ts | false ↦ elim w [ true ↦ select_body query at false ts | false ↦ select_body query at false (t ∷ ts) ] ])
      by_tests true w = whole_body at true ts
      by_tests false true = whole_body at false ts
      by_tests false false = whole_body at false (t ∷ ts)

  whole_operand : (ts : List Token) → WholeRead (operand query ts)
  whole_operand [] = tt
  whole_operand (t ∷ ts) = by_tests (is_group_open t.what) (is_select t.what)
    where
      by_tests : (v w : Bool) → WholeRead (elim v [ true ↦ option_and_then query (inside is_group_close zero ts) | false ↦ elim w [ true ↦ select_rest query t.from ts | false ↦ None ] ])
      by_tests true w = whole_inside (inside is_group_close zero ts)
      by_tests false true = whole_select t.from ts
      by_tests false false = tt

  sets_step : (n : ℕ) (ts : List Token) (found : Option (Split SetWord)) → ((us : List Token) → WholeRead (set_chain query n us))
      → WholeRead (elim found [ None ↦ operand query ts | Some s ↦ both (QueryTree.set s.mark (has_all s.right) s.place) (set_chain query n s.left) (operand query (without_all s.right)) ])
  sets_step n ts None more = whole_operand ts
  sets_step n ts (Some s) more = whole_set s.mark (has_all s.right) s.place (set_chain query n s.left) (operand query (without_all s.right)) (more s.left) (whole_operand (without_all s.right))

  whole_sets : (n : ℕ) (ts : List Token) → WholeRead (set_chain query n ts)
  unfolding set_chain
  whole_sets zero ts = whole_operand ts
  whole_sets (suc n) ts = sets_step n ts _ (whole_sets n)

whole_within : (n : ℕ) (ts : List Token) → WholeRead (query_within n ts)
unfolding query_within
whole_within zero ts = tt
whole_within (suc n) ts = whole_sets (query_within n) (whole_within n) (length ts) ts

-- the tree of a token list is whole
pub tree_whole : (ts : List Token) (q : QueryTree) → parsed_tree ts ≡ Some q → WholeQuery q
tree_whole ts q is = subst (λ o. IfSome o WholeQuery) is (whole_within (length (without_semicolon ts)) (without_semicolon ts))
