-- Queries as their set words, sources and SELECTs, read from the left.
use Rattle.std.proofs.Common.{◌≡◌, ℕ, zero, suc, ◌≤◌, ◌<◌, ◌||◌, Bool, true, false, List, [], ◌∷◌, ◌++◌, length, map, take, drop, Some, None, refl, sym, ap, ◌∙◌, arith}
use Rattle.std.specs.Prelude.{Option, option_map, option_and_then, is_some, IfSome, if◌then◌else◌}
use Rattle.au_lex.specs.declared.Lexeme.{Lexeme}
use Rattle.au_lex.specs.declared.Lexeme.TheVariants as lex
use Rattle.au_lex.specs.declared.Keyword.TheVariants as key
use Rattle.au_lex.specs.declared.Token.{Token}
use Rattle.au_parse.specs.declared.pieces.Mark.TheVariants as at
use Rattle.au_parse.specs.declared.Source.{Source}
use Rattle.au_parse.specs.Tree.{SetWord, QueryTree, Sources}
use Rattle.au_parse.specs.Words.{clause_word, set_word, ends_operand, depth_after, is_all, is_distinct, is_group_open, is_group_close, is_select, name_word}
use Rattle.au_parse.specs.Cuts.{cut, cut_from, anywhere, inside}
use Rattle.au_parse.specs.Expressions.{both}
use Rattle.au_parse.specs.Levels.{front_length, is_mark, rest_parts}
use Rattle.au_parse.specs.Queries.{QueryReader, ClauseTokens, aliased, all_some, between_commas, clauses, condition_tree, has_all, inner_source, item_tree, keys_tree, operand, query_within, select_body, select_of, select_rest, select_with, set_chain, source_with, sources, table_source, without_all}
use Rattle.au_parse.specs.Views.{source_before}
use Rattle.au_parse.specs.Statements.{aliased_by, behind_comma, behind_quantifier, clause_parts, says_distinct, set_step, sets_from_left, source_step, sources_before, sources_of}
use Rattle.au_parse.proofs.Chains.{set_chain-length}
use Rattle.au_parse.proofs.Cutting.{IsMark, cut_by}
use Rattle.au_parse.proofs.ListPieces.{left_length}

set_mark : IsMark (anywhere set_word) (is_mark at.Set)
set_mark = record { same = λ after what. refl; always = λ what m is. is; no_end = λ after what m is. ends what m is; flat = λ after what m is. flat what m is }
  where
    ends : (what : Lexeme) (m : SetWord) → set_word what ≡ Some m → ends_operand what ≡ false
    ends (lex.Key key.Union) m is = refl
    ends (lex.Key key.Except) m is = refl
    ends _ m is = cc

    flat : (what : Lexeme) (m : SetWord) → set_word what ≡ Some m → depth_after 0 what ≡ 0
    flat (lex.Key key.Union) m is = refl
    flat (lex.Key key.Except) m is = refl
    flat _ m is = cc

-- what has been read and what is left make what the whole list reads as
abbrev pub GoesOnSets : List Token → Option QueryTree → List Token → Type 0
GoesOnSets ts tree rest = (n : ℕ) → length ts ≤ suc n → set_step (query_within n) ts ≡ sets_from_left (query_within n) tree (rest_parts (anywhere set_word) rest)

pub sets_first : (ts first rest : List Token) (k : ℕ) (tree : Option QueryTree) → k ≡ front_length (is_mark at.Set) false 0 ts → first ≡ take k ts → rest ≡ drop k ts
    → ((n : ℕ) → length first ≤ suc n → operand (query_within n) first ≡ tree) → length first ≤ length ts → GoesOnSets ts tree rest
sets_first ts first rest k tree k_is first_is rest_is reads shorter n fits =
    set_chain-length (query_within n) ts
    ∙ ap (λ parts. sets_from_left (query_within n) (operand (query_within n) parts.first) parts.others) (cut_by (anywhere set_word) (is_mark at.Set) set_mark false 0 ts)
    ∙ rw (← k_is, ← first_is, ← rest_is) (ap (λ t. sets_from_left (query_within n) t (rest_parts (anywhere set_word) rest)) (reads n (omega arith)))

pub sets_on : (ts left others piece side rest : List Token) (o : Token) (m : SetWord) (k : ℕ) (a : Bool) (tree right all : Option QueryTree) → left ≡ o ∷ others → set_word o.what ≡ Some m
    → k ≡ front_length (is_mark at.Set) false 0 others → piece ≡ take k others → rest ≡ drop k others → a ≡ has_all piece → side ≡ without_all piece
    → ((n : ℕ) → length side ≤ suc n → operand (query_within n) side ≡ right) → length side ≤ length ts → all ≡ both (QueryTree.set m a o.from) tree right
    → GoesOnSets ts tree left → GoesOnSets ts all rest
sets_on ts left others piece side rest o m k a tree right all is mark k_is piece_is rest_is a_is side_is reads shorter all_is so_far n fits =
    so_far n fits ∙ ap (λ xs. sets_from_left (query_within n) tree (rest_parts (anywhere set_word) xs)) is
    ∙ rw (mark, cut_by (anywhere set_word) (is_mark at.Set) set_mark false 0 others, ← k_is, ← piece_is, ← rest_is)
    (ap (λ t. sets_from_left (query_within n) t (rest_parts (anywhere set_word) rest)) (
    ap (λ b. both (QueryTree.set m b o.from) tree (operand (query_within n) (without_all piece))) (sym a_is)
    ∙ ap (λ xs. both (QueryTree.set m a o.from) tree (operand (query_within n) xs)) (sym side_is)
    ∙ ap (both (QueryTree.set m a o.from) tree) (reads n (omega arith)) ∙ sym all_is))

pub sets_end : (ts left : List Token) (tree : Option QueryTree) → length left ≡ 0 → GoesOnSets ts tree left → (n : ℕ) → length ts ≤ suc n → set_step (query_within n) ts ≡ tree
sets_end ts [] tree is so_far n fits = so_far n fits
sets_end ts (x ∷ xs) tree is so_far n fits = absurd (omega arith)

pub sets_no_mark : (ts left others : List Token) (o : Token) (tree : Option QueryTree) → left ≡ o ∷ others → set_word o.what ≡ None → GoesOnSets ts tree left
    → (n : ℕ) → length ts ≤ suc n → set_step (query_within n) ts ≡ tree
sets_no_mark ts left others o tree is mark so_far n fits =
    so_far n fits ∙ ap (λ xs. sets_from_left (query_within n) tree (rest_parts (anywhere set_word) xs)) is ∙ rw mark

-- between brackets
pub query_inside : (ts : List Token) (found : Option QueryTree) → ((n : ℕ) → length ts ≤ suc n → set_step (query_within n) ts ≡ found) → (n : ℕ) → length ts < n → query_within n ts ≡ found
unfolding query_within
query_inside ts found reads zero fits = absurd (omega arith)
query_inside ts found reads (suc n) fits = reads n (omega arith)

-- an operand
operand_here : (query : QueryReader) (t : Token) (ts : List Token) (v w : Bool) → is_group_open t.what ≡ v → is_select t.what ≡ w
    → operand query (t ∷ ts) ≡ (elim v [ true ↦ option_and_then query (inside is_group_close zero ts) | false ↦ elim w [ true ↦ select_rest query t.from ts | false ↦ None ] ])
operand_here query t ts v w is also =
    ap (λ (x : Bool). elim x as (λ (y : Bool). Option QueryTree) [
      | true ↦ option_and_then query (inside is_group_close zero ts)
      | false ↦ elim (is_select t.what) [ true ↦ select_rest query t.from ts | false ↦ None ]
    ]) is
    ∙ ap (λ (x : Bool). elim v as (λ (y : Bool). Option QueryTree) [
      | true ↦ option_and_then query (inside is_group_close zero ts)
      | false ↦ elim x as (λ (y : Bool). Option QueryTree) [ true ↦ select_rest query t.from ts | false ↦ None ]
    ]) also

pub operand_group : (ts others middle : List Token) (t : Token) (found : Option QueryTree) → ts ≡ t ∷ others → true ≡ is_group_open t.what → Some middle ≡ inside is_group_close 0 others → length middle < length others
    → ((n : ℕ) → length middle ≤ suc n → set_step (query_within n) middle ≡ found) → (n : ℕ) → length ts ≤ suc n → operand (query_within n) ts ≡ found
operand_group ts others middle t found is holds closed shorter reads n fits =
    ap (operand (query_within n)) is ∙ operand_here (query_within n) t others true _ (sym holds) refl ∙ ap (option_and_then (query_within n)) (sym closed)
    ∙ query_inside middle found reads n (omega (arith, ap length is))

pub operand_open : (ts others : List Token) (t : Token) → ts ≡ t ∷ others → true ≡ is_group_open t.what → None ≡ inside is_group_close 0 others → (n : ℕ) → operand (query_within n) ts ≡ None
operand_open ts others t is holds closed n = ap (operand (query_within n)) is ∙ operand_here (query_within n) t others true _ (sym holds) refl ∙ ap (option_and_then (query_within n)) (sym closed)

pub operand_select : (ts others : List Token) (t : Token) (found : Option QueryTree) → ts ≡ t ∷ others → false ≡ is_group_open t.what → true ≡ is_select t.what
    → ((n : ℕ) → length others ≤ suc n → select_rest (query_within n) t.from others ≡ found) → (n : ℕ) → length ts ≤ suc n → operand (query_within n) ts ≡ found
operand_select ts others t found is fails holds reads n fits =
    ap (operand (query_within n)) is ∙ operand_here (query_within n) t others false true (sym fails) (sym holds) ∙ reads n (omega (arith, ap length is))

pub operand_other : (ts others : List Token) (t : Token) → ts ≡ t ∷ others → false ≡ is_group_open t.what → false ≡ is_select t.what → (n : ℕ) → operand (query_within n) ts ≡ None
operand_other ts others t is fails nor n = ap (operand (query_within n)) is ∙ operand_here (query_within n) t others false false (sym fails) (sym nor)

pub operand_empty : (ts : List Token) → length ts ≡ 0 → (n : ℕ) → operand (query_within n) ts ≡ None
operand_empty [] none n = refl
operand_empty (t ∷ ts) none n = absurd (omega arith)

-- a SELECT
rest_is_body : (query : QueryReader) (at : ℕ) (ts : List Token) → select_rest query at ts ≡ select_body query at (says_distinct ts) (behind_quantifier ts)
unfolding cut_from
rest_is_body query at [] = refl
rest_is_body query at (t ∷ ts) = by_tests (is_distinct t.what) (is_all t.what)
  where
    by_tests : (d a : Bool) → (elim d [ true ↦ select_body query at true ts | false ↦ elim a [ true ↦ select_body query at false ts | false ↦ select_body query at false (t ∷ ts) ] ])
        ≡ select_body query at d (if d || a then ts else t ∷ ts)
    by_tests true a = refl
    by_tests false true = refl
    by_tests false false = refl

-- what a SELECT has been cut to
pub record IsSelect (ts body first behind : List Token) (d : Bool) : Type 0 where
  pub distinct : d ≡ says_distinct ts
  pub rest : body ≡ behind_quantifier ts
  pub parts : cut clause_word body ≡ record { first = first; others = clause_parts behind }

select_is : (query : QueryReader) (at : ℕ) (ts body first behind : List Token) (d : Bool) → IsSelect ts body first behind d
    → select_rest query at ts ≡ option_and_then (select_with query at d first) (clauses (clause_parts behind))
select_is query at ts body first behind d is =
    rest_is_body query at ts ∙ ap (λ b. select_body query at b (behind_quantifier ts)) (sym is.distinct) ∙ ap (select_body query at d) (sym is.rest)
    ∙ ap (λ parts. option_and_then (select_with query at d parts.first) (clauses parts.others)) is.parts

pub select_none : (at : ℕ) (ts body first behind : List Token) (d : Bool) → IsSelect ts body first behind d → None ≡ clauses (clause_parts behind) → (n : ℕ) → select_rest (query_within n) at ts ≡ None
select_none at ts body first behind d is none n = select_is (query_within n) at ts body first behind d is ∙ ap (option_and_then (select_with (query_within n) at d first)) (sym none)

pub select_some : (at : ℕ) (ts body first behind : List Token) (d grouped : Bool) (parts : ClauseTokens) (group : Option (List Token)) (from : Option Sources) (all : Option QueryTree) → IsSelect ts body first behind d
    → Some parts ≡ clauses (clause_parts behind) → grouped ≡ is_some parts.group → group ≡ parts.group
    → length parts.from ≤ length ts → ((n : ℕ) → length parts.from ≤ suc n → sources (query_within n) (between_commas parts.from) ≡ from)
    → all ≡ select_of at d grouped (all_some (map item_tree (between_commas first))) from (condition_tree parts.condition) (keys_tree group) (condition_tree parts.having)
    → (n : ℕ) → length ts ≤ suc n → select_rest (query_within n) at ts ≡ all
select_some at ts body first behind d grouped parts group from all is some grouped_is group_is shorter reads all_is n fits =
    select_is (query_within n) at ts body first behind d is ∙ ap (option_and_then (select_with (query_within n) at d first)) (sym some)
    ∙ ap (λ f. select_of at d (is_some parts.group) (all_some (map item_tree (between_commas first))) f (condition_tree parts.condition) (keys_tree parts.group) (condition_tree parts.having)) (reads n (omega arith))
    ∙ ap (λ b. select_of at d b (all_some (map item_tree (between_commas first))) from (condition_tree parts.condition) (keys_tree parts.group) (condition_tree parts.having)) (sym grouped_is)
    ∙ ap (λ g. select_of at d grouped (all_some (map item_tree (between_commas first))) from (condition_tree parts.condition) (keys_tree g) (condition_tree parts.having)) (sym group_is)
    ∙ sym all_is

-- options
pub map_twice : {A B C : Type 0} (f : B → C) (g : A → B) (o : Option A) → option_map f (option_map g o) ≡ option_map (λ x. f (g x)) o
map_twice f g None = refl
map_twice f g (Some x) = refl

pub then_map : {A B C : Type 0} (f : B → Option C) (g : A → B) (o : Option A) → option_and_then f (option_map g o) ≡ option_and_then (λ x. f (g x)) o
then_map f g None = refl
then_map f g (Some x) = refl

pub some_map : {A B : Type 0} (f : A → B) (o : Option A) → is_some o ≡ is_some (option_map f o)
some_map f None = refl
some_map f (Some x) = refl

pub left_less : {A : Type 0} (now : A → List Token) (o : Option A) (n : ℕ) → IfSome o (λ x. length (now x) < n) → left_length (option_map now o) ≤ n
left_less now None n less = omega arith
left_less now (Some x) n less = less

-- the sources of a FROM clause, one after the other
abbrev pub with_sources : List Source → Option Sources → Option Sources
with_sources done rest = option_map (sources_before done) rest

abbrev pub GoesOnSources : List Token → List Source → Option (List Token) → Type 0
GoesOnSources ts done left = (n : ℕ) → length ts ≤ suc n → sources (query_within n) (between_commas ts) ≡ with_sources done (sources (query_within n) (behind_comma left))

pub no_source : (ts : List Token) → GoesOnSources ts [] (Some ts)
no_source ts n fits = same (sources (query_within n) (between_commas ts))
  where
    same : (found : Option Sources) → found ≡ with_sources [] found
    same None = refl
    same (Some s) = refl

sources_last : (done : List Source) (s : Source) (others : Sources) → sources_before (done ++ s ∷ []) others ≡ sources_before done (source_before s others)
sources_last [] s others = refl
sources_last (x ∷ done) s others = ap (source_before x) (sources_last done s others)

one_source : (done : List Source) (s : Source) (rest : Option Sources) → with_sources done (both source_before (Some s) rest) ≡ with_sources (done ++ s ∷ []) rest
one_source done s None = refl
one_source done s (Some others) = ap (λ x. Some x) (sym (sources_last done s others))

module _ (ts rest piece : List Token) (done : List Source) (left : Option (List Token)) (so_far : GoesOnSources ts done (Some rest)) (is : between_commas rest ≡ piece ∷ behind_comma left) (shorter : length piece ≤ length ts)
    (found : Option Source) (reads : (n : ℕ) (others : Option Sources) → length piece ≤ suc n → source_step (query_within n) piece others ≡ both source_before found others) where
  here : (n : ℕ) → length ts ≤ suc n → sources (query_within n) (between_commas ts) ≡ with_sources done (both source_before found (sources (query_within n) (behind_comma left)))
  unfolding sources
  here n fits = so_far n fits ∙ ap (λ xs. with_sources done (sources (query_within n) xs)) is ∙ ap (with_sources done) (reads n _ (omega arith))

  pub source_more : (s : Source) (all : List Source) → found ≡ Some s → all ≡ done ++ s ∷ [] → GoesOnSources ts all left
  source_more s all found_is all_is n fits =
      here n fits ∙ ap (λ f. with_sources done (both source_before f (sources (query_within n) (behind_comma left)))) found_is
      ∙ one_source done s (sources (query_within n) (behind_comma left)) ∙ ap (λ xs. with_sources xs (sources (query_within n) (behind_comma left))) (sym all_is)

  pub source_none : found ≡ None → (n : ℕ) → length ts ≤ suc n → sources (query_within n) (between_commas ts) ≡ None
  source_none none n fits = here n fits ∙ ap (λ f. with_sources done (both source_before f (sources (query_within n) (behind_comma left)))) none

pub sources_end : (ts : List Token) (done : List Source) → GoesOnSources ts done None → (n : ℕ) → length ts ≤ suc n → sources (query_within n) (between_commas ts) ≡ Some (sources_of done)
unfolding sources
sources_end ts done so_far n fits = so_far n fits

-- one source
source_is : (query : QueryReader) (ts what : List Token) (name : Option Token) (others : Option Sources) → aliased ts ≡ aliased_by what name
    → source_step query ts others ≡ source_with query what (option_and_then (λ t. name_word t.what) name) others
source_is query ts what name others is = ap (λ parts. source_with query parts.tokens parts.alias others) is

pub source_empty : (ts what : List Token) (name : Option Token) → aliased ts ≡ aliased_by what name → length what ≡ 0 → (n : ℕ) (others : Option Sources) → source_step (query_within n) ts others ≡ None
source_empty ts what name is none n others = source_is (query_within n) ts what name others is ∙ by_list what none
  where
    by_list : (xs : List Token) → length xs ≡ 0 → source_with (query_within n) xs (option_and_then (λ t. name_word t.what) name) others ≡ None
    by_list [] none = refl
    by_list (x ∷ xs) none = absurd (omega arith)

pub source_table : (ts what rest : List Token) (name : Option Token) (t : Token) (alias : Option (List ℕ)) (found : Option Source) → aliased ts ≡ aliased_by what name → what ≡ t ∷ rest → length rest ≡ 0
    → alias ≡ option_and_then (λ t. name_word t.what) name → ((others : Option Sources) → table_source t.from (name_word t.what) alias others ≡ both source_before found others)
    → (n : ℕ) (others : Option Sources) → source_step (query_within n) ts others ≡ both source_before found others
source_table ts what rest name t alias found is what_is none alias_is reads n others =
    source_is (query_within n) ts what name others is ∙ rw (what_is, ← alias_is) (by_list rest none) ∙ reads others
  where
    by_list : (xs : List Token) → length xs ≡ 0 → source_with (query_within n) (t ∷ xs) alias others ≡ table_source t.from (name_word t.what) alias others
    by_list [] none = refl
    by_list (x ∷ xs) none = absurd (omega arith)

source_group : (query : QueryReader) (t : Token) (rest : List Token) (alias : Option (List ℕ)) (others : Option Sources) (v : Bool) → 0 < length rest → is_group_open t.what ≡ v
    → source_with query (t ∷ rest) alias others ≡ (if v then inner_source t.from (option_and_then query (inside is_group_close zero rest)) alias others else None)
source_group query t [] alias others v some is = absurd (omega arith)
source_group query t (u ∷ rest) alias others v some is = rw is

pub source_other : (ts what rest : List Token) (name : Option Token) (t : Token) → aliased ts ≡ aliased_by what name → what ≡ t ∷ rest → 0 < length rest → is_group_open t.what ≡ false
    → (n : ℕ) (others : Option Sources) → source_step (query_within n) ts others ≡ None
source_other ts what rest name t is what_is some fails n others =
    source_is (query_within n) ts what name others is ∙ rw what_is (source_group (query_within n) t rest _ others false some fails)

inner_none : (at : ℕ) (alias : Option (List ℕ)) (others : Option Sources) → inner_source at None alias others ≡ None
inner_none at None others = refl
inner_none at (Some w) others = refl

pub source_open : (ts what rest : List Token) (name : Option Token) (t : Token) → aliased ts ≡ aliased_by what name → what ≡ t ∷ rest → 0 < length rest → is_group_open t.what ≡ true → None ≡ inside is_group_close 0 rest
    → (n : ℕ) (others : Option Sources) → source_step (query_within n) ts others ≡ None
source_open ts what rest name t is what_is some holds closed n others =
    source_is (query_within n) ts what name others is ∙ rw what_is (source_group (query_within n) t rest _ others true some holds)
    ∙ ap (λ o. inner_source t.from (option_and_then (query_within n) o) (option_and_then (λ x. name_word x.what) name) others) (sym closed) ∙ inner_none t.from _ others

pub source_inner : (ts what rest middle : List Token) (name : Option Token) (t : Token) (alias : Option (List ℕ)) (query : Option QueryTree) (found : Option Source)
    → aliased ts ≡ aliased_by what name → what ≡ t ∷ rest → 0 < length rest → is_group_open t.what ≡ true → Some middle ≡ inside is_group_close 0 rest → length middle < length rest → length what ≤ length ts
    → alias ≡ option_and_then (λ t. name_word t.what) name → ((n : ℕ) → length middle ≤ suc n → set_step (query_within n) middle ≡ query)
    → ((others : Option Sources) → inner_source t.from query alias others ≡ both source_before found others)
    → (n : ℕ) (others : Option Sources) → length ts ≤ suc n → source_step (query_within n) ts others ≡ both source_before found others
source_inner ts what rest middle name t alias query found is what_is some holds closed shorter short alias_is reads made n others fits =
    source_is (query_within n) ts what name others is ∙ rw (what_is, ← alias_is) (source_group (query_within n) t rest alias others true some holds)
    ∙ ap (λ o. inner_source t.from (option_and_then (query_within n) o) alias others) (sym closed)
    ∙ ap (λ o. inner_source t.from o alias others) (query_inside middle query reads n (omega (arith, ap length what_is))) ∙ made others

-- what the whole list reads as
pub query_is : (ts : List Token) (found : Option QueryTree) → ((n : ℕ) → length ts ≤ suc n → set_step (query_within n) ts ≡ found) → query_within (length ts) ts ≡ found
unfolding query_within set_chain
query_is [] found reads = reads 0 (omega arith)
query_is (t ∷ ts) found reads = reads (length ts) (omega arith)
