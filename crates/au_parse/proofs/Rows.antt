-- The definitions at some queries.
use Rattle.std.proofs.Common.{◌≡◌, ℕ, ◌+◌, codes, refl, Ok, Err, [], ◌∷◌, ◌++◌, List, Some, None, replicate, true, false}
use Rattle.std.specs.Prelude.{Result, Option}
use Rattle.au_value.specs.declared.comparison.Comparison.TheVariants as comparison
use Rattle.au_lex.specs.declared.LexFault.{LexFault}
use Rattle.au_lex.specs.declared.Token.{Token}
use Rattle.au_lex.specs.Lexemes.{unquoted}
use Rattle.au_lex.specs.Tokens.{tokens_of, tokens_from, longest, has_end, blank_length}
use Rattle.au_parse.specs.declared.ParseFault.TheVariants.{TooDeep, TooManyFrom}
use Rattle.au_parse.specs.declared.AggWord.TheVariants as agg
use Rattle.au_parse.specs.Tree.{TermTree, Operator, QueryTree, ItemTree, Sources, SetWord}
use Rattle.au_parse.specs.Cuts.{last_split, cut_from, inside}
use Rattle.au_parse.specs.Expressions.{expression, expression_within, chain}
use Rattle.au_parse.specs.Queries.{parsed_tree, query_within, set_chain, all_some, aliased, sources}
use Rattle.au_parse.specs.Limits.{limit_fault, passes_limit, stop, back_to_match, too_deep}

-- what a text's tokens are read as
abbrev read : {A : Type 0} → (List Token → Option A) → Result (List Token) LexFault → Option A
read f (Ok ts) = f ts
read f (Err e) = None

abbrev name : ℕ → List ℕ → TermTree
name at w = TermTree.column (record { at = at; table = None; column = w })

abbrev left_tree : TermTree
left_tree = TermTree.binary 13 Operator.subtract (TermTree.binary 9 Operator.subtract (name 7 (codes "a")) (name 11 (codes "b"))) (name 15 (codes "c"))

left_difference : read parsed_tree (tokens_of (codes "SELECT a - b - c FROM t;"))
    ≡ Some (QueryTree.select 0 false (ItemTree.value left_tree None ∷ []) (Sources.table 22 (codes "t") None Sources.no_sources) None [] false None)
unfolding unquoted tokens_from longest has_end blank_length last_split cut_from inside expression_within chain query_within set_chain all_some aliased sources
left_difference = refl

signs : read expression (tokens_of (codes "-a - -b*c"))
    ≡ Some (TermTree.binary 3 Operator.subtract (TermTree.negate 0 (name 1 (codes "a"))) (TermTree.binary 7 Operator.multiply (TermTree.negate 5 (name 6 (codes "b"))) (name 8 (codes "c"))))
unfolding unquoted tokens_from longest has_end blank_length last_split cut_from inside expression_within chain
signs = refl

-- a table's star
abbrev star_of : ℕ → ℕ → List ℕ → QueryTree
star_of at from w = QueryTree.select at false (ItemTree.star (at + 7) ∷ []) (Sources.table from w None Sources.no_sources) None [] false None

left_sets : read parsed_tree (tokens_of (codes "SELECT * FROM a EXCEPT SELECT * FROM b EXCEPT ALL SELECT * FROM c"))
    ≡ Some (QueryTree.set SetWord.except true 39 (QueryTree.set SetWord.except false 16 (star_of 0 14 (codes "a")) (star_of 23 37 (codes "b"))) (star_of 50 64 (codes "c")))
unfolding unquoted tokens_from longest has_end blank_length last_split cut_from inside expression_within chain query_within set_chain all_some aliased sources
left_sets = refl

cases_and_aggregates : read expression (tokens_of (codes "CASE WHEN a = 'x' THEN COUNT(*) WHEN NOT b THEN sum(c) ELSE (t.d) END"))
    ≡ Some (TermTree.case 0 (TermTree.when (TermTree.binary 12 (Operator.compare comparison.Equal) (name 10 (codes "a")) (TermTree.text 14 (codes "x"))) (TermTree.count_rows 23)
    (TermTree.when (TermTree.not 37 (name 41 (codes "b"))) (TermTree.aggregate 48 agg.Sum (name 52 (codes "c")))
    (TermTree.column (record { at = 61; table = Some (codes "t"); column = codes "d" })))))
unfolding unquoted tokens_from longest has_end blank_length last_split cut_from inside expression_within chain
cases_and_aggregates = refl

inner_query : read parsed_tree (tokens_of (codes "SELECT COUNT(*) n, o.* FROM (SELECT id AS i FROM orders) o, rates AS r WHERE x OR y AND z GROUP BY r.a, b HAVING w"))
    ≡ Some (QueryTree.select 0 false (ItemTree.value (TermTree.count_rows 7) (Some (codes "n")) ∷ ItemTree.star_of 19 (codes "o") ∷ [])
    (Sources.inner 28 (QueryTree.select 29 false (ItemTree.value (name 36 (codes "id")) (Some (codes "i")) ∷ []) (Sources.table 49 (codes "orders") None Sources.no_sources) None [] false None) (codes "o")
    (Sources.table 60 (codes "rates") (Some (codes "r")) Sources.no_sources))
    (Some (71, TermTree.binary 79 Operator.or (name 77 (codes "x")) (TermTree.binary 84 Operator.and (name 82 (codes "y")) (name 88 (codes "z")))))
    (record { at = 99; table = Some (codes "r"); column = codes "a" } ∷ record { at = 104; table = None; column = codes "b" } ∷ []) true
    (Some (106, name 113 (codes "w"))))
unfolding unquoted tokens_from longest has_end blank_length last_split cut_from inside expression_within chain query_within set_chain all_some aliased sources
inner_query = refl

-- a comma behind a condition
no_tree : read parsed_tree (tokens_of (codes "SELECT sum(x) FROM t WHERE y + 1 > 0, u")) ≡ None
unfolding unquoted tokens_from longest has_end blank_length last_split cut_from inside expression_within chain query_within set_chain all_some aliased sources
no_tree = refl

two_comparisons : read expression (tokens_of (codes "a < b < c")) ≡ None
unfolding unquoted tokens_from longest has_end blank_length last_split cut_from inside expression_within chain
two_comparisons = refl

-- the 33rd bracket
deep : read (limit_fault 100) (tokens_of (codes "SELECT " ++ replicate 33 40 ++ codes "1" ++ replicate 33 41 ++ codes " FROM orders")) ≡ Some (TooDeep 39)
unfolding unquoted tokens_from longest has_end blank_length too_deep passes_limit stop back_to_match
deep = refl

-- nine FROM items, one of them an inner query with a comma of its own
many_sources : read (limit_fault 100) (tokens_of (codes "SELECT f(a,b) FROM (SELECT x, y FROM t, u) a,b,c,d,e,f,g,h,i")) ≡ Some (TooManyFrom 59)
unfolding unquoted tokens_from longest has_end blank_length too_deep passes_limit stop back_to_match
many_sources = refl

eight_sources : read (limit_fault 100) (tokens_of (codes "SELECT f(a,b) FROM (SELECT x, y FROM t, u) a,b,c,d,e,f,g,h")) ≡ None
unfolding unquoted tokens_from longest has_end blank_length too_deep passes_limit stop back_to_match
eight_sources = refl
