-- The demonstration's query: its statement, and the tree of that statement over the generated columns.
use Rattle.std.proofs.Common.{◌≡◌, ℕ, List, [], ◌∷◌, Some, None, codes, refl, true, false, pos}
use Rattle.au_value.specs.declared.value.Value.TheVariants as value
use Rattle.au_expr.specs.Terms as term
use Rattle.au_algebra.specs.Trees as query
use Rattle.au_algebra.specs.Trees.{Tree as Query}
use Rattle.au_algebra.specs.declared.query.Agg.TheVariants as agg
use Rattle.au_blocks.specs.declared.column.Column.{Column}
use Rattle.au_lex.specs.Lexemes.{unquoted}
use Rattle.au_lex.specs.Tokens.{tokens_from, longest, has_end, blank_length}
use Rattle.au_parse.specs.declared.AggWord.TheVariants as word
use Rattle.au_parse.specs.Tree.{TermTree, ItemTree, QueryTree, Sources}
use Rattle.au_parse.specs.Cuts.{last_split, cut_from, inside}
use Rattle.au_parse.specs.Expressions.{expression_within, chain}
use Rattle.au_parse.specs.Queries.{query_within, set_chain, all_some, aliased, sources}
use Rattle.au_parse.specs.Limits.{passes_limit, stop, back_to_match, too_deep}
use Rattle.au_typing.specs.Queries.{Relation, typing_defects, resolved_tree}
use Rattle.au_engine.specs.Reading.{refused_text, statement_of}
use Rattle.au_cli.specs.Demo.{demo_name, demo_query}
use Rattle.au_cli.proofs.GeneratedTable.{generated_columns}

-- the statement
abbrev name_at : ℕ → List ℕ → TermTree
name_at at column = TermTree.column (record { at = at; table = None; column = column })

abbrev pub demo_statement : QueryTree
demo_statement =
    QueryTree.select 0 false
    (ItemTree.value (name_at 7 (codes "grp")) None
    ∷ ItemTree.value (TermTree.count_rows 12) (Some (codes "n"))
    ∷ ItemTree.value (TermTree.aggregate 27 word.Sum (name_at 31 (codes "amount"))) (Some (codes "total"))
    ∷ [])
    (Sources.table 53 (codes "demo") None Sources.no_sources) None
    (record { at = 67; table = None; column = codes "grp" } ∷ []) true None

pub query_statement : statement_of demo_query ≡ Some demo_statement
unfolding unquoted tokens_from longest has_end blank_length last_split cut_from inside expression_within chain query_within set_chain all_some aliased sources
query_statement = refl

pub query_allowed : refused_text demo_query ≡ None
unfolding unquoted tokens_from longest has_end blank_length last_split cut_from inside expression_within chain query_within set_chain all_some aliased sources too_deep passes_limit stop back_to_match
query_allowed = refl

-- a table of the generated columns
abbrev pub demo_relation : List Column → Relation
demo_relation columns = record { name = demo_name; columns = columns }

abbrev pub demo_tree : Query
demo_tree =
    query.Project (term.Column 0 ∷ term.Column 1 ∷ term.Column 2 ∷ [])
    (query.Group 1 (agg.Sum 1 ∷ agg.Sum 2 ∷ []) (query.Project (term.Column 1 ∷ term.Literal (value.Int (pos 1)) ∷ term.Column 2 ∷ []) (query.Table 0)))

pub well_typed : typing_defects (demo_relation generated_columns ∷ []) demo_statement ≡ []
well_typed = refl

pub tree_is : resolved_tree (demo_relation generated_columns ∷ []) demo_statement ≡ demo_tree
tree_is = refl
