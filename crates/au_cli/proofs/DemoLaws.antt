-- Nothing but memory keeps the demonstration from its answer: its query is read, its text is a table, its statement has no
-- defect, and what its rows' triples add up to lies in the range.
use Rattle.std.proofs.Common.{◌≡◌, ◌⊎◌, inl, inr, ℕ, ◌≤◌, true, false, List, [], ◌∷◌, length, Some, None, Ok, Err, ap, sym, ◌∙◌, subst, arith, pos, map}
use Rattle.std.specs.Prelude.{fold, max, not}
use Rattle.std.specs.List.{AllByRecursion}
use Rattle.std.proofs.lemmas.List.{length-map}
use Rattle.au_annot.specs.Triples.{in_range, is_none}
use Rattle.au_expr.specs.Terms as term
use Rattle.au_value.specs.declared.value.Value.TheVariants as value
use Rattle.au_algebra.specs.declared.query.Agg.TheVariants as agg
use Rattle.au_algebra.specs.Bounded.{RangeRow, bounded_answer}
use Rattle.au_algebra.proofs.Each.{all_filter}
use Rattle.au_blocks.specs.declared.faults.TableFault.{TableFault}
use Rattle.au_blocks.specs.declared.faults.TableFault.TheVariants as table
use Rattle.au_blocks.specs.Blocks.{Candidate, Choices, once}
use Rattle.au_blocks.specs.Read.{table_of}
use Rattle.au_blocks.specs.Tables.{BlockTable}
use Rattle.au_gen.specs.Generator.{text}
use Rattle.au_parse.specs.Tree.{QueryTree}
use Rattle.au_translate.specs.Translate.{block_row, bounded_blocks, bounded_table}
use Rattle.au_typing.specs.Queries.{typing_defects, resolved_tree}
use Rattle.au_print.specs.DemoTexts.{triple_sum}
use Rattle.au_engine.specs.declared.faults.EngineFault.{EngineFault}
use Rattle.au_engine.specs.declared.faults.EngineFault.TheVariants as engine
use Rattle.au_engine.specs.Answers.{answer_rows, answer_tree, statement_defects}
use Rattle.au_engine.specs.Reading.{TextRefusal, TextCause, statement_of}
use Rattle.au_cli.specs.Demo.{demo_name, demo_query}
use Rattle.au_cli.proofs.DemoQuery.{demo_statement, query_statement, query_allowed, demo_relation, demo_tree, well_typed, tree_is}
use Rattle.au_cli.proofs.DemoSums.{OneAtMost, fewer, sum_in_range}
use Rattle.au_cli.proofs.GeneratedTable.{AllOnce, generated, generated_columns, IsGenerated}

-- the query is not refused
pub only_memory : (f : EngineFault) → TextCause demo_query f → f ≡ engine.NoMemory
only_memory f (inl e) = e
only_memory f (inr refused) = absurd (never (sym query_allowed ∙ refused.1))
  where
    never : {r : TextRefusal} → None ≡ Some r → ⊥
    never e = cc

-- nor is the text
pub only_memory_of_text : (start n : ℕ) (bytes : List ℕ) (e : TableFault) → n ≤ 100000 → bytes ≡ text start n → (e ≡ table.NoMemory) ⊎ (table_of bytes ≡ Err e) → e ≡ table.NoMemory
only_memory_of_text start n bytes e few is (inl memory) = memory
only_memory_of_text start n bytes e few is (inr fault) =
    let found = generated start n few in
    let read : table_of bytes ≡ Ok found.0 = ap table_of is ∙ found.1.read in
    absurd (cc (read, fault))

-- a table of the text is the generated one
pub generated_is : (start n : ℕ) (t : BlockTable) → n ≤ 100000 → table_of (text start n) ≡ Ok t → IsGenerated (text start n) n t
generated_is start n t few read =
    let found = generated start n few in
    let same : found.0 ≡ t = cc (found.1.read, read) in
    subst (IsGenerated (text start n) n) same found.1

-- and a statement of the query the one that is written
pub statement_is : (s : QueryTree) → statement_of demo_query ≡ Some s → s ≡ demo_statement
statement_is s read = cc (read, query_statement)

-- the statement over a table of these columns
module _ (t : BlockTable) (s : QueryTree) (columns : t.columns ≡ generated_columns) (is : s ≡ demo_statement) where
  pub no_defects_of_demo : statement_defects ((demo_name, t) ∷ []) s ≡ []
  no_defects_of_demo = (λ i. typing_defects (demo_relation (columns i) ∷ []) (is i)) ∙ well_typed

  pub tree_of_demo : answer_tree ((demo_name, t) ∷ []) s ≡ demo_tree
  tree_of_demo = (λ i. resolved_tree (demo_relation (columns i) ∷ []) (is i)) ∙ tree_is

-- ---- copies

-- the greatest of ones is at most one
greatest_once : (n : ℕ) (rows : List Candidate) → n ≤ 1 → AllByRecursion (λ a. a.copies ≡ once) rows → fold max n (map (λ a. a.copies.most) rows) ≤ 1
greatest_once n [] h all = h
greatest_once n (a ∷ rows) h all =
    let most : a.copies.most ≡ 1 = ap (λ c. c.most) all.0 in
    greatest_once (max n a.copies.most) rows (rw most (max_one n h)) all.1
  where
    max_one : (m : ℕ) → m ≤ 1 → max m 1 ≤ 1
    max_one m k = grind arith

-- each block is a row of one copy at most
rows_small : (bs : List Choices) → AllOnce bs → OneAtMost (map block_row bs)
rows_small [] h = tt
rows_small (b ∷ bs) h = (greatest_once 0 b.alternatives (omega arith) h.0, rows_small bs h.1)

one_at_most : (bs : List Choices) → AllOnce bs → OneAtMost (bounded_blocks bs)
one_at_most bs h = all_filter (λ r. r.annot.most ≤ 1) (λ r. not (is_none r.annot)) (map block_row bs) (rows_small bs h)

-- the sums that the demonstration prints
pub sum_fits : (n : ℕ) (t : BlockTable) (s : QueryTree) → n ≤ 100000 → t.columns ≡ generated_columns → length t.blocks ≡ n → AllOnce t.blocks → s ≡ demo_statement
    → in_range (triple_sum (answer_rows false ((demo_name, t) ∷ []) s)) ≡ true
sum_fits n t s few columns blocks copies is =
    let many : length (bounded_table t) ≤ 100000 = omega (arith, fewer (λ (r : RangeRow). not (is_none r.annot)) (map block_row t.blocks), length-map t.blocks block_row) in
    ap (λ q. in_range (triple_sum (bounded_answer false q (bounded_table t ∷ [])))) (tree_of_demo t s columns is)
    ∙ sum_in_range (term.Column 0 ∷ term.Column 1 ∷ term.Column 2 ∷ []) (term.Column 1 ∷ term.Literal (value.Int (pos 1)) ∷ term.Column 2 ∷ []) 1 (agg.Sum 1 ∷ agg.Sum 2 ∷ [])
    (bounded_table t) (one_at_most t.blocks copies) many
