-- The bounded relations of block tables have rows of the columns' kinds.
use Rattle.std.proofs.Common.{◌≡◌, ◌∙◌, ℕ, ◌<◌, Some, List, [], ◌∷◌, map, length, get_or, slice_get, option_map, refl, ap, subst, sym}
use Rattle.std.proofs.lemmas.Option.{slice_get-map, slice_get_read}
use Rattle.std.specs.List.{AllByRecursion, AllZip}
use Rattle.au_blocks.specs.Tables.{BlockTable, IsBlockTable, column_kinds}
use Rattle.au_algebra.specs.Bounded.{Bounded}
use Rattle.au_algebra.specs.Laws.{IsRelation}
use Rattle.au_translate.specs.Translate.{bounded_table}
use Rattle.au_translate.proofs.BlockRelation.{table_relation}
use Rattle.au_typing.specs.Queries.{table_kinds}
use Rattle.au_engine.specs.Answers.{Named, blocks_of, relations_of}

pub tables_are_relations : (ts : List BlockTable) → AllByRecursion IsBlockTable ts → AllZip IsRelation (map column_kinds ts) (map bounded_table ts)
tables_are_relations [] h = tt
tables_are_relations (t ∷ ts) h = (table_relation t h.0.table h.0.blocks, tables_are_relations ts h.1)

pub are_relations : (ts : List BlockTable) (rows : List Bounded) → rows ≡ map bounded_table ts → AllByRecursion IsBlockTable ts → AllZip IsRelation (map column_kinds ts) rows
are_relations ts rows e h = subst (AllZip IsRelation (map column_kinds ts)) (sym e) (tables_are_relations ts h)

-- the kinds of the tables' columns, by their names or by their blocks
pub same_kinds : (ts : List Named) → table_kinds (relations_of ts) ≡ map column_kinds (blocks_of ts)
same_kinds [] = refl
same_kinds (t ∷ ts) = ap (λ ks. column_kinds t.1 ∷ ks) (same_kinds ts)

-- the table at a place
pub table_at : (ts : List Named) (i : ℕ) (t : Named) → i < length ts → t ≡ get_or ts i t → slice_get (blocks_of ts) i ≡ Some t.1
table_at ts i t within is = slice_get-map (λ b. b.1) ts i ∙ ap (option_map (λ b. b.1)) (slice_get_read ts (length ts) i t refl within is)
