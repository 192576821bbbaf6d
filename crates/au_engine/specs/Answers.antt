-- The answer of a statement over named block tables: its names and kinds, its rows and whether their numbers fit.
use Rattle.std.specs.Prelude.{ℕ, ◌≡◌, ◌&&◌, Bool, true, false, List, [], map, Option, Some, None, ⊤, Contains, if◌then◌else◌}
use Rattle.std.specs.List.{list_all}
use Rattle.au_value.specs.declared.kinds.Kind.{Kind}
use Rattle.au_value.specs.Numeral.{is_i128}
use Rattle.au_parse.specs.Tree.{QueryTree}
use Rattle.au_blocks.specs.Tables.{BlockTable}
use Rattle.au_blocks.specs.Worlds.{tables_in, guess_world}
use Rattle.au_algebra.specs.Trees.{Tree}
use Rattle.au_algebra.specs.Bounded.{Bounded, bounded_answer, combine, normal}
use Rattle.au_algebra.specs.Fits.{certain_rows, fits, numbers, triples_fit}
use Rattle.au_algebra.specs.Ordinary.{Rows, answer}
use Rattle.au_compress.specs.CompressedAnswers.{compressed_answer}
use Rattle.au_compress.specs.CompressedFits.{compressed_answer_fits}
use Rattle.au_points.specs.Groupings.{answer_with}
use Rattle.au_points.specs.GroupingFits.{fits_with}
use Rattle.au_points.specs.Points.{by_points}
use Rattle.au_translate.specs.Translate.{bounded_table, guessed_table}
use Rattle.au_translate.specs.Headline.{HoldsInEveryWorld}
use Rattle.au_typing.specs.Queries.{Relation, typing_defects, resolved_tree, resolved_names, resolved_kinds}
use Rattle.au_typing.specs.declared.fault.TypingFault.{TypingFault}
use Rattle.au_typing.specs.declared.fault.TypingFault.TheVariants as typing
use Rattle.au_program.specs.Rules.{pair_numbers, pairs_by}
use Rattle.au_program.specs.declared.rules.Rules.{Rules}
use Rattle.au_engine.specs.declared.faults.EngineFault.{EngineFault}
use Rattle.au_engine.specs.declared.faults.EngineFault.TheVariants as engine
use Rattle.au_engine.specs.declared.faults.QueryFault.TheVariants as query

-- a block table with the name that a query has for it
abbrev pub Named : Type 0
Named = List ℕ × BlockTable

abbrev pub blocks_of : List Named → List BlockTable
blocks_of ts = map (λ t. t.1) ts

-- their names and columns
abbrev pub relation_of : Named → Relation
relation_of t = record { name = t.0; columns = t.1.columns }

abbrev pub relations_of : List Named → List Relation
relations_of ts = map relation_of ts

-- all that is wrong with a statement over the tables
abbrev pub statement_defects : List Named → QueryTree → List TypingFault
statement_defects ts s = typing_defects (relations_of ts) s

-- its tree, and the names and kinds of its columns
abbrev pub answer_tree : List Named → QueryTree → Tree
answer_tree ts s = resolved_tree (relations_of ts) s

abbrev pub answer_names : List Named → QueryTree → List (List ℕ)
answer_names ts s = resolved_names (relations_of ts) s

abbrev pub answer_kinds : List Named → QueryTree → List Kind
answer_kinds ts s = resolved_kinds (relations_of ts) s

-- the bounded answer, combined where that is asked for, and whether its numbers lie in 128 bits
abbrev pub tree_answer : Bool → List Named → Tree → Bounded
tree_answer combined ts q = bounded_answer combined q (map bounded_table (blocks_of ts))

abbrev pub tree_answer_fits : Bool → List Named → Tree → Bool
tree_answer_fits combined ts q = fits combined q (map bounded_table (blocks_of ts))

abbrev pub answer_rows : Bool → List Named → QueryTree → Bounded
answer_rows combined ts s = tree_answer combined ts (answer_tree ts s)

abbrev pub answer_fits : Bool → List Named → QueryTree → Bool
answer_fits combined ts s = tree_answer_fits combined ts (answer_tree ts s)

-- the answer that is asked for: the bounded answer, that whose products are compressed, or one with either product whose
-- groups and distinct rows are formed by points
abbrev pub answer_by : Bool → Option ℕ → Bool → Tree → List Bounded → Bounded
answer_by false None = bounded_answer
answer_by false (Some n) = compressed_answer n
answer_by true how = answer_with (pairs_by how) by_points

abbrev pub answer_fits_by : Bool → Option ℕ → Bool → Tree → List Bounded → Bool
answer_fits_by false None = fits
answer_fits_by false (Some n) = compressed_answer_fits n
answer_fits_by true how = fits_with (pairs_by how) (pair_numbers how) by_points

abbrev pub tree_asked : Rules → Bool → List Named → Tree → Bounded
tree_asked rules combined ts q = answer_by rules.points rules.compress combined q (map bounded_table (blocks_of ts))

abbrev pub tree_asked_fits : Rules → Bool → List Named → Tree → Bool
tree_asked_fits rules combined ts q = answer_fits_by rules.points rules.compress combined q (map bounded_table (blocks_of ts))

abbrev pub asked_rows : Rules → Bool → List Named → QueryTree → Bounded
asked_rows rules combined ts s = tree_asked rules combined ts (answer_tree ts s)

abbrev pub asked_fits : Rules → Bool → List Named → QueryTree → Bool
asked_fits rules combined ts s = tree_asked_fits rules combined ts (answer_tree ts s)

-- rows hold in every possible world, and their guesses are the answer in the guess world
abbrev pub RowsHold : List Named → QueryTree → Bounded → Type 0
RowsHold ts s rows = HoldsInEveryWorld (answer_tree ts s) (blocks_of ts) rows

-- the ordinary answer in the guess world, and whether the numbers of its making lie in 128 bits
abbrev pub guess_tables : List Named → List Rows
guess_tables ts = tables_in (blocks_of ts) (guess_world (blocks_of ts))

abbrev pub tree_guess_fits : List Named → Tree → Bool
tree_guess_fits ts q = list_all is_i128 (numbers q (map certain_rows (map guessed_table (blocks_of ts))))

abbrev pub guess_answer : List Named → QueryTree → Rows
guess_answer ts s = answer (answer_tree ts s) (guess_tables ts)

abbrev pub guess_answer_fits : List Named → QueryTree → Bool
guess_answer_fits ts s = tree_guess_fits ts (answer_tree ts s)

-- what a defect of a statement is to the engine
abbrev pub typing_fault : TypingFault → EngineFault
typing_fault (typing.UnknownTable at) = engine.Query (query.UnknownTable at)
typing_fault (typing.UnknownColumn at) = engine.Query (query.UnknownColumn at)
typing_fault (typing.Ambiguous at) = engine.Query (query.Ambiguous at)
typing_fault (typing.SameAlias at) = engine.Query (query.SameAlias at)
typing_fault (typing.KindMismatch at) = engine.Query (query.KindMismatch at)
typing_fault (typing.NotGrouped at) = engine.Query (query.NotGrouped at)
typing_fault (typing.MisplacedAggregate at) = engine.Query (query.MisplacedAggregate at)
typing_fault (typing.MinMaxNeedsGroup at) = engine.Query (query.MinMaxNeedsGroup at)
typing_fault (typing.CountOverJoin at) = engine.Query (query.CountOverJoin at)
typing_fault (typing.WidthMismatch at) = engine.Query (query.WidthMismatch at)
typing_fault typing.NoMemory = engine.NoMemory

-- Why a statement is not answered: memory, a defect that stands, or a number of the answer that leaves 128 bits,
-- where there is no defect.
abbrev pub IsDefect : List TypingFault → EngineFault → Type 0
IsDefect found f = (d : TypingFault) × Contains found d × (f ≡ typing_fault d)

abbrev pub AnswerCause : List TypingFault → Bool → EngineFault → Type 0
AnswerCause found fit engine.NoMemory = ⊤
AnswerCause found fit (engine.Query q) = IsDefect found (engine.Query q)
AnswerCause found fit engine.Overflow = (found ≡ []) × (fit ≡ false)
AnswerCause found fit (engine.Limit l) = ⊥

-- why a typed tree is not answered
abbrev pub RowsCause : Bool → EngineFault → Type 0
RowsCause fit engine.NoMemory = ⊤
RowsCause fit engine.Overflow = fit ≡ false
RowsCause fit _ = ⊥

-- whether the triples of rows fit as they are shown: combined where that is asked for, and in their normal form
abbrev pub combined_normal_fits : Bool → Bounded → Bool
combined_normal_fits combined rows = let shown = if combined then combine rows else rows in triples_fit shown && triples_fit (normal shown)
