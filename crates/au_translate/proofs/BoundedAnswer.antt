-- The bounded answer holds in every world.
use Rattle.std.specs.Prelude.{Bool, true, false, List, [], ◌∷◌, map}
use Rattle.std.specs.List.{AllByRecursion, AllZip}
use Rattle.au_value.specs.declared.kinds.Kind.{Kind}
use Rattle.au_blocks.specs.Blocks.{IsBlock}
use Rattle.au_blocks.specs.Tables.{BlockTable, IsTable, IsBlockTable, column_kinds}
use Rattle.au_blocks.specs.Worlds.{World, IsWorld, tables_in, guess_world}
use Rattle.au_algebra.specs.Trees.{Tree}
use Rattle.au_algebra.specs.Typing.{IsTyped, kinds_of}
use Rattle.au_algebra.specs.Ordinary.{Rows, answer}
use Rattle.au_algebra.specs.Bounded.{Bounded, bounded, combine, bounded_answer}
use Rattle.au_algebra.specs.Distribution.{Bounds}
use Rattle.au_algebra.specs.Laws.{IsRelation, Guesses}
use Rattle.au_algebra.proofs.Each.{all_from}
use Rattle.au_algebra.proofs.Forms.{normal_bounds, normal_guesses, combine_guesses}
use Rattle.au_algebra.proofs.TreeRelation.{its_kinds, tree_relation}
use Rattle.au_algebra.proofs.TreeBounds.{tree_bounds}
use Rattle.au_algebra.proofs.TreeGuesses.{tree_guesses}
use Rattle.au_algebra.proofs.KeptByCombine.{combine_bounds}
use Rattle.au_translate.specs.Translate.{bounded_table}
use Rattle.au_translate.specs.Headline.{BoundedAnswerHolds}
use Rattle.au_translate.proofs.BlockRelation.{table_relation, table_bounds, table_guesses}

-- the tables are well-formed, and so are their blocks
abbrev pub AreTables : List BlockTable → Type 0
AreTables ts = AllByRecursion IsTable ts

-- and each block has an alternative, and marks a choice that it offers
abbrev pub AreBlocks : List BlockTable → Type 0
AreBlocks ts = AllByRecursion (λ t. AllByRecursion IsBlock t.blocks) ts

-- each bounded table is a relation of its table's kinds
pub tables_relations : (ts : List BlockTable) → AreTables ts → AreBlocks ts → AllZip IsRelation (map column_kinds ts) (map bounded_table ts)
tables_relations [] fit ok = tt
tables_relations (t ∷ ts) fit ok = (table_relation t fit.0 ok.0, tables_relations ts fit.1 ok.1)

-- each bounded table bounds its table's rows in a world
pub tables_bounds : (ts : List BlockTable) (w : World) → AreTables ts → AreBlocks ts → IsWorld ts w → AllZip Bounds (map bounded_table ts) (tables_in ts w)
tables_bounds [] [] fit ok h = tt
tables_bounds [] (c ∷ w) fit ok h = elim h [ ]
tables_bounds (t ∷ ts) [] fit ok h = elim h [ ]
tables_bounds (t ∷ ts) (c ∷ w) fit ok h = (table_bounds t c fit.0 ok.0 h.0, tables_bounds ts w fit.1 ok.1 h.1)

-- each bounded table guesses its table's rows in the guess world
pub tables_guesses : (ts : List BlockTable) → AreBlocks ts → AllZip Guesses (map bounded_table ts) (tables_in ts (guess_world ts))
tables_guesses [] ok = tt
tables_guesses (t ∷ ts) ok = (table_guesses t ok.0, tables_guesses ts ok.1)

form_bounds : (combined : Bool) (q : Tree) (ks : List Kind) (ts : List Bounded) (c : Rows) → IsRelation ks (bounded q ts) → Bounds (bounded q ts) c → Bounds (bounded_answer combined q ts) c
form_bounds true q ks ts c ok b = normal_bounds (combine (bounded q ts)) c (combine_bounds ks (bounded q ts) c ok b)
form_bounds false q ks ts c ok b = normal_bounds (bounded q ts) c b

-- The bounded answer of a typed tree, combined or not, bounds the ordinary answer in every world.
pub bounded_in_every_world : (combined : Bool) (q : Tree) (ts : List BlockTable) → AreTables ts → AreBlocks ts → IsTyped (map column_kinds ts) q → (w : World) → IsWorld ts w → Bounds (bounded_answer combined q (map bounded_table ts)) (answer q (tables_in ts w))
bounded_in_every_world combined q ts fit ok typed w world =
    let kinds = map column_kinds ts in
    let k = its_kinds (kinds_of kinds q) typed in
    let are = tables_relations ts fit ok in
    form_bounds combined q k.0 (map bounded_table ts) (answer q (tables_in ts w)) (tree_relation kinds (map bounded_table ts) are q k.0 k.1)
    (tree_bounds kinds (map bounded_table ts) (tables_in ts w) are (tables_bounds ts w fit ok world) q k.0 k.1)

form_guesses : (combined : Bool) (q : Tree) (ks : List Kind) (ts : List Bounded) (c : Rows) → IsRelation ks (bounded q ts) → Guesses (bounded q ts) c → Guesses (bounded_answer combined q ts) c
form_guesses true q ks ts c ok g = normal_guesses (combine (bounded q ts)) c (combine_guesses ks (bounded q ts) c ok g)
form_guesses false q ks ts c ok g = normal_guesses (bounded q ts) c g

-- Its counted guesses are the ordinary answer in the guess world.
pub guesses_guess_world : (combined : Bool) (q : Tree) (ts : List BlockTable) → AreTables ts → AreBlocks ts → IsTyped (map column_kinds ts) q → Guesses (bounded_answer combined q (map bounded_table ts)) (answer q (tables_in ts (guess_world ts)))
guesses_guess_world combined q ts fit ok typed =
    let kinds = map column_kinds ts in
    let k = its_kinds (kinds_of kinds q) typed in
    let are = tables_relations ts fit ok in
    form_guesses combined q k.0 (map bounded_table ts) (answer q (tables_in ts (guess_world ts))) (tree_relation kinds (map bounded_table ts) are q k.0 k.1)
    (tree_guesses kinds (map bounded_table ts) (tables_in ts (guess_world ts)) are (tables_guesses ts ok) q k.0 k.1)

-- The bounded answer of each typed tree, combined or not, holds in every world.
pub bounded_answer_holds : BoundedAnswerHolds
bounded_answer_holds combined q ts ok typed =
    let tables = all_from IsBlockTable IsTable ts (λ t k. k.table) ok in
    let blocks = all_from IsBlockTable (λ t. AllByRecursion IsBlock t.blocks) ts (λ t k. k.blocks) ok in
    record {
      bounds = bounded_in_every_world combined q ts tables blocks typed;
      guesses = guesses_guess_world combined q ts tables blocks typed;
    }
