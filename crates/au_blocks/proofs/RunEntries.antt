-- What a run amounts to, one record more, and what all runs amount to.
use Rattle.std.proofs.Common.{◌≡◌, ℕ, ◌+◌, ◌<◌, List, [], ◌∷◌, ◌++◌, length, map, get_or, take, Option, Some, None, true, Bor, refl, sym, ap, ◌∙◌}
use Rattle.std.specs.Prelude.{filter, flat_map}
use Rattle.std.specs.List.{cons_option}
use Rattle.std.proofs.lemmas.List.{append-nil, take_more}
use Rattle.std.proofs.lemmas.List.Elements.{filter_map-append}
use Rattle.std.proofs.lemmas.List.Folds.{flat_map-map}
use Rattle.au_csv.specs.Texts.{Record}
use Rattle.au_blocks.specs.declared.format.Format.{Format}
use Rattle.au_blocks.specs.declared.role.Role.{Role}
use Rattle.au_blocks.specs.Headers.{cells_of, has_blocks}
use Rattle.au_blocks.specs.Entries.{BlockEntry, block_entry, block_entry_of, copies_in, entries_of, entry_blocks, role_of}
use Rattle.au_blocks.specs.Inferring.{is_alternative}
use Rattle.au_blocks.specs.Order.{chosen, record_blocks}
use Rattle.au_blocks.specs.Runs.{by_labels, lent_runs}
use Rattle.au_blocks.specs.Tallies.{tally_of, with_role}
use Rattle.au_blocks.proofs.Laying.{block-entries}
use Rattle.au_blocks.proofs.Tallying.{tally-push}

entries-more : (f : Format) (rows : List Record) (i : ℕ) (o : Option BlockEntry) → i < length rows → block_entry_of f (get_or rows i []) ≡ o
    → entries_of f (take (i + 1) rows) ≡ entries_of f (take i rows) ++ cons_option o []
entries-more f rows i o within is =
    ap (entries_of f) (take_more rows i [] within)
    ∙ filter_map-append (block_entry_of f) (take i rows) (get_or rows i [] ∷ [])
    ∙ ap (λ p. entries_of f (take i rows) ++ cons_option p []) is

-- a record with a role
pub run-more : (f : Format) (rows : List Record) (i : ℕ) (x : Role) → i < length rows → role_of f (get_or rows i []) ≡ Some x
    → tally_of (entries_of f (take (i + 1) rows)) ≡ with_role (tally_of (entries_of f (take i rows))) x
run-more f rows i x within has =
    let e = block_entry x (copies_in f (get_or rows i [])) (cells_of f (get_or rows i [])) in
    let is : block_entry_of f (get_or rows i []) ≡ Some e = rw has refl in
    ap tally_of (entries-more f rows i (Some e) within is) ∙ tally-push (entries_of f (take i rows)) e

-- a record without one
pub run-stays : (f : Format) (rows : List Record) (i : ℕ) → i < length rows → role_of f (get_or rows i []) ≡ None
    → tally_of (entries_of f (take (i + 1) rows)) ≡ tally_of (entries_of f (take i rows))
run-stays f rows i within has =
    let is : block_entry_of f (get_or rows i []) ≡ None = rw has refl in
    ap tally_of (entries-more f rows i None within is ∙ append-nil (entries_of f (take i rows)))

-- what all runs amount to, and their alternatives
each-run : (f : Format) (runs : List (Bor (List Record))) → map (λ (run : Bor (List Record)). tally_of (entries_of f run.now)) runs ≡ map tally_of (map (entries_of f) (lent_runs runs))
each-run f [] = refl
each-run f (run ∷ runs) = ap (λ ts. tally_of (entries_of f run.now) ∷ ts) (each-run f runs)

run-blocks : (f : Format) (rows : List Record) → has_blocks f ≡ true → by_labels rows ≡ record_blocks f rows
run-blocks f rows blocks = rw blocks refl

pub runs-tallies : (f : Format) (rows : List Record) (runs : List (Bor (List Record))) → has_blocks f ≡ true → lent_runs runs ≡ by_labels rows
    → map (λ (run : Bor (List Record)). tally_of (entries_of f run.now)) runs ≡ map tally_of (entry_blocks f rows)
runs-tallies f rows runs blocks are =
    each-run f runs ∙ ap (λ (bs : List (List Record)). map tally_of (map (entries_of f) bs)) (are ∙ run-blocks f rows blocks) ∙ ap (map tally_of) (block-entries f rows)

pub runs-chosen : (f : Format) (rows : List Record) (runs : List (Bor (List Record))) → has_blocks f ≡ true → lent_runs runs ≡ by_labels rows
    → flat_map (λ (run : Bor (List Record)). filter (is_alternative f) run.now) runs ≡ chosen f rows
runs-chosen f rows runs blocks are =
    sym (flat_map-map (λ block. filter (is_alternative f) block) (λ (run : Bor (List Record)). run.now) runs)
    ∙ ap (flat_map (λ block. filter (is_alternative f) block)) (are ∙ run-blocks f rows blocks)
