-- Blocks that lie one behind the other among the alternatives of a table.
use Rattle.std.proofs.Common.{◌≡◌, ◌∙◌, ℕ, ◌+◌, ◌<◌, ◌≤◌, true, false, cond, List, [], ◌∷◌, ◌++◌, length, map, take, drop, Option, Some, None, All, refl, sym, ap, append_assoc, arith}
use Rattle.std.specs.Prelude.{not, filter, flat_map, sum_by, bytes_eq}
use Rattle.std.specs.List.{AllByRecursion}
use Rattle.std.proofs.Math.Seq.{drop-append_seam, take-append_seam}
use Rattle.std.proofs.lemmas.List.{drop_more, length-append, length-map, map-append}
use Rattle.std.proofs.lemmas.List.Elements.{All-from_recursion}
use Rattle.std.proofs.lemmas.List.Sums.{sum_by-cons}
use Rattle.au_value.specs.declared.kinds.Kind.{Kind}
use Rattle.au_value.specs.Lists.{distinct}
use Rattle.au_csv.specs.Texts.{Record}
use Rattle.au_blocks.specs.declared.extent.Extent.{Extent}
use Rattle.au_blocks.specs.declared.format.Format.{Format}
use Rattle.au_blocks.specs.declared.format.Format.TheVariants as format
use Rattle.au_blocks.specs.declared.role.Role.{Role}
use Rattle.au_blocks.specs.declared.tally.Tally.{Tally}
use Rattle.au_blocks.specs.Blocks.{Candidate, Choices, IsBlock}
use Rattle.au_blocks.specs.Columns.{alternative_of, alternatives_of}
use Rattle.au_blocks.specs.Headers.{cells_of, has_blocks}
use Rattle.au_blocks.specs.Entries.{BlockEntry, alternatives, block_entry, copies_in, entries_of, entry_blocks, is_absent, label_of, labelled, role_of}
use Rattle.au_blocks.specs.Held.{IsWithin, block_at, held}
use Rattle.au_blocks.specs.Inferring.{is_alternative}
use Rattle.au_blocks.specs.Order.{chosen, record_blocks}
use Rattle.au_blocks.specs.Read.{block_of, candidate_of}
use Rattle.au_blocks.specs.Tallies.{certain, extent_of, extents_from, tally_of}
use Rattle.au_blocks.proofs.Tallying.{any-times}

module _ (kinds : List Kind) where
  -- the alternatives of a block
  abbrev pub rows_in : List BlockEntry → List Candidate
  rows_in es = map (candidate_of kinds) (alternatives es)

  -- a block behind some alternatives
  block-here : (before rest : List Candidate) (es : List BlockEntry) → block_at ((before ++ rows_in es) ++ rest) (extent_of (length before) (tally_of es)) ≡ block_of kinds es
  block-here before rest es =
      let behind : drop (length before) ((before ++ rows_in es) ++ rest) ≡ rows_in es ++ rest =
      ap (drop (length before)) (append_assoc before (rows_in es) rest) ∙ drop-append_seam before (rows_in es ++ rest) in
      let long : length (alternatives es) ≡ length (rows_in es) = sym (length-map (alternatives es) (candidate_of kinds)) in
      let own : take (length (alternatives es)) (rows_in es ++ rest) ≡ rows_in es = ap (λ n. take n (rows_in es ++ rest)) long ∙ take-append_seam (rows_in es) rest in
      rw (behind, own, any-times (λ (x : BlockEntry). is_absent x.role) es) refl

  next-place : (before : List Candidate) (es : List BlockEntry) → length before + length (alternatives es) ≡ length (before ++ rows_in es)
  next-place before es = sym (length-append before (rows_in es) ∙ ap (λ n. length before + n) (length-map (alternatives es) (candidate_of kinds)))

  -- the blocks behind some alternatives
  held-from : (before : List Candidate) (bs : List (List BlockEntry)) → held (before ++ flat_map rows_in bs) (extents_from (length before) (map tally_of bs)) ≡ map (block_of kinds) bs
  held-from before [] = refl
  held-from before (es ∷ bs) =
      let rows = (before ++ rows_in es) ++ flat_map rows_in bs in
      ap (λ (xs : List Candidate). held xs (extents_from (length before) (map tally_of (es ∷ bs)))) (sym (append_assoc before (rows_in es) (flat_map rows_in bs)))
      ∙ ap (λ (b : Choices). b ∷ held rows (extents_from (length before + length (alternatives es)) (map tally_of bs))) (block-here before (flat_map rows_in bs) es)
      ∙ ap (λ n. block_of kinds es ∷ held rows (extents_from n (map tally_of bs))) (next-place before es)
      ∙ ap (λ (others : List Choices). block_of kinds es ∷ others) (held-from (before ++ rows_in es) bs)

  -- they lie within these
  ends-from : (n first : ℕ) (bs : List (List BlockEntry)) → first + length (flat_map rows_in bs) ≤ n → AllByRecursion (λ (e : Extent). e.first + e.count ≤ n) (extents_from first (map tally_of bs))
  ends-from n first [] within = tt
  ends-from n first (es ∷ bs) within =
      let long : length (flat_map rows_in (es ∷ bs)) ≡ length (alternatives es) + length (flat_map rows_in bs) =
      length-append (rows_in es) (flat_map rows_in bs) ∙ ap (λ m. m + length (flat_map rows_in bs)) (length-map (alternatives es) (candidate_of kinds)) in
      (omega (arith, long, within), ends-from n (first + length (alternatives es)) bs (omega (arith, long, within)))

  -- the alternatives of records, one record more
  row-more : (f : Format) (r : Record) (run : List Record) (o : Option Role) → role_of f r ≡ o → rows_in (entries_of f run) ≡ alternatives_of f kinds (filter (is_alternative f) run)
      → rows_in (entries_of f (r ∷ run)) ≡ alternatives_of f kinds (filter (is_alternative f) (r ∷ run))
  row-more f r run None has rest = rw has rest
  row-more f r run (Some x) has rest =
      let es = alternatives (entries_of f run) in
      let rs = filter (is_alternative f) run in
      rw has
      (elim (is_absent x) as (λ b. map (candidate_of kinds) (cond (not b) (block_entry x (copies_in f r) (cells_of f r) ∷ es) es) ≡ alternatives_of f kinds (cond (not b) (r ∷ rs) rs)) [
        | true ↦ rest
        | false ↦ ap (λ (others : List Candidate). alternative_of f kinds r ∷ others) rest
      ])

  run-rows : (f : Format) (run : List Record) → rows_in (entries_of f run) ≡ alternatives_of f kinds (filter (is_alternative f) run)
  run-rows f [] = refl
  run-rows f (r ∷ run) = row-more f r run (role_of f r) refl (run-rows f run)

  blocks-rows : (f : Format) (bs : List (List Record)) → flat_map rows_in (map (entries_of f) bs) ≡ alternatives_of f kinds (flat_map (λ block. filter (is_alternative f) block) bs)
  blocks-rows f [] = refl
  blocks-rows f (b ∷ bs) =
      ap (λ (xs : List Candidate). xs ++ flat_map rows_in (map (entries_of f) bs)) (run-rows f b)
      ∙ ap (λ (xs : List Candidate). alternatives_of f kinds (filter (is_alternative f) b) ++ xs) (blocks-rows f bs)
      ∙ sym (map-append (alternative_of f kinds) (filter (is_alternative f) b) (flat_map (λ block. filter (is_alternative f) block) bs))

-- the entries of each block are those of its records
under-labels : (f : Format) (rows : List Record) (ls : List (List ℕ)) → map (entries_of f) (map (λ l. labelled l rows) ls) ≡ map (λ l. entries_of f (labelled l rows)) ls
under-labels f rows [] = refl
under-labels f rows (l ∷ ls) = ap (λ es. entries_of f (labelled l rows) ∷ es) (under-labels f rows ls)

alone : (rows : List Record) → map (entries_of format.Plain) (map (λ r. r ∷ []) rows) ≡ entry_blocks format.Plain rows
alone [] = refl
alone (r ∷ rows) = ap (λ es. entries_of format.Plain (r ∷ []) ∷ es) (alone rows)

pub block-entries : (f : Format) (rows : List Record) → map (entries_of f) (record_blocks f rows) ≡ entry_blocks f rows
block-entries format.Plain rows = alone rows
block-entries format.Blocks rows = under-labels format.Blocks rows (distinct bytes_eq (map label_of rows))
block-entries format.Copies rows = under-labels format.Copies rows (distinct bytes_eq (map label_of rows))

module _ (f : Format) (kinds : List Kind) (rows : List Record) where
  all-rows : flat_map (rows_in kinds) (entry_blocks f rows) ≡ alternatives_of f kinds (chosen f rows)
  all-rows = ap (flat_map (rows_in kinds)) (sym (block-entries f rows)) ∙ blocks-rows kinds f (record_blocks f rows)

  -- the blocks of the records
  pub laid : held (alternatives_of f kinds (chosen f rows)) (extents_from 0 (map tally_of (entry_blocks f rows))) ≡ map (block_of kinds) (entry_blocks f rows)
  laid = ap (λ xs. held xs (extents_from 0 (map tally_of (entry_blocks f rows)))) (sym all-rows) ∙ held-from kinds [] (entry_blocks f rows)

  ends : AllByRecursion (λ (e : Extent). e.first + e.count ≤ length (alternatives_of f kinds (chosen f rows))) (extents_from 0 (map tally_of (entry_blocks f rows)))
  ends = ends-from kinds (length (alternatives_of f kinds (chosen f rows))) 0 (entry_blocks f rows) (omega (arith, ap length all-rows))

  -- where they are blocks, they are blocks among these alternatives
  both : (xs : List Candidate) (es : List Extent) → AllByRecursion (λ (e : Extent). e.first + e.count ≤ length xs) es → AllByRecursion IsBlock (held xs es) → AllByRecursion (IsWithin xs) es
  both xs [] a b = tt
  both xs (e ∷ es) a b = (record { within = a.0; block = b.0 }, both xs es a.1 b.1)

  pub all-within : AllByRecursion IsBlock (map (block_of kinds) (entry_blocks f rows)) → All (IsWithin (alternatives_of f kinds (chosen f rows))) (extents_from 0 (map tally_of (entry_blocks f rows)))
  all-within are =
      All-from_recursion (IsWithin (alternatives_of f kinds (chosen f rows))) (extents_from 0 (map tally_of (entry_blocks f rows)))
      (both (alternatives_of f kinds (chosen f rows)) (extents_from 0 (map tally_of (entry_blocks f rows))) ends (rw laid are))

  counts : (bs : List (List BlockEntry)) → sum_by (λ (t : Tally). t.count) (map tally_of bs) ≡ length (flat_map (rows_in kinds) bs)
  counts [] = refl
  counts (es ∷ bs) =
      sum_by-cons (λ (t : Tally). t.count) (tally_of es) (map tally_of bs)
      ∙ (λ i. sym (length-map (alternatives es) (candidate_of kinds)) i + counts bs i)
      ∙ sym (length-append (rows_in kinds es) (flat_map (rows_in kinds) bs))

  -- there are as many alternatives as the tallies say
  pub all-counted : sum_by (λ (t : Tally). t.count) (map tally_of (entry_blocks f rows)) ≡ length (chosen f rows)
  all-counted = counts (entry_blocks f rows) ∙ ap length all-rows ∙ length-map (chosen f rows) (alternative_of f kinds)

-- the records of a plain table are all alternatives
pub plain-format : (f : Format) → has_blocks f ≡ false → f ≡ format.Plain
plain-format format.Plain none = refl
plain-format format.Blocks none = cc
plain-format format.Copies none = cc

pub plain-chosen : (rows : List Record) → chosen format.Plain rows ≡ rows
plain-chosen [] = refl
plain-chosen (r ∷ rows) = ap (λ (rs : List Record). r ∷ rs) (plain-chosen rows)

-- what they amount to, one record more
pub plain-more : (rows : List Record) (i : ℕ) (done all : List Tally) → i < length rows → done ++ map tally_of (entry_blocks format.Plain (drop i rows)) ≡ all
    → (done ++ certain ∷ []) ++ map tally_of (entry_blocks format.Plain (drop (i + 1) rows)) ≡ all
plain-more rows i done all within so_far =
    append_assoc done (certain ∷ []) (map tally_of (entry_blocks format.Plain (drop (i + 1) rows)))
    ∙ ap (λ (rs : List Record). done ++ map tally_of (entry_blocks format.Plain rs)) (sym (drop_more rows i [] within)) ∙ so_far
