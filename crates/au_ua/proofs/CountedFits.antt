-- The numbers of a table's rows with two counts lie in the range where those of its cells do.
use Rattle.std.specs.Prelude.{◌≡◌, ℕ, ◌-◌, ◌<◌, ◌≤◌, ◌^◌, true, List, [], ◌∷◌, ◌++◌, map}
use Rattle.std.specs.List.{AllByRecursion}
use Rattle.std.proofs.Common.{arith, refl, sym, ◌∙◌, ap, subst, le-leb}
use Rattle.std.proofs.lemmas.Bool.{and_from}
use Rattle.std.proofs.lemmas.List.{map-append}
use Rattle.au_value.specs.Ranges.{Span, guesses}
use Rattle.au_annot.specs.Pairs.{PairCounts}
use Rattle.au_blocks.specs.Blocks.{Choices}
use Rattle.au_expr.specs.Figures.{fit}
use Rattle.au_expr.specs.Numbers.{number_if_any}
use Rattle.au_algebra.specs.Entries.{entry}
use Rattle.au_algebra.proofs.Each.{all_append}
use Rattle.au_plain.specs.PlanKinds.{FitRows, row_fits}
use Rattle.au_rwcounted.specs.CountedRows.{count_value, counts_row, counts_rows, two_counts}
use Rattle.au_translate.specs.HeldNumbers.{FitSpan}
use Rattle.au_ua.specs.Relations.{PairRow}
use Rattle.au_ua.specs.UaTables.{block_rows, ua_blocks}

-- ---- one row

count_in_range : (n : ℕ) → n < 2 ^ 127 → fit (number_if_any (count_value n)) ≡ true
count_in_range n low = let top : n ≤ 2 ^ 127 - 1 = omega (arith, low) in and_from _ _ (le-leb n (2 ^ 127 - 1) top) refl

pub row_fit : (cells : List Span) (p : PairCounts) → AllByRecursion FitSpan cells → p.certain < 2 ^ 127 → p.guess < 2 ^ 127 → row_fits (counts_row (two_counts (entry (guesses cells) p))) ≡ true
row_fit [] p h c g =
    and_from _ _ (count_in_range p.certain c) (and_from _ _ (count_in_range p.guess g) refl)
row_fit (s ∷ cells) p h c g = and_from _ _ h.0.sg (row_fit cells p h.1 c g)

-- ---- all blocks

-- the numbers of the row that is marked of a block
abbrev pub FitMarked : Choices → Type 0
FitMarked b = FitRows (counts_rows (map two_counts (block_rows b)))

both : (xs ys : List PairRow) → FitRows (counts_rows (map two_counts xs)) → FitRows (counts_rows (map two_counts ys)) → FitRows (counts_rows (map two_counts (xs ++ ys)))
both xs ys f g =
    let joined : counts_rows (map two_counts (xs ++ ys)) ≡ counts_rows (map two_counts xs) ++ counts_rows (map two_counts ys) =
    ap counts_rows (map-append two_counts xs ys) ∙ map-append counts_row (map two_counts xs) (map two_counts ys) in
    subst FitRows (sym joined) (all_append (λ row. row_fits row ≡ true) (counts_rows (map two_counts xs)) (counts_rows (map two_counts ys)) f g)

pub all_fit : (bs : List Choices) → AllByRecursion FitMarked bs → FitRows (counts_rows (map two_counts (ua_blocks bs)))
all_fit [] h = tt
all_fit (b ∷ bs) h = both (block_rows b) (ua_blocks bs) h.0 (all_fit bs h.1)
