-- Rows that are their own normal form, and the normal form of rows that were sorted.
use Rattle.std.specs.Prelude.{◌≡◌, ℕ, suc, ◌^◌, ◌<◌, ◌*◌, List, [], ◌∷◌, get_or, length, map, true}
use Rattle.std.specs.List.{AllByRecursion, range_with_len}
use Rattle.std.specs.List.Sorted.{IsPermutation}
use Rattle.std.proofs.Common.{refl, sym, ◌∙◌, ap, subst, arith}
use Rattle.std.proofs.lemmas.List.FromFn.{get_or-range_with_len, length-range_with_len}
use Rattle.std.proofs.lemmas.List.Sorted.{All-permutation, IsPermutation-map}
use Rattle.au_annot.specs.Triples.{IsTriple}
use Rattle.au_algebra.specs.Bounded.{normal}
use Rattle.au_algebra.specs.Fits.{triples_fit}
use Rattle.au_algebra.proofs.Runs.{normal_shuffled}
use Rattle.au_algebra.proofs.StrictRows.{strict_fits}
use Rattle.au_codes.specs.Codes.{CellRows}
use Rattle.au_columns.specs.Batches.{rows_in}
use Rattle.au_columns.specs.Steps.{AreBelow}
use Rattle.au_settled.specs.Settled.{HaveCounts, normal_rows, numbers_of, relation_of}
use Rattle.au_settled.specs.Places.{counts_at, row_in}
use Rattle.au_settled.proofs.Spans.{numbers_in, relation_back, relation_is}

-- all places lie within the rows
all_below : (n k : ℕ) (d : ℕ) → k < length (range_with_len 0 n) → get_or (range_with_len 0 n) k d < n
all_below n k d within =
    let long = length-range_with_len 0 n in
    let below : k < n = omega (arith, long, within) in
    omega (arith, get_or-range_with_len 0 n k d below, below)

pub places_below : (n : ℕ) (places : List ℕ) → places ≡ range_with_len 0 n → AreBelow places n
places_below n places all = subst (λ (ps : List ℕ). AreBelow ps n) (sym all) (λ k within. all_below n k 0 within)

-- also in another order
pub sorted_below : (n : ℕ) (places sorted : List ℕ) → places ≡ range_with_len 0 n → IsPermutation places sorted → AreBelow sorted n
sorted_below n places sorted all p k within =
    All-permutation (λ q. q < n) places sorted p (subst (λ (ps : List ℕ). (j : ℕ) (d : ℕ) → j < length ps → get_or ps j d < n) (sym all) (all_below n)) k 0 within

-- each place of a list that lies below a bound
pub each_below : (n : ℕ) (places : List ℕ) → AreBelow places n → AllByRecursion (λ p. p < n) places
each_below n [] h = tt
each_below n (p ∷ places) h = (h 0 (omega arith), each_below n places (λ k below. h (suc k) (omega (arith, below))))

module _ (c : ℕ) (rows : CellRows) (h : HaveCounts c rows) where
  -- the rows of all places
  pub all_rows : (places : List ℕ) → places ≡ range_with_len 0 (length rows) → map (row_in c rows) places ≡ relation_of c rows
  all_rows places all = ap (map (row_in c rows)) all ∙ relation_is c rows h

  -- rows that are their own normal form
  pub own_rows : (places : List ℕ) → places ≡ range_with_len 0 (length rows) → normal (map (row_in c rows) places) ≡ map (row_in c rows) places → rows ≡ normal_rows c rows
  own_rows places all own =
      let form : normal (relation_of c rows) ≡ relation_of c rows = ap normal (sym (all_rows places all)) ∙ own ∙ all_rows places all in
      sym (ap (map numbers_of) form ∙ relation_back c rows h)

  -- rows of some places that are
  pub apart_rows : (places : List ℕ) → AreBelow places (length rows) → normal (map (row_in c rows) places) ≡ map (row_in c rows) places → rows_in rows places ≡ map numbers_of (normal (map (row_in c rows) places))
  apart_rows places below own =
      numbers_in c rows places h (each_below (length rows) places below) ∙ ap (map numbers_of) (sym own)

  -- the normal form of the rows of places in another order
  pub same_form : (places sorted : List ℕ) → places ≡ range_with_len 0 (length rows) → IsPermutation places sorted → normal (map (row_in c rows) sorted) ≡ normal (relation_of c rows)
  same_form places sorted all p =
      normal_shuffled (map (row_in c rows) places) (map (row_in c rows) sorted) (IsPermutation-map (row_in c rows) places sorted p)
      ∙ ap normal (all_rows places all)

-- counts that were read lie in the range
pub own_fits : (c : ℕ) (rows : CellRows) (places : List ℕ) → normal (map (row_in c rows) places) ≡ map (row_in c rows) places → AllByRecursion (λ p. IsTriple (counts_at (3 * c) (get_or rows p [])) × (counts_at (3 * c) (get_or rows p [])).most < 2 ^ 127) places → triples_fit (normal (map (row_in c rows) places)) ≡ true
own_fits c rows places own read = strict_fits (row_in c rows) places places places refl refl own read
