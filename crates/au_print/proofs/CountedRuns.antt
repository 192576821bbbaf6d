-- What a pass over rows in order gives, where the rows are seen by their places.
use Rattle.std.specs.Prelude.{◌≡◌, ℕ, ◌+◌, ◌<◌, ◌≤◌, ◌^◌, Bool, true, false, ◌&&◌, cond, List, [], ◌∷◌, ◌++◌, map}
use Rattle.std.specs.List.{AllByRecursion}
use Rattle.std.specs.List.Sorted.{IsSortedBy}
use Rattle.std.specs.Ordering.{is_eq, is_lt}
use Rattle.std.specs.Cmp.Lexicographic.{slice_cmp}
use Rattle.std.proofs.Common.{refl, sym, ◌∙◌, ap, subst, append-nil, lt-ltb}
use Rattle.std.proofs.lemmas.List.{map-append}
use Rattle.au_value.specs.Order.{order}
use Rattle.au_annot.specs.Triples.{plus}
use Rattle.au_algebra.specs.Counted.{CountedRow}
use Rattle.au_algebra.specs.Entries.{entry}
use Rattle.au_algebra.specs.Bounded.{RangeRow, normal}
use Rattle.au_algebra.specs.Fits.{triples_fit}
use Rattle.au_algebra.proofs.Each.{all_append}
use Rattle.au_algebra.proofs.MergedRuns.{ended, passed, map_put}
use Rattle.au_algebra.proofs.Runs.{joins, finished, carried, runs_from, row_below}
use Rattle.au_algebra.proofs.TripleFits.{RunsSoFar, one_more}
use Rattle.au_print.specs.GuessTexts.{counted, counts_fit}
use Rattle.au_print.specs.Places.{values_at, row_at}
use Rattle.au_print.proofs.CertainRows.{as_bounded, ranges_order_of, normal_of, counted_one, counts_past, map_map}

-- the count of a place is in the range
abbrev pub Fits : ℕ × ℕ → Type 0
Fits p = p.1 < 2 ^ 127

module _ (rows : List CountedRow) where
  -- a place with a count as a bounded row
  abbrev pub bounded_at : ℕ × ℕ → RangeRow
  bounded_at p = as_bounded (row_at rows p)

  -- whether two places have the same values
  abbrev pub meets : ℕ × ℕ → ℕ × ℕ → Bool
  meets p q = is_eq (slice_cmp order (values_at rows p.0) (values_at rows q.0))

  -- the places so far are in their runs: those that are done with, and the one that goes on
  abbrev pub PlacesSoFar : ℕ × ℕ → List (ℕ × ℕ) → List (ℕ × ℕ) → ℕ × ℕ → Type 0
  PlacesSoFar first seen done current =
      RunsSoFar (bounded_at first) (map bounded_at seen) (map bounded_at done) (bounded_at current)

  joins_is : (p q : ℕ × ℕ) → joins (bounded_at p) (bounded_at q) ≡ meets p q
  joins_is p q = ap is_eq (ranges_order_of (values_at rows p.0) (values_at rows q.0))

  carried_if : (b : Bool) (p q : ℕ × ℕ) → bounded_at (cond b (p.0, p.1 + q.1) q) ≡ cond b (entry (bounded_at p).cells (plus (bounded_at p).annot (bounded_at q).annot)) (bounded_at q)
  carried_if true p q = refl
  carried_if false p q = refl

  carried_is : (p q : ℕ × ℕ) → bounded_at (cond (meets p q) (p.0, p.1 + q.1) q) ≡ carried (bounded_at p) (bounded_at q)
  carried_is p q =
      carried_if (meets p q) p q
      ∙ ap (λ b. cond b (entry (bounded_at p).cells (plus (bounded_at p).annot (bounded_at q).annot)) (bounded_at q)) (sym (joins_is p q))

  done_is : (done : List (ℕ × ℕ)) (p q : ℕ × ℕ) → map bounded_at (done ++ cond (meets p q) [] (p ∷ [])) ≡ map bounded_at done ++ finished (bounded_at p) (bounded_at q)
  done_is done p q =
      map_put bounded_at (meets p q) done p
      ∙ ap (λ b. map bounded_at done ++ cond b [] (bounded_at p ∷ [])) (sym (joins_is p q))

  -- one place more
  pub places_more : (first : ℕ × ℕ) (seen done done' : List (ℕ × ℕ)) (current next current' : ℕ × ℕ) → PlacesSoFar first seen done current → done' ≡ done ++ cond (meets current next) [] (current ∷ []) → current' ≡ cond (meets current next) (current.0, current.1 + next.1) next → PlacesSoFar first (seen ++ next ∷ []) done' current'
  places_more first seen done done' current next current' h d e rest =
      let put : map bounded_at done' ≡ map bounded_at done ++ finished (bounded_at current) (bounded_at next) = ap (map bounded_at) d ∙ done_is done current next in
      let row : bounded_at current' ≡ carried (bounded_at current) (bounded_at next) = ap bounded_at e ∙ carried_is current next in
      ap (λ xs. runs_from (bounded_at first) (xs ++ rest)) (map-append bounded_at seen (next ∷ []))
      ∙ one_more (bounded_at first) (map bounded_at seen) (map bounded_at done) (bounded_at current) (bounded_at next) h rest
      ∙ (λ i. sym put i ++ runs_from (sym row i) rest)

  -- places in order are bounded rows in order
  below_is : (places : List (ℕ × ℕ)) → IsSortedBy (λ p q. is_lt (slice_cmp order (values_at rows p.0) (values_at rows q.0))) places → IsSortedBy (row_below bounded_at) places
  below_is places h =
      subst (λ (lt : ℕ × ℕ → ℕ × ℕ → Bool). IsSortedBy lt places)
      (λ i p q. is_lt (sym (ranges_order_of (values_at rows p.0) (values_at rows q.0)) i)) h

  normal_is : (places : List (ℕ × ℕ)) → normal (map bounded_at places) ≡ map as_bounded (counted (map (row_at rows) places))
  normal_is places = ap normal (sym (map_map as_bounded (row_at rows) places)) ∙ normal_of (map (row_at rows) places)

  module _ (places : List (ℕ × ℕ)) (first : ℕ × ℕ) (later : List (ℕ × ℕ)) (split : places ≡ first ∷ later) (up : IsSortedBy (λ p q. is_lt (slice_cmp order (values_at rows p.0) (values_at rows q.0))) places) where
    -- behind the last place the rows that are done with are each row once
    pub places_end : (done : List (ℕ × ℕ)) (current : ℕ × ℕ) → PlacesSoFar first later done current → map (row_at rows) (done ++ current ∷ []) ≡ counted (map (row_at rows) places)
    places_end done current h =
        counted_one (map (row_at rows) (done ++ current ∷ [])) (counted (map (row_at rows) places))
        (map_map as_bounded (row_at rows) (done ++ current ∷ [])
        ∙ ended bounded_at places first later split (below_is places up) later [] done current (append-nil later) refl h
        ∙ normal_is places)

    -- where a sum is past the range a count is
    pub places_pass : (seen left done : List (ℕ × ℕ)) (current next : ℕ × ℕ) → seen ++ next ∷ left ≡ later → PlacesSoFar first seen done current → meets current next ≡ true → 2 ^ 127 ≤ current.1 + next.1 → counts_fit (counted (map (row_at rows) places)) ≡ false
    places_pass seen left done current next e h j m =
        counts_past (counted (map (row_at rows) places))
        (ap triples_fit (sym (normal_is places))
        ∙ passed bounded_at places first later split (below_is places up) seen left done current next e h (joins_is current next ∙ j) m)

-- counts below 2^127 fit
pub counted_fit : (rows : List CountedRow) (places : List (ℕ × ℕ)) → AllByRecursion Fits places → counts_fit (map (row_at rows) places) ≡ true
counted_fit rows [] h = refl
counted_fit rows (p ∷ places) h = λ i. lt-ltb p.1 (2 ^ 127) h.0 i && counted_fit rows places h.1 i

-- and those of places that one more may be put behind
pub fits_put : (b : Bool) (places : List (ℕ × ℕ)) (p : ℕ × ℕ) → AllByRecursion Fits places → Fits p → AllByRecursion Fits (places ++ cond b [] (p ∷ []))
fits_put true places p h k = all_append Fits places [] h tt
fits_put false places p h k = all_append Fits places (p ∷ []) h (k, tt)
