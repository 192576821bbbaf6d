-- What a pass over places in order gives.
use Rattle.std.specs.Prelude.{◌≡◌, ℕ, ◌+◌, ◌*◌, ◌<◌, ◌≤◌, ◌^◌, Bool, true, false, cond, List, [], ◌∷◌, ◌++◌, get_or, map}
use Rattle.std.specs.List.{AllByRecursion, IsAllAdjacentAnswer}
use Rattle.std.specs.List.Sorted.{IsSortedBy}
use Rattle.std.specs.Ordering.{is_eq, is_lt}
use Rattle.std.proofs.Common.{refl, sym, ◌∙◌, ap, subst}
use Rattle.std.proofs.lemmas.List.{map-append}
use Rattle.au_annot.specs.Triples.{Counts, IsTriple, plus}
use Rattle.au_algebra.specs.Entries.{entry}
use Rattle.au_algebra.specs.Bounded.{normal, ranges_order}
use Rattle.au_algebra.specs.Fits.{triples_fit}
use Rattle.au_algebra.proofs.Each.{all_append}
use Rattle.au_algebra.proofs.MergedRuns.{done_fit, map_put}
use Rattle.au_algebra.proofs.Runs.{carried, finished, joins, row_below, runs_from, runs_normal, sorted_ascends}
use Rattle.au_algebra.proofs.StrictRows.{strict_normal}
use Rattle.au_algebra.proofs.TripleFits.{IsInRange, RunsSoFar, at_end, one_more, one_too_many}
use Rattle.au_codes.specs.Codes.{CellRows}
use Rattle.au_settled.specs.Places.{Decides, cells_order, counts_at, placed_row, row_in}
use Rattle.au_settled.proofs.RowOrder.{order_is}

-- a row with a triple beside its place
abbrev pub Placed : Type 0
Placed = ℕ × Counts

-- a place of a list, and a triple in order that lies in the range
pub record Stands (n : ℕ) (r : Placed) : Type 0 where
  pub below : r.0 < n
  pub triple : IsTriple r.1
  pub fits : r.1.most < 2 ^ 127

module _ (c : ℕ) (rows : CellRows) where
  -- the rows so far are in their runs: those that are done with, and the one that goes on
  abbrev pub PlacesSoFar : ℕ → List ℕ → List Placed → Placed → Type 0
  PlacesSoFar first seen done current =
      RunsSoFar (row_in c rows first) (map (row_in c rows) seen) (map (placed_row c rows) done) (placed_row c rows current)

  -- a row with its own counts
  pub own_counts : (p : ℕ) (r : Placed) → r.0 ≡ p → r.1 ≡ counts_at (3 * c) (get_or rows p []) → placed_row c rows r ≡ row_in c rows p
  own_counts p r e d = (λ i. placed_row c rows (e i, r.1)) ∙ ap (λ t. placed_row c rows (p, t)) d

  -- the first place
  pub places_first : (p : ℕ) (r : Placed) → r.0 ≡ p → r.1 ≡ counts_at (3 * c) (get_or rows p []) → PlacesSoFar p [] [] r
  places_first p r e d rest = ap (λ s. runs_from s rest) (sym (own_counts p r e d))

  carried_if : (b : Bool) (p q : Placed) → placed_row c rows (cond b (p.0, plus p.1 q.1) q) ≡ cond b (entry (placed_row c rows p).cells (plus (placed_row c rows p).annot (placed_row c rows q).annot)) (placed_row c rows q)
  carried_if true p q = refl
  carried_if false p q = refl

  in_range : (n : ℕ) (done : List Placed) → AllByRecursion (Stands n) done → AllByRecursion IsInRange (map (placed_row c rows) done)
  in_range n [] h = tt
  in_range n (r ∷ done) h = (record { triple = h.0.triple; most = h.0.fits }, in_range n done h.1)

  -- the rows that are done with lie in the range
  pub places_fit : (n : ℕ) (done : List Placed) (current : Placed) → AllByRecursion (Stands n) done → Stands n current → triples_fit (map (placed_row c rows) (done ++ current ∷ [])) ≡ true
  places_fit n done current h k =
      done_fit (placed_row c rows) done current (in_range n done h) (record { triple = k.triple; most = k.fits })

  module _ (keys : List ℕ) (are : Decides c rows keys) where
    -- whether one place's row is before another's, and whether they are equal
    abbrev pub before : ℕ → ℕ → Bool
    before p q = is_lt (cells_order keys (get_or rows p []) (get_or rows q []))

    abbrev pub meets : ℕ → ℕ → Bool
    meets p q = is_eq (cells_order keys (get_or rows p []) (get_or rows q []))

    order_in : (p q : ℕ) → cells_order keys (get_or rows p []) (get_or rows q []) ≡ ranges_order (row_in c rows p).cells (row_in c rows q).cells
    order_in p q = are.alike p q ∙ order_is c (get_or rows p []) (get_or rows q [])

    -- places in order are rows in order
    pub sorted_are : (places : List ℕ) → IsSortedBy before places → IsSortedBy (row_below (row_in c rows)) places
    sorted_are places h = subst (λ (lt : ℕ → ℕ → Bool). IsSortedBy lt places) (λ i p q. is_lt (order_in p q i)) h

    -- places that rise are those of rows in normal form
    pub rising_normal : (places : List ℕ) (b : Bool) → IsAllAdjacentAnswer (λ p q t. t ≡ before p q) places b → b ≡ true → normal (map (row_in c rows) places) ≡ map (row_in c rows) places
    rising_normal places b h e =
        strict_normal (row_in c rows) places b
        (subst (λ (lt : ℕ → ℕ → Bool). IsAllAdjacentAnswer (λ p q t. t ≡ lt p q) places b) (λ i p q. is_lt (order_in p q i)) h) e

    carried_is : (p q : Placed) → placed_row c rows (cond (meets p.0 q.0) (p.0, plus p.1 q.1) q) ≡ carried (placed_row c rows p) (placed_row c rows q)
    carried_is p q =
        carried_if (meets p.0 q.0) p q
        ∙ ap (λ o. cond (is_eq o) (entry (placed_row c rows p).cells (plus (placed_row c rows p).annot (placed_row c rows q).annot)) (placed_row c rows q)) (order_in p.0 q.0)

    done_is : (done : List Placed) (p q : Placed) → map (placed_row c rows) (done ++ cond (meets p.0 q.0) [] (p ∷ [])) ≡ map (placed_row c rows) done ++ finished (placed_row c rows p) (placed_row c rows q)
    done_is done p q =
        map_put (placed_row c rows) (meets p.0 q.0) done p
        ∙ ap (λ o. map (placed_row c rows) done ++ cond (is_eq o) [] (placed_row c rows p ∷ [])) (order_in p.0 q.0)

    -- one place more
    pub places_more :
        (first : ℕ) (seen : List ℕ) (done done' : List Placed) (p : ℕ) (current next current' : Placed) → PlacesSoFar first seen done current →
        placed_row c rows next ≡ row_in c rows p → done' ≡ done ++ cond (meets current.0 next.0) [] (current ∷ []) →
        current' ≡ cond (meets current.0 next.0) (current.0, plus current.1 next.1) next → PlacesSoFar first (seen ++ p ∷ []) done' current'
    places_more first seen done done' p current next current' h own d e rest =
        let put : map (placed_row c rows) done' ≡ map (placed_row c rows) done ++ finished (placed_row c rows current) (placed_row c rows next) =
        ap (map (placed_row c rows)) d ∙ done_is done current next in
        let row : placed_row c rows current' ≡ carried (placed_row c rows current) (placed_row c rows next) = ap (placed_row c rows) e ∙ carried_is current next in
        ap (λ xs. runs_from (row_in c rows first) (xs ++ rest)) (map-append (row_in c rows) seen (p ∷ []) ∙ ap (λ r. map (row_in c rows) seen ++ r ∷ []) (sym own))
        ∙ one_more (row_in c rows first) (map (row_in c rows) seen) (map (placed_row c rows) done) (placed_row c rows current) (placed_row c rows next) h rest
        ∙ (λ i. sym put i ++ runs_from (sym row i) rest)

    module _ (places : List ℕ) (first : ℕ) (later : List ℕ) (split : places ≡ first ∷ later) (up : IsSortedBy before places) where
      runs_are : runs_from (row_in c rows first) (map (row_in c rows) later) ≡ normal (map (row_in c rows) places)
      runs_are =
          runs_normal (row_in c rows first) (map (row_in c rows) later)
          (sorted_ascends (row_in c rows) first later (subst (IsSortedBy (row_below (row_in c rows))) split (sorted_are places up)))
          ∙ ap (λ xs. normal (map (row_in c rows) xs)) (sym split)

      -- behind the last place the rows that are done with are the normal form
      pub places_end : (done : List Placed) (current : Placed) → PlacesSoFar first later done current → map (placed_row c rows) (done ++ current ∷ []) ≡ normal (map (row_in c rows) places)
      places_end done current h =
          map-append (placed_row c rows) done (current ∷ [])
          ∙ sym (at_end (row_in c rows first) (map (row_in c rows) later) (map (placed_row c rows) done) (placed_row c rows current) h)
          ∙ runs_are

      -- where a sum is past the range the normal form is
      pub places_pass :
          (seen left : List ℕ) (done : List Placed) (p : ℕ) (current next : Placed) → seen ++ p ∷ left ≡ later → PlacesSoFar first seen done current →
          placed_row c rows next ≡ row_in c rows p → meets current.0 next.0 ≡ true → 2 ^ 127 ≤ current.1.most + next.1.most →
          triples_fit (normal (map (row_in c rows) places)) ≡ false
      places_pass seen left done p current next e h own j m =
          let same : joins (placed_row c rows current) (placed_row c rows next) ≡ true = ap is_eq (sym (order_in current.0 next.0)) ∙ j in
          ap triples_fit
          (sym runs_are ∙ ap (λ xs. runs_from (row_in c rows first) (map (row_in c rows) xs)) (sym e)
          ∙ ap (runs_from (row_in c rows first)) (map-append (row_in c rows) seen (p ∷ left) ∙ ap (λ r. map (row_in c rows) seen ++ r ∷ map (row_in c rows) left) (sym own)))
          ∙ one_too_many (row_in c rows first) (map (row_in c rows) seen) (map (placed_row c rows) done) (placed_row c rows current) (placed_row c rows next) (map (row_in c rows) left) h same m

-- rows that are done with, and one that may be put behind them
pub stands_put : (n : ℕ) (b : Bool) (done : List Placed) (r : Placed) → AllByRecursion (Stands n) done → Stands n r → AllByRecursion (Stands n) (done ++ cond b [] (r ∷ []))
stands_put n true done r h k = all_append (Stands n) done [] h tt
stands_put n false done r h k = all_append (Stands n) done (r ∷ []) h (k, tt)

place_if : (n : ℕ) (b : Bool) (current next : Placed) → current.0 < n → next.0 < n → (cond b (current.0, plus current.1 next.1) next).0 < n
place_if n true current next h k = h
place_if n false current next h k = k

-- the row that goes on
pub stands_next : (n : ℕ) (b : Bool) (current next r : Placed) → r ≡ cond b (current.0, plus current.1 next.1) next → current.0 < n → next.0 < n → IsTriple r.1 → r.1.most < 2 ^ 127 → Stands n r
stands_next n b current next r e h k t f = record {
  below = subst (λ (x : Placed). x.0 < n) (sym e) (place_if n b current next h k);
  triple = t;
  fits = f;
}

-- the places of rows that stand
pub places_below : (n : ℕ) (done : List Placed) → AllByRecursion (Stands n) done → AllByRecursion (λ r. r.0 < n) done
places_below n [] h = tt
places_below n (r ∷ done) h = (h.0.below, places_below n done h.1)
