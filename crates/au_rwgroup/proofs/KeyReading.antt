-- How the keys of a grouping are read off a row's cells: all of them for Distinct, the first ones for Group; and which box
-- stands for each list of guessed keys: the hull of its rows' keys for both.
use Rattle.std.specs.Prelude.{◌≡◌, ◌≤◌, ℕ, ◌+◌, Bool, true, false, not, ◌&&◌, ◌||◌, cond, List, ◌∷◌, ◌++◌, filter, length, map, nat_le, sum_by, if◌then◌else◌}
use Rattle.std.specs.List.{AllZip, list_any}
use Rattle.std.proofs.Common.{arith, sym, ◌∙◌, subst}
use Rattle.au_value.specs.declared.kinds.Kind.{Kind}
use Rattle.au_value.specs.declared.value.Value.{Value}
use Rattle.au_value.specs.Ranges.{Span, IsRangeOf, all_certain, all_overlap, guesses}
use Rattle.au_annot.specs.Triples.{Counts, counts}
use Rattle.au_algebra.specs.declared.query.Agg.{Agg}
use Rattle.au_algebra.specs.Entries.{entry}
use Rattle.au_algebra.specs.Bounded.{RangeRow, Bounded, Grouped, aggregate, group_counts, hull_of, most_of, some_of}
use Rattle.au_algebra.specs.Laws.{IsRangeRow, IsRelation}
use Rattle.au_algebra.specs.Lists.{same_row}
use Rattle.au_algebra.proofs.Choices.{sum_if}
use Rattle.au_algebra.proofs.Each.{all_from}
use Rattle.au_algebra.proofs.Hulls.{hull_of_ranges}
use Rattle.au_combine.proofs.BoxRows.{hull_long}
use Rattle.au_combine.proofs.RowsApart.{guesses-hull}
use Rattle.au_encode.proofs.Decoded.{cells_length}
use Rattle.au_rwexpr.proofs.Coded.{rl, rs, rh}
use Rattle.au_rwexpr.proofs.Places.{EndsOfAll}

-- Keys of rows of these kinds: how many there are, where they stand, and of which kinds they are.
pub record Keys : Type 0 where
  pub ks : List Kind
  pub k : ℕ
  pub keys : List Span → List Span
  pub long : (r : RangeRow) → IsRangeRow ks r → length (keys r.cells) ≡ k
  pub shifted : (r : RangeRow) → IsRangeRow ks r → (row : List Value) (i : ℕ) → EndsOfAll rl rs rh row i r.cells → EndsOfAll rl rs rh row i (keys r.cells)
  pub kks : List Kind
  pub kinded : (r : RangeRow) → IsRangeRow ks r → AllZip IsRangeOf kks (keys r.cells)

-- The same, and of each list of guessed keys that occurs, with the rows that have it, the box, which has the kinds of keys
-- and this list for its guesses, and the most groups whose keys lie in the box and that belong to it.
pub record KeyReading : Type 0 where
  pub ks : List Kind
  pub k : ℕ
  pub keys : List Span → List Span
  pub long : (r : RangeRow) → IsRangeRow ks r → length (keys r.cells) ≡ k
  pub shifted : (r : RangeRow) → IsRangeRow ks r → (row : List Value) (i : ℕ) → EndsOfAll rl rs rh row i r.cells → EndsOfAll rl rs rh row i (keys r.cells)
  pub kks : List Kind
  pub kinded : (r : RangeRow) → IsRangeRow ks r → AllZip IsRangeOf kks (keys r.cells)
  pub box : List Value → Bounded → List Span
  pub most : Bounded → ℕ
  pub box_long : (key : List Value) (g : RangeRow) (gs : Bounded) → IsRelation ks (g ∷ gs) → key ≡ guesses (keys g.cells) → length (box key (g ∷ gs)) ≡ k
  pub box_kinded : (key : List Value) (g : RangeRow) (gs : Bounded) → IsRelation ks (g ∷ gs) → key ≡ guesses (keys g.cells) → AllZip IsRangeOf kks (box key (g ∷ gs))
  pub box_guess : (key : List Value) (g : RangeRow) (gs : Bounded) → IsRelation ks (g ∷ gs) → key ≡ guesses (keys g.cells) → guesses (box key (g ∷ gs)) ≡ key

-- ---- outputs with these boxes

-- the rows of an output
abbrev pub grouped_in : KeyReading → Bounded → List Value → Grouped
grouped_in by rows guess =
    let belonging = filter (λ r. same_row guess (guesses (by.keys r.cells))) rows in
    let box = by.box guess belonging in
    record {
      belonging = belonging;
      box = box;
      members = filter (λ r. all_overlap (by.keys r.cells) box) rows;
      is_certain_member = λ r. all_certain (by.keys r.cells) && all_certain box;
      is_guessed = list_any (λ r. nat_le 1 r.annot.guess) belonging;
    }

-- its triple
abbrev pub counts_in : KeyReading → Bounded → Counts
counts_in by belonging =
    counts
    (some_of (λ r. all_certain (by.keys r.cells) && nat_le 1 r.annot.least) belonging)
    (some_of (λ r. nat_le 1 r.annot.guess) belonging)
    (by.most belonging)

-- the output
abbrev pub output_in : KeyReading → List Agg → Bounded → List Value → RangeRow
output_in by aggs rows guess =
    let g = grouped_in by rows guess in entry (g.box ++ map (aggregate g) aggs) (counts_in by g.belonging)

-- ---- hulls

module _ (keys : List Span → List Span) (ks : List Kind) where
  abbrev surely : RangeRow → Bool
  surely r = all_certain (keys r.cells)

  -- each group may have a row
  pub hull_most : (g : RangeRow) (gs : Bounded) → IsRelation ks (g ∷ gs) → 1 ≤ (group_counts keys (g ∷ gs)).most
  hull_most g gs v = subst (λ m. 1 ≤ m + some_of surely (g ∷ gs)) (sym (sum_if (λ r. r.annot.most) (not (surely g)) g (filter (λ r. not (surely r)) gs))) (by_test (surely g))
    where
      by_test : (b : Bool) → 1 ≤ cond (not b) g.annot.most 0 + sum_by (λ r. r.annot.most) (filter (λ r. not (surely r)) gs) + (if b || list_any surely gs then 1 else 0)
      by_test true = omega arith
      by_test false = omega (arith, v.0.present)

module _ (of : Keys) where
  -- the hull of keys, and the copies of rows with unsure keys, with one for all that have certain keys
  abbrev pub hull : Bounded → List Span
  hull rows = hull_of (map (λ r. of.keys r.cells) rows)

  abbrev pub hull_groups : Bounded → ℕ
  hull_groups rows = most_of (filter (λ r. not (all_certain (of.keys r.cells))) rows) + some_of (λ r. all_certain (of.keys r.cells)) rows

  pub hull_is_long : (g : RangeRow) (gs : Bounded) → IsRelation of.ks (g ∷ gs) → length (hull (g ∷ gs)) ≡ of.k
  hull_is_long g gs ok = hull_long (λ r. of.keys r.cells) of.k g gs (all_from (IsRangeRow of.ks) (λ r. length (of.keys r.cells) ≡ of.k) (g ∷ gs) of.long ok)

  pub hull_is_kinded : (g : RangeRow) (gs : Bounded) → IsRelation of.ks (g ∷ gs) → AllZip IsRangeOf of.kks (hull (g ∷ gs))
  hull_is_kinded g gs ok =
      hull_of_ranges of.keys of.kks (g ∷ gs) (all_from (IsRangeRow of.ks) (λ r. AllZip IsRangeOf of.kks (of.keys r.cells)) (g ∷ gs) of.kinded ok) (omega arith)

  pub hull_guess : (key : List Value) (g : RangeRow) (gs : Bounded) → IsRelation of.ks (g ∷ gs) → key ≡ guesses (of.keys g.cells) → guesses (hull (g ∷ gs)) ≡ key
  hull_guess key g gs ok e =
      guesses-hull (λ r. of.keys r.cells) of.k g gs (all_from (IsRangeRow of.ks) (λ r. length (of.keys r.cells) ≡ of.k) (g ∷ gs) of.long ok) ∙ sym e

  -- the boxes are hulls
  abbrev pub by_hulls : KeyReading
  by_hulls = record {
    ks = of.ks;
    k = of.k;
    keys = of.keys;
    long = of.long;
    shifted = of.shifted;
    kks = of.kks;
    kinded = of.kinded;
    box = λ key rows. hull rows;
    most = hull_groups;
    box_long = λ key g gs ok e. hull_is_long g gs ok;
    box_kinded = λ key g gs ok e. hull_is_kinded g gs ok;
    box_guess = hull_guess;
  }

-- all cells are keys
abbrev pub all_cells : List Kind → KeyReading
all_cells kinds =
    by_hulls
    (record {
      ks = kinds;
      k = length kinds;
      keys = λ cells. cells;
      long = λ r v. cells_length IsRangeOf kinds r.cells v.cells;
      shifted = λ r v row i e. e;
      kks = kinds;
      kinded = λ r v. v.cells;
    })
