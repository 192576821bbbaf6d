-- The plans of changed rows give the rows that they stand for.
use Rattle.std.specs.Prelude.{◌≡◌, ◌≤◌, ℕ, zero, suc, ◌+◌, ◌*◌, Bool, true, false, cond, List, [], ◌∷◌, ◌++◌, length, map, pos, take, Some, ℤ}
use Rattle.std.proofs.Common.{arith, refl, sym, ◌∙◌, ap, subst}
use Rattle.au_value.specs.declared.kinds.Kind.{Kind}
use Rattle.au_value.specs.declared.kinds.Kind.TheVariants as kind
use Rattle.au_value.specs.declared.value.Value.{Value}
use Rattle.au_value.specs.declared.value.Value.TheVariants.{Int}
use Rattle.au_value.specs.Ranges.{IsRangeOf, Span, all_certain, certain, guesses}
use Rattle.au_expr.specs.Ordinary as on_values
use Rattle.au_algebra.specs.Bounded.{RangeRow, Bounded}
use Rattle.au_algebra.specs.Laws.{IsRangeRow}
use Rattle.au_algebra.specs.Ordinary.{Rows}
use Rattle.au_plain.specs.PlanKinds.{FitTables, plain_kind}
use Rattle.au_plain.specs.Plans.{PlanTree, Filter}
use Rattle.au_plain.specs.PTerms as term
use Rattle.au_encode.specs.Encode.{encode_cells, encode_row, encoded_kinds, triple_kinds}
use Rattle.au_encode.specs.Gives.{GivesRelation}
use Rattle.au_encode.proofs.Decoded.{cells_length}
use Rattle.au_encode.proofs.HeldCells.{FitRow}
use Rattle.au_expr.proofs.Fits.{fit_parts}
use Rattle.au_rwexpr.specs.Cells.{cell_places}
use Rattle.au_rwexpr.specs.Counts.{zero_term}
use Rattle.au_rwexpr.specs.Flatten.{lo}
use Rattle.au_rwexpr.proofs.Careful.{Fits, case_fits, column_fits}
use Rattle.au_rwexpr.proofs.Coded.{cg, cl, cm, own, rh, rl, rs}
use Rattle.au_rwexpr.proofs.Columns.{means_now}
use Rattle.au_rwexpr.proofs.OnKinds.{case_kind, column_kind}
use Rattle.au_rwexpr.proofs.OnValues.{Has, column_has}
use Rattle.au_rwexpr.proofs.Picks.{Picks, coded, coded_cells, coded_long, coded_triple, pick_cells, picks_more}
use Rattle.au_rwexpr.proofs.Places.{At, Ends, EndsOfAll, all_ends, all_ends_more, at_past, ends_more}
use Rattle.au_rwgroup.specs.Groups.{all_sure}
use Rattle.au_points.specs.GuessRows.{guess_row}
use Rattle.au_points.specs.Points.{other_rows, possible_row, unsure_rows}
use Rattle.au_points.proofs.PointBasics.{certain_ranges}
use Rattle.au_rwpoints.specs.RowPlans.{guess_places, guess_plan, other_plan, sure_least}
use Rattle.au_rwpoints.proofs.RowMaps.{map_gives}
use Rattle.au_rwpoints.proofs.Unsure.{fit_sure, kind_sure, row_sure, unsure_gives}

-- ---- places

-- the guess of each thing three times
pub pick_guesses : {A X : Type 0} (l s h : X → A) (row : List A) (i n : ℕ) (xs : List X) → length xs ≡ n → EndsOfAll l s h row i xs → Picks row (guess_places i n) (all_ends s s s xs)
pick_guesses l s h row i zero [] n e = tt
pick_guesses l s h row i (suc c) [] n e = let never : ⊥ = omega (arith, n) in absurd never
pick_guesses l s h row i zero (x ∷ xs) n e = let never : ⊥ = omega (arith, n) in absurd never
pick_guesses l s h row i (suc c) (x ∷ xs) n e = (e.0.sg, (e.0.sg, (e.0.sg, pick_guesses l s h row (i + 3) c xs (omega (arith, n)) e.1)))

-- these are the cells of the guesses
pub guess_cells : (xs : List Span) → all_ends rs rs rs xs ≡ encode_cells (map certain (guesses xs))
guess_cells [] = refl
guess_cells (x ∷ xs) = λ i. x.sg ∷ x.sg ∷ x.sg ∷ guess_cells xs i

pub guess_kinds : (ks : List Kind) → all_ends own own own ks ≡ triple_kinds ks
guess_kinds [] = refl
guess_kinds (k ∷ ks) = λ i. k ∷ k ∷ k ∷ guess_kinds ks i

-- a row of c things with a triple, and one column behind it
module _ {A X T : Type 0} (l s h : X → A) (tl ts th : T → A) (c : ℕ) (xs : List X) (t : T) (long : length xs ≡ c) (y : A) where
  abbrev row : List A
  row = coded l s h tl ts th xs t ++ (y ∷ [])

  pub cells_at : EndsOfAll l s h row 0 xs
  cells_at = all_ends_more l s h (coded l s h tl ts th xs t) (y ∷ []) 0 xs (coded_cells l s h tl ts th c xs t long)

  pub triple_at : Ends tl ts th row (3 * c) t
  triple_at = ends_more tl ts th (coded l s h tl ts th xs t) (y ∷ []) (3 * c) t (coded_triple l s h tl ts th c xs t long)

  pub added_at : At row (3 * c + 3) y
  added_at = at_past (coded l s h tl ts th xs t) (y ∷ []) 0 (3 * c + 3) y (let e = coded_long l s h tl ts th c xs t long in omega (arith, e)) refl

  pub guess_picks : Picks row (guess_places 0 c ++ ((3 * c + 3) ∷ (3 * c + 1) ∷ (3 * c + 2) ∷ [])) (all_ends s s s xs ++ (y ∷ ts t ∷ th t ∷ []))
  guess_picks =
      picks_more row (guess_places 0 c) ((3 * c + 3) ∷ (3 * c + 1) ∷ (3 * c + 2) ∷ []) (all_ends s s s xs) (y ∷ ts t ∷ th t ∷ [])
      (pick_guesses l s h row 0 c xs long cells_at)
      (added_at, (triple_at.sg, (triple_at.hi, tt)))

  pub other_picks : Picks row (cell_places 0 c ++ ((3 * c + 3) ∷ (3 * c + 3) ∷ (3 * c + 2) ∷ [])) (all_ends l s h xs ++ (y ∷ y ∷ th t ∷ []))
  other_picks =
      picks_more row (cell_places 0 c) ((3 * c + 3) ∷ (3 * c + 3) ∷ (3 * c + 2) ∷ []) (all_ends l s h xs) (y ∷ y ∷ th t ∷ [])
      (pick_cells l s h row 0 c xs long cells_at)
      (added_at, (added_at, (triple_at.hi, tt)))

-- ---- the plans

least_if : (b : Bool) (n : ℕ) → cond b (Int (pos n)) (Int (pos 0)) ≡ Int (pos (cond b n 0))
least_if true n = refl
least_if false n = refl

least_less : (b : Bool) (n m : ℕ) → n ≤ m → cond b n 0 ≤ m
least_less true n m h = h
least_less false n m h = omega arith

module _ (ks : List Kind) where
  abbrev c : ℕ
  c = length ks

  long : (r : RangeRow) → IsRangeRow ks r → length r.cells ≡ c
  long r v = cells_length IsRangeOf ks r.cells v.cells

  literal_has : (values : List Value) (n : ℕ) → Has values (term.Literal (Int (pos n))) (Int (pos n))
  literal_has values n = λ more. refl

  module _ (k : ℕ) (within : k ≤ length ks) where
    -- ---- the rows with unsure keys

    other_valid : (r : RangeRow) → IsRangeRow ks r → IsRangeRow ks (possible_row r)
    other_valid r v = record { cells = v.cells; triple = record { least_guess = omega arith; guess_most = omega arith }; present = v.present }

    pub other_gives :
        (kinds : List (List Kind)) (tables : List Rows) (p : PlanTree) (rows : Bounded) (ns : List ℤ) →
        FitTables tables → GivesRelation kinds tables p ks rows ns → GivesRelation kinds tables (other_plan c k p) ks (other_rows (take k) rows) ns
    other_gives kinds tables p rows ns fits g =
        map_gives ks ks possible_row zero_term (λ r. 0) (cell_places 0 c ++ ((3 * c + 3) ∷ (3 * c + 3) ∷ (3 * c + 2) ∷ []))
        other_valid (λ r v. literal_has (encode_row r) 0) (λ r v. other_picks rl rs rh cl cg cm c r.cells r.annot (long r v) (Int (pos 0)))
        refl (other_picks own own own own own own c ks kind.Int refl kind.Int) (λ r v h more. refl)
        kinds tables (Filter (term.Not (all_sure 0 k)) p) (unsure_rows (take k) rows) ns fits (unsure_gives ks k within kinds tables p rows ns fits g)

  -- ---- the guesses of whole rows

  all : length ks ≤ length ks
  all = omega arith

  guess_valid : (r : RangeRow) → IsRangeRow ks r → IsRangeRow ks (guess_row r)
  guess_valid r v = record {
    cells = certain_ranges ks r.cells v.cells;
    triple = record { least_guess = least_less (all_certain r.cells) r.annot.least r.annot.guess v.triple.least_guess; guess_most = v.triple.guess_most };
    present = v.present;
  }

  take_whole : (r : RangeRow) → IsRangeRow ks r → take c r.cells ≡ r.cells
  take_whole r v = ap (λ n. take n r.cells) (sym (long r v)) ∙ take_length r.cells
    where
      take_length : (xs : List Span) → take (length xs) xs ≡ xs
      take_length [] = refl
      take_length (x ∷ xs) = ap (λ q. x ∷ q) (take_length xs)

  least_at : (r : RangeRow) → IsRangeRow ks r → At (encode_row r) (3 * c) (cl r.annot)
  least_at r v = (coded_triple rl rs rh cl cg cm c r.cells r.annot (long r v)).lo

  guess_has : (r : RangeRow) → IsRangeRow ks r → Has (encode_row r) (sure_least c) (Int (pos (cond (all_certain r.cells) r.annot.least 0)))
  guess_has r v = λ more.
      (λ i. on_values.choose (row_sure ks c all r v more i) (column_has (encode_row r) (3 * c) (cl r.annot) (least_at r v) more i) (Int (pos 0)))
      ∙ least_if (all_certain (take c r.cells)) r.annot.least
      ∙ ap (λ cells. Int (pos (cond (all_certain cells) r.annot.least 0))) (take_whole r v)

  guess_encoded : (r : RangeRow) → IsRangeRow ks r → Picks (encode_row r ++ (Int (pos (cond (all_certain r.cells) r.annot.least 0)) ∷ [])) (guess_places 0 c ++ ((3 * c + 3) ∷ (3 * c + 1) ∷ (3 * c + 2) ∷ [])) (encode_row (guess_row r))
  guess_encoded r v =
      let y = Int (pos (cond (all_certain r.cells) r.annot.least 0)) in
      subst (λ q. Picks (encode_row r ++ (y ∷ [])) (guess_places 0 c ++ ((3 * c + 3) ∷ (3 * c + 1) ∷ (3 * c + 2) ∷ [])) (q ++ (y ∷ cg r.annot ∷ cm r.annot ∷ [])))
      (guess_cells r.cells) (guess_picks rl rs rh cl cg cm c r.cells r.annot (long r v) y)

  guess_number : plain_kind (encoded_kinds ks) (sure_least c) ≡ Some kind.Int
  guess_number =
      means_now plain_kind (encoded_kinds ks) (sure_least c) kind.Int
      (case_kind (encoded_kinds ks) (lo (3 * c)) zero_term kind.Int (all_sure 0 c) (kind_sure ks c all)
      (column_kind (encoded_kinds ks) (3 * c) kind.Int (coded_triple own own own own own own c ks kind.Int refl).lo) (λ more. refl))

  guess_kinds_picked : Picks (encoded_kinds ks ++ (kind.Int ∷ [])) (guess_places 0 c ++ ((3 * c + 3) ∷ (3 * c + 1) ∷ (3 * c + 2) ∷ [])) (encoded_kinds ks)
  guess_kinds_picked =
      subst (λ q. Picks (encoded_kinds ks ++ (kind.Int ∷ [])) (guess_places 0 c ++ ((3 * c + 3) ∷ (3 * c + 1) ∷ (3 * c + 2) ∷ [])) (q ++ (kind.Int ∷ kind.Int ∷ kind.Int ∷ [])))
      (guess_kinds ks) (guess_picks own own own own own own c ks kind.Int refl kind.Int)

  guess_fits : (r : RangeRow) → IsRangeRow ks r → FitRow r → Fits (encode_row r) (sure_least c)
  guess_fits r v h =
      let least = (fit_parts (pos r.annot.least ∷ []) (pos r.annot.guess ∷ pos r.annot.most ∷ []) h.triple).0 in
      case_fits (encode_row r) (lo (3 * c)) zero_term (column_fits (encode_row r) (3 * c) (cl r.annot) (column_has (encode_row r) (3 * c) (cl r.annot) (least_at r v)) least) (λ more. refl) (all_sure 0 c) (fit_sure ks c all r v h)

  pub guess_gives :
      (kinds : List (List Kind)) (tables : List Rows) (p : PlanTree) (rows : Bounded) (ns : List ℤ) →
      FitTables tables → GivesRelation kinds tables p ks rows ns → GivesRelation kinds tables (guess_plan c p) ks (map guess_row rows) ns
  guess_gives =
      map_gives ks ks guess_row (sure_least c) (λ r. cond (all_certain r.cells) r.annot.least 0) (guess_places 0 c ++ ((3 * c + 3) ∷ (3 * c + 1) ∷ (3 * c + 2) ∷ []))
      guess_valid guess_has guess_encoded guess_number guess_kinds_picked guess_fits
