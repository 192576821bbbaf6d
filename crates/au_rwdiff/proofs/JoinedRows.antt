-- A left row joined with a right row, and what is taken, in its columns.
use Rattle.std.specs.Prelude.{◌≡◌, ℕ, ◌+◌, ◌*◌, Bool, true, false, List, [], ◌++◌, length, pos, Some, if◌then◌else◌}
use Rattle.std.proofs.Common.{arith, refl, sym, ◌∙◌, ap, subst, append_assoc}
use Rattle.std.proofs.lemmas.List.{append-nil}
use Rattle.au_value.specs.declared.kinds.Kind.{Kind}
use Rattle.au_value.specs.declared.value.Value.{Value}
use Rattle.au_value.specs.declared.value.Value.TheVariants as value
use Rattle.au_value.specs.Ranges.{IsRangeOf, all_overlap, all_certainly_equal, guesses}
use Rattle.au_annot.specs.Triples.{Counts, counts}
use Rattle.au_expr.specs.Ordinary as on_values
use Rattle.au_expr.specs.Ordinary.{is_true}
use Rattle.au_algebra.specs.Lists.{same_row}
use Rattle.au_algebra.specs.Bounded.{RangeRow}
use Rattle.au_algebra.specs.Laws.{IsRangeRow}
use Rattle.au_plain.specs.PTerms.{plain_value}
use Rattle.au_plain.specs.Meaning.{kept, passes}
use Rattle.au_encode.specs.Encode.{encode_row, encode_counts}
use Rattle.au_encode.proofs.Decoded.{cells_length}
use Rattle.au_rwexpr.specs.Adding.{grow}
use Rattle.au_rwexpr.specs.Cells.{run, three_places}
use Rattle.au_rwexpr.specs.Meets.{meets_term}
use Rattle.au_rwexpr.proofs.Coded.{rl, rs, rh, cl, cg, cm}
use Rattle.au_rwexpr.proofs.Columns.{AllMean, adds}
use Rattle.au_rwexpr.proofs.Gives.{grow_is}
use Rattle.au_rwexpr.proofs.Meeting.{meets_has, same_has, surely_has}
use Rattle.au_rwexpr.proofs.OnValues.{reading, column_has}
use Rattle.au_rwexpr.proofs.Picks.{Picks, kept_are, picks_more, pick_three, ends_past, coded_long, left_cells, right_cells, right_triple, pair_long}
use Rattle.au_rwexpr.proofs.Places.{Ends, EndsOfAll}
use Rattle.au_combine.proofs.BoxPlaces.{first_picks}
use Rattle.au_rwdiff.specs.Differences.{taken_columns}

count_if : (b : Bool) (n : ℕ) → (if b then value.Int (pos n) else value.Int (pos 0)) ≡ value.Int (pos (if b then n else 0))
count_if true n = refl
count_if false n = refl

module _ (ks : List Kind) where
  abbrev pub c : ℕ
  c = length ks

  abbrev pub w : ℕ
  w = 3 * c + 3

  abbrev pub u : ℕ
  u = 3 * c + 3 + 3 * c

  pub long : (r : RangeRow) → IsRangeRow ks r → length r.cells ≡ c
  long r v = cells_length IsRangeOf ks r.cells v.cells

  pub row_long : (r : RangeRow) → IsRangeRow ks r → length (encode_row r) ≡ w
  row_long r v = coded_long rl rs rh cl cg cm c r.cells r.annot (long r v)

  abbrev pub meet : RangeRow → RangeRow → Bool
  meet t r = all_overlap t.cells r.cells

  abbrev pub same : RangeRow → RangeRow → Bool
  same t r = same_row (guesses t.cells) (guesses r.cells)

  abbrev pub sure : RangeRow → RangeRow → Bool
  sure t r = all_certainly_equal t.cells r.cells

  -- what a right row takes from the least, the guess and the most of a left row that it overlaps
  abbrev pub share : RangeRow → RangeRow → Counts
  share t r = counts r.annot.most (if same t r then r.annot.guess else 0) (if sure t r then r.annot.least else 0)

  abbrev pub joined : RangeRow × RangeRow → List Value
  joined s = encode_row s.0 ++ encode_row s.1

  abbrev pub IsPair : RangeRow × RangeRow → Type 0
  IsPair s = IsRangeRow ks s.0 × IsRangeRow ks s.1

  module _ (s : RangeRow × RangeRow) (v : IsPair s) where
    pub lefts : EndsOfAll rl rs rh (joined s) 0 s.0.cells
    lefts = left_cells rl rs rh cl cg cm c c s.0.cells s.1.cells s.0.annot s.1.annot (long s.0 v.0) (long s.1 v.1)

    pub rights : EndsOfAll rl rs rh (joined s) w s.1.cells
    rights = right_cells rl rs rh cl cg cm c c s.0.cells s.1.cells s.0.annot s.1.annot (long s.0 v.0) (long s.1 v.1)

    pub triple : Ends cl cg cm (joined s) u s.1.annot
    triple = right_triple rl rs rh cl cg cm c c s.0.cells s.1.cells s.0.annot s.1.annot (long s.0 v.0) (long s.1 v.1)

    joined_long : length (joined s) ≡ w + w
    joined_long = pair_long rl rs rh cl cg cm c c s.0.cells s.1.cells s.0.annot s.1.annot (long s.0 v.0) (long s.1 v.1) ∙ (let e : 3 * c + 3 + 3 * c + 3 ≡ w + w = omega arith in e)

    pub meets_now : passes (meets_term 0 w c) (joined s) ≡ meet s.0 s.1
    meets_now =
        ap (λ row. is_true (plain_value (meets_term 0 w c) row)) (sym (append-nil (joined s)))
        ∙ ap is_true (meets_has (joined s) 0 w c s.0.cells s.1.cells (long s.0 v.0) (long s.1 v.1) lefts rights [])

    pub taken_mean : AllMean reading (joined s) (taken_columns c w u) (encode_counts (share s.0 s.1))
    taken_mean =
        let l = column_has (joined s) u (cl s.1.annot) triple.lo in
        let g = column_has (joined s) (u + 1) (cg s.1.annot) triple.sg in
        let m = column_has (joined s) (u + 2) (cm s.1.annot) triple.hi in
        let equal = same_has (joined s) 0 w c s.0.cells s.1.cells (long s.0 v.0) (long s.1 v.1) lefts rights in
        let certain = surely_has (joined s) 0 w c s.0.cells s.1.cells (long s.0 v.0) (long s.1 v.1) lefts rights in (
          (λ more. λ i. Some (m more i)),
          (
            (λ more. (λ i. Some (on_values.choose (equal more i) (g more i) (value.Int (pos 0)))) ∙ ap Some (count_if (same s.0 s.1) s.1.annot.guess)),
            ((λ more. (λ i. Some (on_values.choose (certain more i) (l more i) (value.Int (pos 0)))) ∙ ap Some (count_if (sure s.0 s.1) s.1.annot.least)), tt),
          ),
        )

    taken_grown : grow (taken_columns c w u) (joined s) ≡ joined s ++ encode_counts (share s.0 s.1)
    taken_grown =
        grow_is (taken_columns c w u) (joined s) (joined s ++ encode_counts (share s.0 s.1))
        (adds reading (joined s) (taken_columns c w u) (encode_counts (share s.0 s.1)) taken_mean)

    -- the left row, and what is taken
    pub taken_kept : kept (run 0 w ++ three_places (w + w)) (grow (taken_columns c w u) (joined s)) ≡ encode_row s.0 ++ encode_counts (share s.0 s.1)
    taken_kept =
        let new = encode_counts (share s.0 s.1) in
        let row = joined s ++ new in
        let first : Picks row (run 0 w) (encode_row s.0) =
        subst (λ r. Picks r (run 0 w) (encode_row s.0)) (sym (append_assoc (encode_row s.0) (encode_row s.1) new))
        (first_picks (encode_row s.0) (encode_row s.1 ++ new) w (row_long s.0 v.0)) in
        ap (kept (run 0 w ++ three_places (w + w))) taken_grown
        ∙ kept_are row (run 0 w ++ three_places (w + w)) (encode_row s.0 ++ new)
        (picks_more row (run 0 w) (three_places (w + w)) (encode_row s.0) new first
        (pick_three cl cg cm row (w + w) (share s.0 s.1) (ends_past cl cg cm (joined s) [] (w + w) (share s.0 s.1) joined_long)))
