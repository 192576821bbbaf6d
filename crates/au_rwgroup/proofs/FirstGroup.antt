-- The rows of the first grouping: each box with the triple of its group, and the further aggregates.
use Rattle.std.specs.Prelude.{◌≡◌, ℕ, zero, suc, ◌+◌, ◌*◌, Bool, true, false, ◌&&◌, List, [], ◌∷◌, ◌++◌, length, pos, nat_le, Option, if◌then◌else◌}
use Rattle.std.specs.Prelude.{Some as present}
use Rattle.std.proofs.Common.{arith, refl, sym, ◌∙◌, ap}
use Rattle.std.proofs.Math.Bool.{and-true}
use Rattle.au_value.specs.declared.value.Value.{Value}
use Rattle.au_value.specs.declared.value.Value.TheVariants as value
use Rattle.au_value.specs.Order.{equal, below}
use Rattle.au_value.specs.Ranges.{Span, IsRangeOf, all_certain}
use Rattle.au_expr.specs.Ordinary as on_values
use Rattle.au_expr.specs.Ordinary.{is_true}
use Rattle.au_algebra.specs.Bounded.{RangeRow}
use Rattle.au_algebra.specs.Laws.{IsRangeRow}
use Rattle.au_encode.specs.Encode.{encode_row}
use Rattle.au_encode.proofs.Decoded.{cells_length}
use Rattle.au_rwgroup.specs.Groups.{all_sure, group_columns}
use Rattle.au_rwexpr.proofs.Places.{EndsOfAll, all_ends_more}
use Rattle.au_rwexpr.proofs.Columns.{adds, AllMean}
use Rattle.au_rwexpr.proofs.OnValues.{reading, Has, lo_has, hi_has, column_has}
use Rattle.au_rwexpr.proofs.Picks.{coded_cells, coded_triple, coded_long}
use Rattle.au_rwexpr.specs.Adding.{grow}
use Rattle.au_rwexpr.proofs.Gives.{grow_is}
use Rattle.au_rwexpr.proofs.Flags.{counted, flag_counted, below_zero}
use Rattle.au_rwexpr.proofs.Coded.{rl, rs, rh, cl, cg, cm}
use Rattle.au_rwgroup.proofs.KeyReading.{KeyReading}

-- the test of certain ranges has its value
pub sure_has : (row : List Value) (i k : ℕ) (xs : List Span) → length xs ≡ k → EndsOfAll rl rs rh row i xs → Has row (all_sure i k) (value.Flag (all_certain xs))
sure_has row i zero [] e z = λ more. refl
sure_has row i (suc k) [] e z = let never : ⊥ = omega (arith, e) in absurd never
sure_has row i zero (x ∷ xs) e z = let never : ⊥ = omega (arith, e) in absurd never
sure_has row i (suc zero) (x ∷ []) e z =
    λ more. (λ j. value.Flag (equal (lo_has row i x z.0 more j) (hi_has row i x z.0 more j))) ∙ ap value.Flag (sym (and-true (equal x.lo x.hi)))
sure_has row i (suc zero) (x ∷ y ∷ xs) e z = let never : ⊥ = omega (arith, e) in absurd never
sure_has row i (suc (suc k)) (x ∷ xs) e z =
    let rest = sure_has row (i + 3) (suc k) xs (omega (arith, e)) z.1 in
    λ more. λ j. value.Flag (equal (lo_has row i x z.0 more j) (hi_has row i x z.0 more j) && is_true (rest more j))

module _ (by : KeyReading) where
  abbrev c : ℕ
  c = length by.ks

  abbrev n : ℕ
  n = 3 * c + 3

  abbrev pub surely : RangeRow → Bool
  surely r = all_certain (by.keys r.cells)

  abbrev pub surely_least : RangeRow → Bool
  surely_least r = all_certain (by.keys r.cells) && nat_le 1 r.annot.least

  abbrev pub guessed : RangeRow → Bool
  guessed r = nat_le 1 r.annot.guess

  -- what it adds
  abbrev pub new : RangeRow → List Value
  new r = counted (surely_least r) ∷ counted (guessed r) ∷ value.Int (pos (if surely r then 0 else r.annot.most)) ∷ counted (surely r) ∷ []

  -- an encoded row with what it adds to the triple of its group
  abbrev pub wide : RangeRow → List Value
  wide r = encode_row r ++ new r

  pub cells_there : (r : RangeRow) → IsRangeRow by.ks r → EndsOfAll rl rs rh (encode_row r) 0 r.cells
  cells_there r v = coded_cells rl rs rh cl cg cm c r.cells r.annot (cells_length IsRangeOf by.ks r.cells v.cells)

  row_long : (r : RangeRow) → IsRangeRow by.ks r → length (encode_row r) ≡ n
  row_long r v = coded_long rl rs rh cl cg cm c r.cells r.annot (cells_length IsRangeOf by.ks r.cells v.cells)

  -- its cells by their places
  pub wide_cells : (r : RangeRow) → IsRangeRow by.ks r → EndsOfAll rl rs rh (wide r) 0 r.cells
  wide_cells r v = all_ends_more rl rs rh (encode_row r) (new r) 0 r.cells (cells_there r v)

  pub wide_there : (r : RangeRow) → IsRangeRow by.ks r → EndsOfAll rl rs rh (wide r) 0 (by.keys r.cells)
  wide_there r v = by.shifted r v (wide r) 0 (all_ends_more rl rs rh (encode_row r) (new r) 0 r.cells (cells_there r v))

  most_unless : (b : Bool) (m : ℕ) → (if b then value.Int (pos 0) else value.Int (pos m)) ≡ value.Int (pos (if b then 0 else m))
  most_unless true m = refl
  most_unless false m = refl

  abbrev reading_of : Bool → Option Value
  reading_of b = present (if b then value.Int (pos 1) else value.Int (pos 0))

  -- what the columns hold
  pub new_mean : (r : RangeRow) → IsRangeRow by.ks r → AllMean reading (encode_row r) (group_columns c by.k) (new r)
  new_mean r v =
      let row = encode_row r in
      let t = coded_triple rl rs rh cl cg cm c r.cells r.annot (cells_length IsRangeOf by.ks r.cells v.cells) in
      let sure = sure_has row 0 by.k (by.keys r.cells) (by.long r v) (by.shifted r v row 0 (cells_there r v)) in
      let l = column_has row (3 * c) (cl r.annot) t.lo in
      let g = column_has row (3 * c + 1) (cg r.annot) t.sg in
      let m = column_has row (3 * c + 2) (cm r.annot) t.hi in (
        (λ more.
            (λ i. reading_of (is_true (sure more i) && below (value.Int (pos 0)) (l more i)))
            ∙ (λ i. reading_of (surely r && below_zero r.annot.least i))
            ∙ ap present (flag_counted (surely_least r))),
        (
          (λ more. (λ i. reading_of (below (value.Int (pos 0)) (g more i))) ∙ (λ i. reading_of (below_zero r.annot.guess i)) ∙ ap present (flag_counted (guessed r))),
          (
            (λ more. (λ i. present (on_values.choose (sure more i) (value.Int (pos 0)) (m more i))) ∙ ap present (most_unless (surely r) r.annot.most)),
            ((λ more. (λ i. reading_of (is_true (sure more i))) ∙ ap present (flag_counted (surely r))), tt),
          ),
        ),
      )

  -- an encoded row grows by them
  pub grown : (r : RangeRow) → IsRangeRow by.ks r → grow (group_columns c by.k) (encode_row r) ≡ wide r
  grown r v =
      let row = encode_row r in grow_is (group_columns c by.k) row (wide r) (adds reading row (group_columns c by.k) (new r) (new_mean r v))
