-- Columns that are made of columns which have what functions give.
use Rattle.std.specs.Prelude.{◌≡◌, ◌<◌, Bool, true, false, not, List, [], length, get_or, replicate, ℤ, pos, ◌-ℤ◌, neg_ℤ, Option, Some, if◌then◌else◌}
use Rattle.std.specs.Ordering.{int_eq}
use Rattle.std.proofs.Common.{refl, sym, ap, ◌∙◌, arith}
use Rattle.std.proofs.lemmas.Int.{ints}
use Rattle.std.proofs.lemmas.List.{get_or-replicate, length-replicate}
use Rattle.au_value.specs.declared.extreme.Extreme.{Extreme as Which}
use Rattle.au_plain.specs.declared.expr.Comparison2.TheVariants.{Equal}
use Rattle.au_codes.specs.Codes.{Cells, CellRows, flag}
use Rattle.au_codes.specs.CellMeaning.{truth}
use Rattle.au_codes.specs.Careful.{extreme_number, fitting, from_both, from_one}
use Rattle.au_columns.specs.declared.step.Arithmetic.{Arithmetic}
use Rattle.au_columns.specs.declared.step.Arithmetic.TheVariants.{Extreme, Subtract}
use Rattle.au_columns.specs.declared.step.Test.{Test}
use Rattle.au_columns.specs.declared.step.Test.TheVariants.{Compare}
use Rattle.au_columns.specs.Steps.{AllFit, Chosen, Tested, Worked, number_at, tested, worked}
use Rattle.au_columns.specs.Evaluated.{Gives}
use Rattle.au_columns.proofs.Held.{held_fits}

fits_again : (z w : ℤ) → z ≡ w → Some z ≡ fitting z → fitting w ≡ Some z
fits_again z w e h = ap fitting (sym e) ∙ sym h

module _ (f g : Cells → Option ℤ) (rows : CellRows) (xs ys zs : List ℤ) (x : Gives f rows xs) (y : Gives g rows ys) where
  pub made_worked : (how : Arithmetic) → Worked how xs ys zs → AllFit zs → Gives (λ row. from_both (λ m n. fitting (worked how m n)) (f row) (g row)) rows zs
  made_worked how made fits =
      let lx = x.len in
      let lz = made.len in
      record {
        len = lz ∙ lx;
        each = λ i below.
            let at : i < length xs = omega (arith, lx, below) in
            let there : i < length zs = omega (arith, lz, at) in
            (λ j. from_both (λ m n. fitting (worked how m n)) (x.each i below j) (y.each i below j))
            ∙ fits_again (number_at zs i) (worked how (number_at xs i) (number_at ys i)) (made.each i at) (held_fits (number_at zs i) (fits i there));
      }

  pub made_extreme : (how : Which) → Worked (Extreme how) xs ys zs → Gives (λ row. from_both (λ m n. Some (extreme_number how m n)) (f row) (g row)) rows zs
  made_extreme how made =
      let lx = x.len in
      record {
        len = made.len ∙ lx;
        each = λ i below.
            let at : i < length xs = omega (arith, lx, below) in
            (λ j. from_both (λ m n. Some (extreme_number how m n)) (x.each i below j) (y.each i below j)) ∙ ap Some (sym (made.each i at));
      }

  pub made_tested : (how : Test) → Tested how xs ys zs → Gives (λ row. from_both (λ m n. Some (tested how m n)) (f row) (g row)) rows zs
  made_tested how made =
      let lx = x.len in
      record {
        len = made.len ∙ lx;
        each = λ i below.
            let at : i < length xs = omega (arith, lx, below) in
            (λ j. from_both (λ m n. Some (tested how m n)) (x.each i below j) (y.each i below j)) ∙ ap Some (sym (made.each i at));
      }

  branch : (b : Bool) (m n : ℤ) → (if b then Some m else Some n) ≡ Some (if b then m else n)
  branch true m n = refl
  branch false m n = refl

  pub made_chosen : (h : Cells → Option ℤ) (cs : List ℤ) → Gives h rows cs → Chosen cs xs ys zs → Gives (λ row. from_one (λ m. if truth m then f row else g row) (h row)) rows zs
  made_chosen h cs c made =
      let lc = c.len in
      record {
        len = made.len ∙ lc;
        each = λ i below.
            let at : i < length cs = omega (arith, lc, below) in
            (λ j. from_one (λ m. if truth m then x.each i below j else y.each i below j) (c.each i below j))
            ∙ branch (truth (number_at cs i)) (number_at xs i) (number_at ys i) ∙ ap Some (sym (made.each i at));
      }

module _ (f : Cells → Option ℤ) (rows : CellRows) (xs zs : List ℤ) (x : Gives f rows xs) where
  abbrev zeros : List ℤ
  zeros = replicate (length rows) (pos 0)

  below_zero : (z : ℤ) → pos 0 -ℤ z ≡ neg_ℤ z
  below_zero z = omega (arith, ints)

  pub made_negated : Worked Subtract zeros xs zs → AllFit zs → Gives (λ row. from_one (λ m. fitting (neg_ℤ m)) (f row)) rows zs
  made_negated made fits =
      let n = length-replicate (length rows) (pos 0) in
      let lz = made.len in
      record {
        len = lz ∙ n;
        each = λ i below.
            let at : i < length zeros = omega (arith, n, below) in
            let there : i < length zs = omega (arith, lz, at) in
            let is : number_at zs i ≡ neg_ℤ (number_at xs i) =
            made.each i at ∙ ap (λ z. z -ℤ number_at xs i) (get_or-replicate (length rows) i (pos 0) (pos 0) below) ∙ below_zero (number_at xs i) in
            ap (from_one (λ m. fitting (neg_ℤ m))) (x.each i below) ∙ fits_again (number_at zs i) (neg_ℤ (number_at xs i)) is (held_fits (number_at zs i) (fits i there));
      }

  twice : (b : Bool) → not (not b) ≡ b
  twice true = refl
  twice false = refl

  pub made_opposite : Tested (Compare Equal) xs zeros zs → Gives (λ row. from_one (λ m. Some (flag (not (truth m)))) (f row)) rows zs
  made_opposite made =
      let lx = x.len in
      record {
        len = made.len ∙ lx;
        each = λ i below.
            let at : i < length xs = omega (arith, lx, below) in
            let is : number_at zs i ≡ flag (not (truth (number_at xs i))) =
            made.each i at ∙ ap (λ z. flag (int_eq (number_at xs i) z)) (get_or-replicate (length rows) i (pos 0) (pos 0) below) ∙ ap flag (sym (twice (int_eq (number_at xs i) (pos 0)))) in
            ap (from_one (λ m. Some (flag (not (truth m))))) (x.each i below) ∙ ap Some (sym is);
      }

-- functions that give the same
pub gives_same : (f g : Cells → Option ℤ) (rows : CellRows) (zs : List ℤ) → ((row : Cells) → g row ≡ f row) → Gives f rows zs → Gives g rows zs
gives_same f g rows zs same given = record { len = given.len; each = λ i below. same (get_or rows i []) ∙ given.each i below }

-- a number for each row
pub made_constant : (f : Cells → Option ℤ) (rows : CellRows) (z : ℤ) (zs : List ℤ) → ((row : Cells) → f row ≡ Some z) → zs ≡ replicate (length rows) z → Gives f rows zs
made_constant f rows z zs is e = record {
  len = ap length e ∙ length-replicate (length rows) z;
  each = λ i below. is (get_or rows i []) ∙ ap Some (sym (ap (λ l. number_at l i) e ∙ get_or-replicate (length rows) i z (pos 0) below));
}
