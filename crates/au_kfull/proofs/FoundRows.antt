-- The rows that stand beside a key.
use Rattle.std.specs.Prelude.{◌≡◌, ◌+◌, suc, true, false, List, [], ◌∷◌, map}
use Rattle.std.specs.List.{list_any, position_or_len}
use Rattle.std.proofs.Common.{arith, refl, sym, ◌∙◌, ap, get_or, inl, inr}
use Rattle.std.proofs.lemmas.Bool.{cases_Bool}
use Rattle.au_value.specs.declared.value.Value.{Value}
use Rattle.au_value.specs.Lists.{distinct}
use Rattle.au_value.proofs.FirstSeen.{any-distinct}
use Rattle.au_algebra.specs.Bounded.{RangeRow, Bounded}
use Rattle.au_algebra.specs.Keys.{groups_by, with_key}
use Rattle.au_algebra.specs.Lists.{same_row}
use Rattle.au_algebra.specs.Ordinary.{Rows}
use Rattle.au_algebra.proofs.FirstSeen.{same, same_row-Decides}
use Rattle.au_algebra.proofs.RowGroups.{no-members}
use Rattle.au_kfull.specs.SameGuesses.{beside}

-- the group at the place of a key that is there
pub beside_at : (values : List Value) (keys : Rows) (groups : List Bounded) → list_any (same_row values) keys ≡ true → get_or groups (position_or_len (same_row values) keys) [] ≡ beside keys groups values
beside_at values [] groups h = cc
beside_at values (k ∷ keys) [] h = refl
beside_at values (k ∷ keys) (g ∷ groups) h =
    elim (cases_Bool (same_row values k)) [
      | inl here ↦ rw here refl
      | inr apart ↦
          let later : list_any (same_row values) keys ≡ true = rw apart at h in
          let next : 1 + position_or_len (same_row values) keys ≡ suc (position_or_len (same_row values) keys) = omega arith in
          rw (apart, next) (beside_at values keys groups later)
    ]

-- no row stands beside a key that is not there
pub beside_none : (values : List Value) (keys : Rows) (groups : List Bounded) → list_any (same_row values) keys ≡ false → [] ≡ beside keys groups values
beside_none values [] groups h = refl
beside_none values (k ∷ keys) [] h = refl
beside_none values (k ∷ keys) (g ∷ groups) h =
    elim (cases_Bool (same_row values k)) [
      | inl here ↦ let t : true ≡ false = rw here at h in cc
      | inr apart ↦
          let later : list_any (same_row values) keys ≡ false = rw apart at h in
          rw apart (beside_none values keys groups later)
    ]

module _ (key : RangeRow → List Value) (rows : Bounded) (x : RangeRow) where
  some_beside : (ks : Rows) → list_any (same_row (key x)) ks ≡ true → beside ks (map (with_key key rows) ks) (key x) ≡ with_key key rows (key x)
  some_beside [] h = cc
  some_beside (k ∷ ks) h =
      elim (cases_Bool (same_row (key x) k)) [
        | inl here ↦ rw here (ap (with_key key rows) (sym (same (key x) k here)))
        | inr apart ↦
            let later : list_any (same_row (key x)) ks ≡ true = rw apart at h in
            rw apart (some_beside ks later)
      ]

  -- beside a row's key stand the rows that have it
  pub rows_beside_key : beside (distinct same_row (map key rows)) (groups_by key rows) (key x) ≡ with_key key rows (key x)
  rows_beside_key =
      let ks = distinct same_row (map key rows) in
      elim (cases_Bool (list_any (same_row (key x)) ks)) [
        | inl here ↦ some_beside ks here
        | inr absent ↦
            sym (beside_none (key x) ks (groups_by key rows) absent)
            ∙ sym (no-members key rows x rows (sym (any-distinct same_row same_row-Decides (key x) (map key rows)) ∙ absent))
      ]
