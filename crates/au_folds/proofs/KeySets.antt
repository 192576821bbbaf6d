-- Keys of a set, in whichever form, by their cells: where one stands, and what the set is with one more.
use Rattle.std.specs.Prelude.{◌≡◌, ◌+◌, ◌<◌, ℕ, zero, suc, Bool, true, false, cond, not, ◌&&◌, ◌||◌, List, [], ◌∷◌, ◌++◌, length, map, nat_lt, get_or, position, ℤ, Option, None, Some, is_some, unwrap_or}
use Rattle.std.specs.List.{AllByRecursion, IsDistinct, list_any, position_or_len}
use Rattle.std.specs.Ordering.{int_eq}
use Rattle.std.proofs.Common.{refl, sym, ◌∙◌, ap, subst, arith}
use Rattle.std.proofs.lemmas.Bool.Decides.{Decides-int_eq}
use Rattle.std.proofs.lemmas.List.{map-append}
use Rattle.indexmap.specs.IndexSet.{insert_key}
use Rattle.au_codes.specs.Codes.{Cells}
use Rattle.au_codes.specs.CellMeaning.{same_cells}
use Rattle.au_folds.specs.Known.{Finds}
use Rattle.au_folds.specs.Places.{place_of, seen_with}
use Rattle.au_folds.proofs.CellKeys.{itself, same, turned}

with_true : (b : Bool) → b ≡ b && true
with_true true = refl
with_true false = refl

-- one number is equal as a row of it is
pub single_is : (x y : ℤ) → int_eq x y ≡ same_cells (x ∷ []) (y ∷ [])
single_is x y = with_true (int_eq x y)

pub equal_single : (x y : ℤ) → int_eq x y ≡ true → same_cells (y ∷ []) (x ∷ []) ≡ true
equal_single x y e = ap (λ (z : ℤ). same_cells (y ∷ []) (z ∷ [])) ((Decides-int_eq x y).0 e) ∙ itself (y ∷ [])

module _ {K : Type 0} (cells : K → Cells) where
  module _ (test : K → Bool) (q : Cells) (agrees : (k : K) → test k ≡ same_cells q (cells k)) where
    pub any_is : (ks : List K) → list_any test ks ≡ list_any (same_cells q) (map cells ks)
    any_is [] = refl
    any_is (k ∷ ks) = λ i. agrees k i || any_is ks i

    pub place_is : (ks : List K) → position_or_len test ks ≡ place_of (map cells ks) q
    place_is [] = refl
    place_is (k ∷ ks) = λ i. cond (not (agrees k i)) (1 + place_is ks i) 0

    chosen : (b : Bool) (a place : ℕ) → Some place ≡ cond b (Some a) None → place ≡ a
    chosen true a place is = ap (λ (o : Option ℕ). unwrap_or o 0) is
    chosen false a place is = cc

    -- the place of a key that was found
    pub found : (ks : List K) (place : ℕ) → true ≡ list_any test ks → Some place ≡ position test ks
        → (list_any (same_cells q) (map cells ks) ≡ true) × (place ≡ place_of (map cells ks) q)
    found ks place seen at =
        let first = position_or_len test ks in
        (sym (seen ∙ any_is ks), chosen (nat_lt first (length ks)) first place at ∙ place_is ks)

    -- what a search for the key finds
    pub finds : (ks : List K) (result : Option ℕ) → result ≡ position test ks → is_some result ≡ list_any test ks → Finds (map cells ks) q result
    finds ks None at seen = sym (any_is ks) ∙ sym seen
    finds ks (Some place) at seen = found ks place seen at

  module _ (eq : K → K → Bool) (agrees : (x y : K) → eq x y ≡ same_cells (cells x) (cells y)) where
    -- one key more
    pub insert_is : (ks : List K) (k : K) → map cells (insert_key eq ks k) ≡ seen_with (map cells ks) (cells k)
    insert_is ks k =
        rw (any_is (eq k) (cells k) (agrees k) ks)
        (elim (list_any (same_cells (cells k)) (map cells ks)) as (λ b. map cells (cond b ks (ks ++ k ∷ [])) ≡ cond b (map cells ks) (map cells ks ++ cells k ∷ [])) [
          | true ↦ refl
          | false ↦ map-append cells ks (k ∷ [])
        ])

    at_place : (P : K → Type 0) (ks : List K) (p : ℕ) (k : K) → AllByRecursion P ks → p < length ks → k ≡ get_or ks p k → P k
    at_place P [] p k h below is = absurd (omega (arith, below))
    at_place P (x ∷ ks) zero k h below is = subst P (sym is) h.0
    at_place P (x ∷ ks) (suc p) k h below is = at_place P ks p k h.1 (omega (arith, below)) is

    next_place : (p : ℕ) → 1 + p ≡ suc p
    next_place p = omega arith

    -- a key that stands at a place: since none is there twice, it is its place
    pub stands : (q : Cells) (ks : List K) (p : ℕ) (k : K) → IsDistinct eq ks → p < length ks → k ≡ get_or ks p k → same_cells q (cells k) ≡ true
        → (list_any (same_cells q) (map cells ks) ≡ true) × (p ≡ place_of (map cells ks) q)
    unfolding IsDistinct
    stands q [] p k apart below is h = absurd (omega (arith, below))
    stands q (x ∷ ks) zero k apart below is h =
        let here : same_cells q (cells x) ≡ true = ap (λ (y : K). same_cells q (cells y)) (sym is) ∙ h in
        rw here (refl, refl)
    stands q (x ∷ ks) (suc p) k apart below is h =
        let more = stands q ks p k apart.1 (omega (arith, below)) is h in
        let other : eq x k ≡ false = at_place (λ (y : K). eq x y ≡ false) ks p k apart.0 (omega (arith, below)) is in
        let no : same_cells (cells k) (cells x) ≡ false = turned (cells k) (cells x) ∙ sym (agrees x k) ∙ other in
        let here : same_cells q (cells x) ≡ false = ap (λ (y : Cells). same_cells y (cells x)) (same q (cells k) h) ∙ no in
        rw here (more.0, ap suc more.1 ∙ sym (next_place (place_of (map cells ks) q)))
