-- Rows in another order decode to rows with the same normal form.
use Rattle.std.specs.Prelude.{◌≡◌, ℕ, ◌<◌, Bool, true, false, cond, List, [], ◌∷◌}
use Rattle.std.specs.List.Sorted.{IsPermutation}
use Rattle.std.proofs.Common.{arith, refl, sym, subst}
use Rattle.std.proofs.lemmas.List.Sorted.{IsPermutation-refl, IsPermutation-trans, IsPermutation-cons, IsPermutation-middle, IsPermutation-map, IsPermutation-sym}
use Rattle.au_value.specs.declared.value.Value.{Value}
use Rattle.au_algebra.specs.Bounded.{normal}
use Rattle.au_algebra.specs.Lists.{copies, same_row, without}
use Rattle.au_algebra.specs.Ordinary.{Rows}
use Rattle.au_algebra.proofs.Copies.{copies-cons, counted_other, same_row_is, without_copies}
use Rattle.au_algebra.proofs.Occurring.{SameCopies, first_occurs}
use Rattle.au_compress.proofs.AnyOrder.{normal_same as normal_permuted}
use Rattle.au_encode.specs.Encode.{decode, decode_row}

-- a row that occurs may stand first
drawn_if :
    (b : Bool) (x y : List Value) (ys : Rows) → same_row x y ≡ b → 0 < copies x (y ∷ ys) →
    (0 < copies x ys → IsPermutation (x ∷ without same_row x ys) ys) → IsPermutation (x ∷ cond b ys (y ∷ without same_row x ys)) (y ∷ ys)
drawn_if true x y ys e some rest = subst (λ z. IsPermutation (z ∷ ys) (y ∷ ys)) (sym (same_row_is x y e)) (IsPermutation-refl (y ∷ ys))
drawn_if false x y ys e some rest =
    let others = without same_row x ys in
    IsPermutation-trans (x ∷ y ∷ others) (y ∷ x ∷ others) (y ∷ ys)
    (IsPermutation-sym (y ∷ x ∷ others) (x ∷ y ∷ others) (IsPermutation-middle (y ∷ []) x others))
    (IsPermutation-cons y (x ∷ others) ys (rest (omega (arith, some, copies-cons x y ys, counted_other x y e))))

drawn : (x : List Value) (ys : Rows) → 0 < copies x ys → IsPermutation (x ∷ without same_row x ys) ys
drawn x [] some = let never : ⊥ = omega (arith, some) in absurd never
drawn x (y ∷ ys) some = drawn_if (same_row x y) x y ys refl some (drawn x ys)

-- lists with the same copies have the same elements
pub permuted : (xs ys : Rows) → SameCopies xs ys → IsPermutation xs ys
permuted [] [] same = IsPermutation-refl []
permuted [] (y ∷ ys) same = let never : ⊥ = omega (arith, same y, first_occurs y ys) in absurd never
permuted (x ∷ xs) ys same =
    let others = without same_row x ys in
    let rest = permuted xs others (λ v. omega (arith, same v, copies-cons v x xs, without_copies x v ys)) in
    IsPermutation-trans (x ∷ xs) (x ∷ others) ys (IsPermutation-cons x xs others rest) (drawn x ys (omega (arith, same x, first_occurs x xs)))

-- rows in another order decode to rows in another order
pub decoded_same : (c : ℕ) (xs ys : Rows) → SameCopies xs ys → IsPermutation (decode c xs) (decode c ys)
decoded_same c xs ys same = IsPermutation-map (decode_row c) xs ys (permuted xs ys same)

-- the normal form of the rows that they decode to does not depend on their order
pub normal_same : (c : ℕ) (xs ys : Rows) → SameCopies xs ys → normal (decode c xs) ≡ normal (decode c ys)
normal_same c xs ys same = normal_permuted (decode c xs) (decode c ys) (decoded_same c xs ys same)
