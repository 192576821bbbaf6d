-- Lists with an item behind them.
use Rattle.std.specs.Prelude.{◌≡◌, List, [], ◌∷◌, ◌++◌, length}
use Rattle.std.proofs.Common.{arith, refl, ap}
use Rattle.std.proofs.lemmas.List.{length_push}

-- equal lists have equal fronts and equal last items
pub fronts : {A : Type 0} (xs ys : List A) (a b : A) → xs ++ a ∷ [] ≡ ys ++ b ∷ [] → (xs ≡ ys) × (a ≡ b)
fronts [] [] a b h = (refl, cc)
fronts [] (y ∷ ys) a b h = let never : ⊥ = omega (arith, ap length h, length_push ys b) in absurd never
fronts (x ∷ xs) [] a b h = let never : ⊥ = omega (arith, ap length h, length_push xs a) in absurd never
fronts (x ∷ xs) (y ∷ ys) a b h =
    let rest : xs ++ a ∷ [] ≡ ys ++ b ∷ [] = cc in
    let same = fronts xs ys a b rest in
    let first : x ≡ y = cc in
    (λ i. first i ∷ same.0 i, same.1)
