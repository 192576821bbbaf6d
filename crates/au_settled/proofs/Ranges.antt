-- Lists of places, one place after the other.
use Rattle.std.specs.Prelude.{◌≡◌, ◌+◌, ◌-◌, ◌<◌, ℕ, zero, suc, List, [], ◌∷◌, ◌++◌}
use Rattle.std.specs.List.{range_with_len}
use Rattle.std.proofs.Common.{◌∙◌, ap, arith}
use Rattle.au_settled.specs.Places.{every_third}

-- one place more
range_more : (a n : ℕ) → range_with_len a (n + 1) ≡ range_with_len a n ++ (a + n) ∷ []
range_more a zero = (let here : a ≡ a + 0 = omega arith in ap (λ p. p ∷ []) here)
range_more a (suc n) =
    let one : suc n + 1 ≡ suc (n + 1) = omega arith in
    let last : (a + 1) + n ≡ a + suc n = omega arith in
    ap (range_with_len a) one ∙ ap (λ (ps : List ℕ). a ∷ ps) (range_more (a + 1) n ∙ ap (λ p. range_with_len (a + 1) n ++ p ∷ []) last)

pub range_next : (n : ℕ) → range_with_len 0 (n + 1) ≡ range_with_len 0 n ++ n ∷ []
range_next n = (let here : 0 + n ≡ n = omega arith in range_more 0 n ∙ ap (λ p. range_with_len 0 n ++ p ∷ []) here)

-- the first of several thirds
pub thirds_next : (i n : ℕ) → 0 < n → every_third i n ≡ i ∷ every_third (i + 3) (n - 1)
thirds_next i zero h = absurd (omega (arith, h))
thirds_next i (suc n) h =
    let third : suc (suc (suc i)) ≡ i + 3 = omega arith in
    let rest : n ≡ suc n - 1 = omega arith in
    λ k. i ∷ every_third (third k) (rest k)
