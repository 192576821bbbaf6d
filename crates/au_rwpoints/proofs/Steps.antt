-- One range more in a list of places.
use Rattle.std.specs.Prelude.{◌≡◌, ℕ, zero, suc, ◌+◌, ◌-◌, ◌<◌, List, [], ◌∷◌, ◌++◌}
use Rattle.std.proofs.Common.{arith, ◌∙◌, ap, append_assoc}
use Rattle.au_rwpoints.specs.RowPlans.{guess_places}

-- the guess of a range, three times, and then those of the others
pub guesses_step : (ps : List ℕ) (p n : ℕ) → 0 < n → (ps ++ ((p + 1) ∷ (p + 1) ∷ (p + 1) ∷ [])) ++ guess_places (p + 3) (n - 1) ≡ ps ++ guess_places p n
guesses_step ps p zero h = let never : ⊥ = omega (arith, h) in absurd never
guesses_step ps p (suc n) h =
    ap (λ m. (ps ++ ((p + 1) ∷ (p + 1) ∷ (p + 1) ∷ [])) ++ guess_places (p + 3) m) (let e : suc n - 1 ≡ n = omega arith in e)
    ∙ append_assoc ps ((p + 1) ∷ (p + 1) ∷ (p + 1) ∷ []) (guess_places (p + 3) n)
