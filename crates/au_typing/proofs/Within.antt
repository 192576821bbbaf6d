-- Items of the list of one item.
use Rattle.std.proofs.Common.{◌≡◌, ℕ, zero, suc, ◌<◌, List, [], ◌∷◌, length, get_or, subst, arith}
use Rattle.std.specs.Prelude.{Contains, flat_map}
use Rattle.std.proofs.lemmas.List.Elements.{Contains-append_left, Contains-append_right}

-- what one item gives is given by all
pub Contains-flat_map : {X A : Type 0} (f : X → List A) (xs : List X) (k : ℕ) (x : X) (y : A) → k < length xs → x ≡ get_or xs k x → Contains (f x) y → Contains (flat_map f xs) y
Contains-flat_map f [] k x y within is there = absurd (omega arith)
Contains-flat_map f (z ∷ zs) zero x y within is there = Contains-append_left (f z) (flat_map f zs) y (subst (λ v. Contains (f v) y) is there)
Contains-flat_map f (z ∷ zs) (suc k) x y within is there = Contains-append_right (f z) (flat_map f zs) y (Contains-flat_map f zs k x y (omega arith) is there)
