-- Lists by a test of equality.
use Rattle.std.specs.Prelude.{Bool, not, List, [], ◌∷◌, filter}

-- each item once, where it is first seen
abbrev pub distinct : {A : Type 0} → (A → A → Bool) → List A → List A
distinct eq [] = []
distinct eq (x ∷ xs) = x ∷ filter (λ y. not (eq x y)) (distinct eq xs)
