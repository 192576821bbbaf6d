-- Lists that have one item for each group, by the group's place. One thing more is put in at a place, which is a new one
-- behind the others where it is past the last.
use Rattle.std.specs.Prelude.{ℕ, zero, suc, List, [], ◌∷◌}

-- what is first made of a thing, and what one more makes of an item
abbrev pub put_at : {A S : Type 0} → (A → S) → (S → A → S) → List S → ℕ → A → List S
put_at first more [] place x = first x ∷ []
put_at first more (s ∷ ss) zero x = more s x ∷ ss
put_at first more (s ∷ ss) (suc place) x = s ∷ put_at first more ss place x

-- several things, each at its place, one after the other
abbrev pub put_all : {A S : Type 0} → (A → S) → (S → A → S) → List S → List ℕ → List A → List S
put_all first more ss [] xs = ss
put_all first more ss (place ∷ places) [] = ss
put_all first more ss (place ∷ places) (x ∷ xs) = put_all first more (put_at first more ss place x) places xs
