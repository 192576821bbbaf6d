-- A row in a new group, or in the group at a place.
use Rattle.std.specs.Prelude.{Vec}
use Rattle.std.specs.declared.alloc.Global.{Global}
use Rattle.std.proofs.Common.{◌≡◌, ◌∙◌, ℕ, zero, suc, ◌<◌, List, [], ◌∷◌, ◌++◌, length, get_or, set, refl, ap, arith}
use Rattle.au_algebra.specs.Bounded.{RangeRow, Bounded}
use Rattle.au_algebra.specs.Keys.{with_item_at}
use Rattle.au_kfull.specs.SameGuesses.{groups_held}

abbrev pub Held : Type 0
Held = Vec RangeRow Global

pub at_end : (groups : List Bounded) (place : ℕ) (row : RangeRow) → place ≡ length groups → groups ++ (row ∷ []) ∷ [] ≡ with_item_at groups place row
at_end [] place row e = refl
at_end (g ∷ groups) zero row e = absurd (omega (arith, e))
at_end (g ∷ groups) (suc place) row e = ap (λ gs. g ∷ gs) (at_end groups place row (omega (arith, e)))

pub at_place : (held : List Held) (place : ℕ) (row : RangeRow) (old new : Held) → place < length held → old ≡ get_or held place old → new.items ≡ old.items ++ row ∷ []
    → groups_held (set held place new) ≡ with_item_at (groups_held held) place row
at_place [] place row old new below is more = absurd (omega (arith, below))
at_place (h ∷ held) zero row old new below is more = ap (λ g. g ∷ groups_held held) (more ∙ ap (λ (x : Held). x.items ++ row ∷ []) is)
at_place (h ∷ held) (suc place) row old new below is more = ap (λ gs. h.items ∷ gs) (at_place held place row old new (omega (arith, below)) is more)
