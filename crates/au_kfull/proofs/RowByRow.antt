-- A loop over rows: the row at hand, and those that are left.
use Rattle.std.specs.Prelude.{◌≡◌, ℕ, ◌+◌, ◌<◌, List, ◌∷◌, length, drop}
use Rattle.std.specs.List.{AllByRecursion}
use Rattle.std.proofs.Common.{get_or, sym, ◌∙◌, subst, add-one, drop-cons}
use Rattle.au_value.specs.declared.kinds.Kind.{Kind}
use Rattle.au_algebra.specs.Bounded.{RangeRow, Bounded}
use Rattle.au_kfull.specs.Keys.{kinds, HasKinds}

-- the item at hand, and those that are left
pub split_at : {A : Type 0} (xs : List A) (i : ℕ) (x : A) → i < length xs → x ≡ get_or xs i x → drop i xs ≡ x ∷ drop (i + 1) xs
split_at xs i x h e = drop-cons xs i x h ∙ (λ j. sym e j ∷ drop (sym (add-one i) j) xs)

-- the kinds of the row at hand, and of those that are left
pub kinds_at : (ks : List Kind) (rows : Bounded) (i : ℕ) (r : RangeRow) → i < length rows → r ≡ get_or rows i r → HasKinds ks (drop i rows) → (kinds r.cells ≡ ks) × HasKinds ks (drop (i + 1) rows)
kinds_at ks rows i r h e k = let both : HasKinds ks (r ∷ drop (i + 1) rows) = subst (HasKinds ks) (split_at rows i r h e) k in (both.0, both.1)
