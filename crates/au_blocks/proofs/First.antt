-- The first defect of a list of defects that is judged item by item.
use Rattle.std.proofs.Common.{◌≡◌, ℕ, ◌+◌, ◌<◌, ◌≤◌, List, [], ◌∷◌, ◌++◌, length, get_or, drop, Some, None, refl}
use Rattle.std.specs.Prelude.{flat_map}
use Rattle.std.specs.List.{enumerate_from}
use Rattle.std.proofs.lemmas.List.{drop_more, drop_all}
use Rattle.au_blocks.specs.declared.faults.TableFault.{TableFault}
use Rattle.au_blocks.specs.Read.{first}

-- what stands before is no defect, and the first of the rest is that of the whole
pub first-behind : (xs ys : List TableFault) → first xs ≡ None → first (xs ++ ys) ≡ first ys
first-behind [] ys none = refl
first-behind (x ∷ xs) ys none = cc

-- a defect before the rest
pub first-before : (xs ys : List TableFault) (x : TableFault) → first xs ≡ Some x → first (xs ++ ys) ≡ Some x
first-before [] ys x some = cc
first-before (z ∷ xs) ys x some = some

-- an item without a defect
pub scan-more : {X : Type 0} (f : ℕ × X → List TableFault) (m : ℕ) (xs : List X) (i : ℕ) (d : X) → i < length xs → first (f (m, get_or xs i d)) ≡ None
    → first (flat_map f (enumerate_from m (drop i xs))) ≡ first (flat_map f (enumerate_from (m + 1) (drop (i + 1) xs)))
scan-more f m xs i d within none =
    rw (drop_more xs i d within) (first-behind (f (m, get_or xs i d)) (flat_map f (enumerate_from (m + 1) (drop (i + 1) xs))) none)

-- an item with a defect
pub scan-here : {X : Type 0} (f : ℕ × X → List TableFault) (m : ℕ) (xs : List X) (i : ℕ) (d : X) (x : TableFault) → i < length xs → first (f (m, get_or xs i d)) ≡ Some x
    → first (flat_map f (enumerate_from m (drop i xs))) ≡ Some x
scan-here f m xs i d x within some =
    rw (drop_more xs i d within) (first-before (f (m, get_or xs i d)) (flat_map f (enumerate_from (m + 1) (drop (i + 1) xs))) x some)

-- no item more
pub scan-end : {X : Type 0} (f : ℕ × X → List TableFault) (m : ℕ) (xs : List X) (i : ℕ) → length xs ≤ i → first (flat_map f (enumerate_from m (drop i xs))) ≡ None
scan-end f m xs i past = rw (drop_all i xs past) refl
