-- What a list in order shares with the list: what holds of each item, the sums over the items and the copies of rows.
use Rattle.std.specs.Prelude.{◌≡◌, ℕ, Bool, true, false, cond, List, [], ◌∷◌, map, sum_by}
use Rattle.std.specs.List.{AllByRecursion}
use Rattle.std.proofs.Common.{arith, refl, ◌∙◌, ap}
use Rattle.std.proofs.lemmas.List.Sums.{sum_by-cons}
use Rattle.au_value.specs.declared.value.Value.{Value}
use Rattle.au_algebra.specs.Lists.{insert_by, sorted_by, same_row}
use Rattle.au_algebra.specs.Ordinary.{Rows}
use Rattle.au_algebra.proofs.Occurring.{SameCopies}

module _ {A : Type 0} (le : A → A → Bool) where
  all_inserted_if : (P : A → Type 0) (b : Bool) (x y : A) (ys more : List A) → P x → AllByRecursion P (y ∷ ys) → AllByRecursion P more → AllByRecursion P (cond b (x ∷ y ∷ ys) (y ∷ more))
  all_inserted_if P true x y ys more p h k = (p, h)
  all_inserted_if P false x y ys more p h k = (h.0, k)

  -- what holds of each item and of one more holds of each where that one is put in
  pub all_inserted : (P : A → Type 0) (x : A) (ys : List A) → P x → AllByRecursion P ys → AllByRecursion P (insert_by le x ys)
  all_inserted P x [] p h = (p, tt)
  all_inserted P x (y ∷ ys) p h = all_inserted_if P (le x y) x y ys (insert_by le x ys) p h (all_inserted P x ys p h.1)

  -- what holds of each item holds of each in order
  pub all_sorted : (P : A → Type 0) (xs : List A) → AllByRecursion P xs → AllByRecursion P (sorted_by le xs)
  all_sorted P [] h = tt
  all_sorted P (x ∷ xs) h = all_inserted P x (sorted_by le xs) h.0 (all_sorted P xs h.1)

  sum_inserted_if : (f : A → ℕ) (b : Bool) (x y : A) (ys more : List A) → sum_by f more ≡ sum_by f (x ∷ ys) → sum_by f (cond b (x ∷ y ∷ ys) (y ∷ more)) ≡ sum_by f (x ∷ y ∷ ys)
  sum_inserted_if f true x y ys more e = refl
  sum_inserted_if f false x y ys more e =
      omega (arith, e, sum_by-cons f y more, sum_by-cons f x ys, sum_by-cons f x (y ∷ ys), sum_by-cons f y ys)

  sum_inserted : (f : A → ℕ) (x : A) (ys : List A) → sum_by f (insert_by le x ys) ≡ sum_by f (x ∷ ys)
  sum_inserted f x [] = refl
  sum_inserted f x (y ∷ ys) = sum_inserted_if f (le x y) x y ys (insert_by le x ys) (sum_inserted f x ys)

  -- a sum over the items in order
  pub sum_sorted : (f : A → ℕ) (xs : List A) → sum_by f (sorted_by le xs) ≡ sum_by f xs
  sum_sorted f [] = refl
  sum_sorted f (x ∷ xs) =
      omega (arith, sum_inserted f x (sorted_by le xs), sum_by-cons f x (sorted_by le xs), sum_by-cons f x xs, sum_sorted f xs)

-- rows in order are the rows in another order
pub same_sorted : (le : List Value → List Value → Bool) (rows : Rows) → SameCopies (sorted_by le rows) rows
same_sorted le rows v = sum_sorted le (λ row. cond (same_row v row) 1 0) rows

-- ---- mapped items

module _ {A B : Type 0} (f : A → B) (le : B → B → Bool) where
  map_inserted_if : (b : Bool) (x y : A) (ys more : List A) (rest : List B) → map f more ≡ rest → map f (cond b (x ∷ y ∷ ys) (y ∷ more)) ≡ cond b (f x ∷ f y ∷ map f ys) (f y ∷ rest)
  map_inserted_if true x y ys more rest e = refl
  map_inserted_if false x y ys more rest e = ap (λ l. f y ∷ l) e

  map_inserted : (x : A) (ys : List A) → map f (insert_by (λ a b. le (f a) (f b)) x ys) ≡ insert_by le (f x) (map f ys)
  map_inserted x [] = refl
  map_inserted x (y ∷ ys) =
      map_inserted_if (le (f x) (f y)) x y ys (insert_by (λ a b. le (f a) (f b)) x ys) (insert_by le (f x) (map f ys)) (map_inserted x ys)

  -- a map of items that are ordered by it
  pub map_sorted : (xs : List A) → map f (sorted_by (λ a b. le (f a) (f b)) xs) ≡ sorted_by le (map f xs)
  map_sorted [] = refl
  map_sorted (x ∷ xs) =
      map_inserted x (sorted_by (λ a b. le (f a) (f b)) xs) ∙ ap (insert_by le (f x)) (map_sorted xs)
