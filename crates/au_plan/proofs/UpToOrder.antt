-- Lists of rows with the same copies: what operators of plans make of them, and which numbers they form.
use Rattle.std.specs.Prelude.{◌≡◌, ℕ, ◌<◌, Bool, cond, List, [], ◌∷◌, ◌++◌, map, filter, flat_map, sum_by, ℤ}
use Rattle.std.specs.List.{AllByRecursion}
use Rattle.std.proofs.Common.{arith, refl, sym, ◌∙◌, ap, subst}
use Rattle.std.proofs.lemmas.List.Sums.{sum_by-cons}
use Rattle.au_value.specs.declared.value.Value.{Value}
use Rattle.au_expr.specs.Figures.{Fit}
use Rattle.au_expr.proofs.Fits.{fit_both, fit_parts}
use Rattle.au_algebra.specs.Lists.{copies}
use Rattle.au_algebra.specs.Ordinary.{Rows}
use Rattle.au_algebra.proofs.Copies.{copies-append}
use Rattle.au_algebra.proofs.Each.{all_filter, all_append}
use Rattle.au_algebra.proofs.Occurring.{SameCopies, copies-filter, from_occurring, occurring, same_map, sum_same_copies}
use Rattle.au_algebra.proofs.Sorting.{same_sorted}
use Rattle.au_physical.specs.declared.physical.Bounds.{Bounds}
use Rattle.au_physical.specs.PhysicalMeaning.{by_range, pairs_where, range_at_most}

-- one after another
pub same_append : (xs ys us vs : Rows) → SameCopies xs us → SameCopies ys vs → SameCopies (xs ++ ys) (us ++ vs)
same_append xs ys us vs h k v =
    let a = h v in let b = k v in omega (arith, a, b, copies-append v xs ys, copies-append v us vs)

-- what passes a test
pub same_filter : (test : List Value → Bool) (xs ys : Rows) → SameCopies xs ys → SameCopies (filter test xs) (filter test ys)
same_filter test xs ys same v = copies-filter test v xs ∙ ap (λ n. cond (test v) n 0) (same v) ∙ sym (copies-filter test v ys)

copies-flat_map : (v : List Value) (f : List Value → Rows) (xs : Rows) → copies v (flat_map f xs) ≡ sum_by (λ x. copies v (f x)) xs
copies-flat_map v f [] = refl
copies-flat_map v f (x ∷ xs) =
    omega (arith, copies-append v (f x) (flat_map f xs), sum_by-cons (λ y. copies v (f y)) x xs, copies-flat_map v f xs)

equal_sums : (f g : List Value → ℕ) (xs : Rows) → ((x : List Value) → f x ≡ g x) → sum_by f xs ≡ sum_by g xs
equal_sums f g [] h = refl
equal_sums f g (x ∷ xs) h = omega (arith, h x, sum_by-cons f x xs, sum_by-cons g x xs, equal_sums f g xs h)

-- lists of rows for each row
pub same_flat_map : (f g : List Value → Rows) (xs ys : Rows) → ((x : List Value) → SameCopies (f x) (g x)) → SameCopies xs ys → SameCopies (flat_map f xs) (flat_map g ys)
same_flat_map f g xs ys h same v =
    copies-flat_map v f xs
    ∙ equal_sums (λ x. copies v (f x)) (λ x. copies v (g x)) xs (λ x. h x v)
    ∙ sum_same_copies (λ x. copies v (g x)) xs ys same
    ∙ sym (copies-flat_map v g ys)

-- the pairs of two lists
pub same_product : (xs ys us vs : Rows) → SameCopies xs us → SameCopies ys vs → SameCopies (flat_map (λ a. map (λ b. a ++ b) ys) xs) (flat_map (λ a. map (λ b. a ++ b) vs) us)
same_product xs ys us vs h k =
    same_flat_map (λ a. map (λ b. a ++ b) ys) (λ a. map (λ b. a ++ b) vs) xs us (λ a. same_map (λ b. a ++ b) ys vs k) h

-- the pairs that are chosen
pub same_pairs : (chosen : List Value → List Value → Bool) (xs ys us vs : Rows) → SameCopies xs us → SameCopies ys vs → SameCopies (pairs_where chosen xs ys) (pairs_where chosen us vs)
same_pairs chosen xs ys us vs h k =
    same_flat_map (λ a. map (λ b. a ++ b) (filter (chosen a) ys)) (λ a. map (λ b. a ++ b) (filter (chosen a) vs)) xs us
    (λ a. same_map (λ b. a ++ b) (filter (chosen a) ys) (filter (chosen a) vs) (same_filter (chosen a) ys vs k)) h

-- ---- rows ordered by a range

-- they are the rows in another order
pub same_by_range : (at : Bounds) (rows : Rows) → SameCopies (by_range at rows) rows
same_by_range at rows = same_sorted (range_at_most at) rows

-- ---- what holds of each row, and numbers that fit

-- what holds of each row holds of each of the same rows in another order
pub all_same : (P : List Value → Type 0) (xs ys : Rows) → SameCopies xs ys → AllByRecursion P ys → AllByRecursion P xs
all_same P xs ys same h = from_occurring P xs (λ v some. occurring P v ys h (subst (λ n. 0 < n) (same v) some))

-- numbers that fit are those of each row
pub each_fits : (f : List Value → List ℤ) (xs : Rows) → Fit (flat_map f xs) → AllByRecursion (λ x. Fit (f x)) xs
each_fits f [] h = tt
each_fits f (x ∷ xs) h = let p = fit_parts (f x) (flat_map f xs) h in (p.0, each_fits f xs p.1)

pub all_fit : (f : List Value → List ℤ) (xs : Rows) → AllByRecursion (λ x. Fit (f x)) xs → Fit (flat_map f xs)
all_fit f [] h = refl
all_fit f (x ∷ xs) h = fit_both (f x) (flat_map f xs) h.0 (all_fit f xs h.1)

-- the numbers of the same rows in another order
pub same_fit : (f : List Value → List ℤ) (xs ys : Rows) → SameCopies xs ys → Fit (flat_map f ys) → Fit (flat_map f xs)
same_fit f xs ys same h = all_fit f xs (all_same (λ x. Fit (f x)) xs ys same (each_fits f ys h))

module _ (P : List Value → Type 0) where
  all_parts : (xs ys : Rows) → AllByRecursion P (xs ++ ys) → AllByRecursion P xs × AllByRecursion P ys
  all_parts [] ys h = (tt, h)
  all_parts (x ∷ xs) ys h = let p = all_parts xs ys h.1 in ((h.0, p.0), p.1)

  all_changed : (g : List Value → List Value) (xs : Rows) → AllByRecursion P (map g xs) → AllByRecursion (λ x. P (g x)) xs
  all_changed g [] h = tt
  all_changed g (x ∷ xs) h = (h.0, all_changed g xs h.1)

  changed_all : (g : List Value → List Value) (xs : Rows) → AllByRecursion (λ x. P (g x)) xs → AllByRecursion P (map g xs)
  changed_all g [] h = tt
  changed_all g (x ∷ xs) h = (h.0, changed_all g xs h.1)

  -- what holds of each pair holds of those that are chosen
  pub all_chosen : (chosen : List Value → List Value → Bool) (xs ys : Rows) → AllByRecursion P (flat_map (λ a. map (λ b. a ++ b) ys) xs) → AllByRecursion P (pairs_where chosen xs ys)
  all_chosen chosen [] ys h = tt
  all_chosen chosen (a ∷ xs) ys h =
      let p = all_parts (map (λ b. a ++ b) ys) (flat_map (λ a. map (λ b. a ++ b) ys) xs) h in
      all_append P (map (λ b. a ++ b) (filter (chosen a) ys)) (pairs_where chosen xs ys)
      (changed_all (λ b. a ++ b) (filter (chosen a) ys) (all_filter (λ b. P (a ++ b)) (chosen a) ys (all_changed (λ b. a ++ b) ys p.0)))
      (all_chosen chosen xs ys p.1)
