-- The magnitudes of sums.
use Rattle.std.specs.Prelude.{◌≡◌, ◌≤◌, ℕ, ◌+◌, ◌-◌, ◌^◌, Bool, true, false, cond, List, [], ◌∷◌, map, filter, sum_by, unwrap_or, ℤ, pos, negsuc, nat_abs}
use Rattle.std.specs.List.{AllByRecursion}
use Rattle.std.proofs.Common.{arith, refl, sym, ◌∙◌}
use Rattle.std.proofs.lemmas.Bool.{and_parts, and_from, le-leb, leb-true, true≢false}
use Rattle.std.proofs.lemmas.List.Sums.{sum_by-cons}
use Rattle.au_value.specs.declared.value.Value.{Value}
use Rattle.au_value.specs.declared.value.Value.TheVariants as value
use Rattle.au_expr.specs.Figures.{Fit}
use Rattle.au_expr.specs.Ordinary.{number}
use Rattle.au_algebra.specs.Lists.{value_at}
use Rattle.au_rwexpr.proofs.Places.{At}

-- the magnitudes of a column of numbers
pub sum_made : {A : Type 0} (P : A → Type 0) (g : A → List Value) (i : ℕ) (f : A → ℤ) (xs : List A) → AllByRecursion P xs → ((x : A) → P x → At (g x) i (value.Int (f x))) → sum_by (λ row. nat_abs (number (value_at row i))) (map g xs) ≡ sum_by nat_abs (map f xs)
sum_made P g i f [] v at = refl
sum_made P g i f (x ∷ xs) v at =
    sum_by-cons (λ row. nat_abs (number (value_at row i))) (g x) (map g xs)
    ∙ (λ j. nat_abs (number (unwrap_or (at x v.0 j) (value.Int (pos 0)))) + sum_made P g i f xs v.1 at j)
    ∙ sym (sum_by-cons nat_abs (f x) (map f xs))

pub zeros : {A : Type 0} (xs : List A) → sum_by nat_abs (map (λ x. pos 0) xs) ≡ 0
zeros [] = refl
zeros (x ∷ xs) = omega (arith, sum_by-cons nat_abs (pos 0) (map (λ y. pos 0) xs), zeros xs)

-- the sum over made numbers
pub sizes_of : {A : Type 0} (f : A → ℤ) (xs : List A) → sum_by nat_abs (map f xs) ≡ sum_by (λ x. nat_abs (f x)) xs
sizes_of f [] = refl
sizes_of f (x ∷ xs) = omega (arith, sum_by-cons nat_abs (f x) (map f xs), sum_by-cons (λ y. nat_abs (f y)) x xs, sizes_of f xs)

-- a number whose magnitude is at most a count that fits
pub number_fits : (z : ℤ) (n : ℕ) → nat_abs z ≤ n → Fit (pos n ∷ []) → Fit (z ∷ [])
number_fits (pos m) n h f =
    let wide : n ≤ 2 ^ 127 - 1 = leb-true n (2 ^ 127 - 1) (and_parts _ _ f).0 in
    and_from _ _ (le-leb m (2 ^ 127 - 1) (let e : m ≤ 2 ^ 127 - 1 = omega (arith, h, wide) in e)) refl
number_fits (negsuc m) n h f =
    let wide : n ≤ 2 ^ 127 - 1 = leb-true n (2 ^ 127 - 1) (and_parts _ _ f).0 in
    and_from _ _ (and_from _ _ (le-leb m (2 ^ 127 - 1) (let e : m ≤ 2 ^ 127 - 1 = omega (arith, h, wide) in e)) refl) refl

-- each part of a sum is within it
pub each_within : {A : Type 0} (f : A → ℕ) (n : ℕ) (xs : List A) → sum_by f xs ≤ n → AllByRecursion (λ x. f x ≤ n) xs
each_within f n [] h = tt
each_within f n (x ∷ xs) h =
    let whole = sum_by-cons f x xs in
    (omega (arith, h, whole), each_within f n xs (let e : sum_by f xs ≤ n = omega (arith, h, whole) in e))

narrow_by : {A : Type 0} (f g : A → ℕ) (a b : Bool) (x : A) (ys zs : List A) → (a ≡ true → b ≡ true) → (a ≡ true → f x ≤ g x) → sum_by f ys ≤ sum_by g zs → sum_by f (cond a (x ∷ ys) ys) ≤ sum_by g (cond b (x ∷ zs) zs)
narrow_by f g true true x ys zs h k rest = omega (arith, k refl, rest, sum_by-cons f x ys, sum_by-cons g x zs)
narrow_by f g true false x ys zs h k rest = absurd (true≢false (sym (h refl)))
narrow_by f g false true x ys zs h k rest = omega (arith, rest, sum_by-cons g x zs)
narrow_by f g false false x ys zs h k rest = rest

-- a sum over fewer items of lesser numbers is less
pub sum_narrowed : {A : Type 0} (V : A → Type 0) (narrow wide : A → Bool) (f g : A → ℕ) (xs : List A) → AllByRecursion V xs → ((x : A) → V x → narrow x ≡ true → wide x ≡ true) → ((x : A) → V x → narrow x ≡ true → f x ≤ g x) → sum_by f (filter narrow xs) ≤ sum_by g (filter wide xs)
sum_narrowed V narrow wide f g [] v h k = omega arith
sum_narrowed V narrow wide f g (x ∷ xs) v h k =
    narrow_by f g (narrow x) (wide x) x (filter narrow xs) (filter wide xs) (h x v.0) (k x v.0) (sum_narrowed V narrow wide f g xs v.1 h k)
