-- Numbers that fit, of rows one by one.
use Rattle.std.specs.Prelude.{◌≡◌, ◌≤◌, ℕ, ◌*◌, ◌-◌, ◌^◌, Bool, true, false, List, [], ◌∷◌, ◌++◌, ℤ, pos, if◌then◌else◌}
use Rattle.std.specs.List.{AllByRecursion}
use Rattle.std.proofs.Common.{arith, refl, subst}
use Rattle.std.proofs.lemmas.Bool.{and_parts, and_from, le-leb, leb-true}
use Rattle.std.proofs.lemmas.List.{append-nil}
use Rattle.std.proofs.lemmas.Nat.{mul-le}
use Rattle.au_value.specs.declared.value.Value.{Value}
use Rattle.au_expr.specs.Figures.{Fit}
use Rattle.au_algebra.specs.Bounded.{RangeRow}
use Rattle.au_plain.specs.PTerms.{PTerm}
use Rattle.au_plain.specs.PlanNumbers.{term_numbers}
use Rattle.au_rwexpr.proofs.Careful.{Fits}

-- the numbers of a row's triple
abbrev pub triple_of : RangeRow → List ℤ
triple_of r = pos r.annot.least ∷ pos r.annot.guess ∷ pos r.annot.most ∷ []

-- the numbers of an expression on a row, where they fit whatever is added to it
pub fits_now : (row : List Value) (e : PTerm) → Fits row e → Fit (term_numbers e row)
fits_now row e f = subst (λ r. Fit (term_numbers e r)) (append-nil row) (f [])

-- what holds of everything holds of each item
pub all_of : {A : Type 0} (P : A → Type 0) → ((x : A) → P x) → (xs : List A) → AllByRecursion P xs
all_of P h [] = tt
all_of P h (x ∷ xs) = (h x, all_of P h xs)

pub all_both : {A : Type 0} (P Q : A → Type 0) (xs : List A) → AllByRecursion P xs → AllByRecursion Q xs → AllByRecursion (λ x. P x × Q x) xs
all_both P Q [] p q = tt
all_both P Q (x ∷ xs) p q = ((p.0, q.0), all_both P Q xs p.1 q.1)

-- the items of two lists, one after the other
pub all_split : {A : Type 0} (P : A → Type 0) (xs ys : List A) → AllByRecursion P (xs ++ ys) → AllByRecursion P xs × AllByRecursion P ys
all_split P [] ys h = (tt, h)
all_split P (x ∷ xs) ys h = let p = all_split P xs ys h.1 in ((h.0, p.0), p.1)

count_fits : (n : ℕ) → n ≤ 2 ^ 127 - 1 → Fit (pos n ∷ [])
count_fits n h = and_from _ _ (le-leb n (2 ^ 127 - 1) h) refl

fitting_count : (n : ℕ) → Fit (pos n ∷ []) → n ≤ 2 ^ 127 - 1
fitting_count n f = leb-true n (2 ^ 127 - 1) (and_parts _ _ f).0

-- a count that is at most one that fits
pub lower_fits : (a m : ℕ) → a ≤ m → Fit (pos m ∷ []) → Fit (pos a ∷ [])
lower_fits a m h f = let q = fitting_count m f in count_fits a (omega (arith, h, q))

-- at most the left count of a product that fits, where the right one is not 0
pub factor_fits : (a m k : ℕ) → a ≤ m → 1 ≤ k → Fit (pos (m * k) ∷ []) → Fit (pos a ∷ [])
factor_fits a m k h p f =
    let wide : a * 1 ≤ m * k = mul-le a 1 m k h p in
    lower_fits a (m * k) (let e : a ≤ m * k = omega (arith, wide) in e) f

-- at most the right count, where the left one is not 0
pub other_fits : (b m k : ℕ) → b ≤ k → 1 ≤ m → Fit (pos (m * k) ∷ []) → Fit (pos b ∷ [])
other_fits b m k h p f =
    let wide : 1 * b ≤ m * k = mul-le 1 b m k p h in
    lower_fits b (m * k) (let e : b ≤ m * k = omega (arith, wide) in e) f

-- a count that is left where a condition holds
pub left_fits : (b : Bool) (n : ℕ) → b ≡ true → Fit (pos (n * (if b then 1 else 0)) ∷ []) → Fit (pos n ∷ [])
left_fits true n h f = subst (λ m. Fit (pos m ∷ [])) (let e : n * 1 ≡ n = omega arith in e) f
left_fits false n h f = cc
