-- What the rows of a fold add to sums, and what they offer to MIN and MAX, where they are alike.
use Rattle.std.specs.Prelude.{◌≡◌, ◌≤◌, ◌<◌, ◌≤ℤ◌, ℕ, zero, suc, ◌*◌, Bool, true, false, [], ◌∷◌, length, map, ℤ, pos, negsuc, neg_ℤ, ◌+ℤ◌, ◌*ℤ◌, nat_abs, int_lt, if◌then◌else◌}
use Rattle.std.specs.List.{AllByRecursion}
use Rattle.std.proofs.Common.{arith, refl, sym, ◌∙◌, ap}
use Rattle.std.proofs.Math.IntN.{+ℤ_idl, zero-*ℤ}
use Rattle.std.proofs.lemmas.Bool.{le-ltb, true≢false}
use Rattle.std.proofs.lemmas.Int.{ints}
use Rattle.std.proofs.lemmas.Nat.{mul-le}
use Rattle.au_value.specs.declared.value.Value.{Value}
use Rattle.au_value.specs.declared.value.Value.TheVariants as value
use Rattle.au_expr.specs.Ordinary.{add, number}
use Rattle.au_algebra.specs.Lists.{int_sum, least, greatest}
use Rattle.au_algebra.specs.Bounded.{RangeRow, Bounded, Grouped, lower_term, upper_term, range_at}
use Rattle.au_algebra.proofs.Extremes.{least_among, greatest_among}
use Rattle.au_rwgroup.proofs.FoldRows.{low_term, high_term, sure_low_term, sure_high_term, summed}

-- ---- least and greatest of rows that are alike

pub greatest_all : (f : RangeRow → Value) (v : Value) (xs : Bounded) → 0 < length xs → AllByRecursion (λ r. f r ≡ v) xs → greatest (map f xs) ≡ v
greatest_all f v xs some all = greatest_among f (λ u. u ≡ v) xs all some

pub least_all : (f : RangeRow → Value) (v : Value) (xs : Bounded) → 0 < length xs → AllByRecursion (λ r. f r ≡ v) xs → least (map f xs) ≡ v
least_all f v xs some all = least_among f (λ u. u ≡ v) xs all some

module _ (t : RangeRow → Bool) where
  chosen : {A : Type 0} (v : RangeRow → A) (d : A) (b : Bool) (xs : Bounded) → AllByRecursion (λ r. t r ≡ b) xs → AllByRecursion (λ r. (if t r then v r else d) ≡ (if b then v r else d)) xs
  chosen v d b [] all = tt
  chosen v d b (r ∷ xs) all = ((λ i. if all.0 i then v r else d), chosen v d b xs all.1)

  same_values : {A : Type 0} (v : RangeRow → A) (d : A) (b : Bool) (xs : Bounded) → AllByRecursion (λ r. t r ≡ b) xs → map (λ r. if b then v r else d) xs ≡ map (λ r. if t r then v r else d) xs
  same_values v d b [] all = refl
  same_values v d b (r ∷ xs) all = λ i. (if sym all.0 i then v r else d) ∷ same_values v d b xs all.1 i

  pub least_if_all : (v : RangeRow → Value) (d : Value) (b : Bool) (xs : Bounded) → 0 < length xs → AllByRecursion (λ r. t r ≡ b) xs → (if b then least (map v xs) else d) ≡ least (map (λ r. if t r then v r else d) xs)
  least_if_all v d true xs some all = ap least (same_values v d true xs all)
  least_if_all v d false xs some all = sym (least_all (λ r. if t r then v r else d) d xs some (chosen v d false xs all))

  pub greatest_if_all : (v : RangeRow → Value) (d : Value) (b : Bool) (xs : Bounded) → 0 < length xs → AllByRecursion (λ r. t r ≡ b) xs → (if b then greatest (map v xs) else d) ≡ greatest (map (λ r. if t r then v r else d) xs)
  greatest_if_all v d true xs some all = ap greatest (same_values v d true xs all)
  greatest_if_all v d false xs some all = sym (greatest_all (λ r. if t r then v r else d) d xs some (chosen v d false xs all))

  -- ---- sums over rows that are alike

  no_sum : (xs : Bounded) → int_sum (map (λ r. pos 0) xs) ≡ pos 0
  no_sum [] = refl
  no_sum (x ∷ xs) = +ℤ_idl (int_sum (map (λ r. pos 0) xs)) ∙ no_sum xs

  pub summed_if : (f : RangeRow → ℤ) (b : Bool) (xs : Bounded) → AllByRecursion (λ r. t r ≡ b) xs → (if b then summed f xs else value.Int (pos 0)) ≡ summed (λ r. if t r then f r else pos 0) xs
  summed_if f true xs all = λ i. value.Int (int_sum (same_values f (pos 0) true xs all i))
  summed_if f false xs all = (λ i. value.Int (sym (no_sum xs) i)) ∙ (λ i. value.Int (int_sum (same_values f (pos 0) false xs all i)))

  both_sums : (f g : RangeRow → ℤ) (xs : Bounded) → int_sum (map f xs) +ℤ int_sum (map g xs) ≡ int_sum (map (λ r. f r +ℤ g r) xs)
  both_sums f g [] = refl
  both_sums f g (x ∷ xs) = omega (arith, ints, both_sums f g xs)

  by_branch : (f g h : RangeRow → ℤ) → ((r : RangeRow) → h r ≡ (if t r then f r +ℤ g r else f r)) → (b : Bool) (xs : Bounded) → AllByRecursion (λ r. t r ≡ b) xs → map (λ r. if b then f r +ℤ g r else f r) xs ≡ map h xs
  by_branch f g h is b [] all = refl
  by_branch f g h is b (r ∷ xs) all =
      let one : (if b then f r +ℤ g r else f r) ≡ h r = (λ i. if sym all.0 i then f r +ℤ g r else f r) ∙ sym (is r) in
      λ i. one i ∷ by_branch f g h is b xs all.1 i

  -- the sum of what members give, of which one part counts for certain members alone
  pub sum_if_sure : (f g h : RangeRow → ℤ) → ((r : RangeRow) → h r ≡ (if t r then f r +ℤ g r else f r)) → (b : Bool) (xs : Bounded) → AllByRecursion (λ r. t r ≡ b) xs → (if b then add (summed f xs) (summed g xs) else summed f xs) ≡ summed h xs
  sum_if_sure f g h is true xs all = (λ i. value.Int (both_sums f g xs i)) ∙ (λ i. value.Int (int_sum (by_branch f g h is true xs all i)))
  sum_if_sure f g h is false xs all = λ i. value.Int (int_sum (by_branch f g h is false xs all i))

-- ---- the terms of a member are those of an uncertain one, and besides those of a certain one

low_by : (below sure : Bool) (m k : ℕ) (z : ℤ) → (if below then pos m *ℤ z else pos (if sure then k else 0) *ℤ z) ≡ (if sure then (if below then pos m *ℤ z else pos 0 *ℤ z) +ℤ (if below then pos 0 *ℤ z else pos k *ℤ z) else (if below then pos m *ℤ z else pos 0 *ℤ z))
low_by true true m k z = let e = zero-*ℤ z in omega (arith, ints, e)
low_by true false m k z = refl
low_by false true m k z = let e = zero-*ℤ z in omega (arith, ints, e)
low_by false false m k z = refl

high_by : (below sure : Bool) (m k : ℕ) (z : ℤ) → (if below then pos (if sure then k else 0) *ℤ z else pos m *ℤ z) ≡ (if sure then (if below then pos 0 *ℤ z else pos m *ℤ z) +ℤ (if below then pos k *ℤ z else pos 0 *ℤ z) else (if below then pos 0 *ℤ z else pos m *ℤ z))
high_by true true m k z = let e = zero-*ℤ z in omega (arith, ints, e)
high_by true false m k z = refl
high_by false true m k z = let e = zero-*ℤ z in omega (arith, ints, e)
high_by false false m k z = refl

pub lower_is : (g : Grouped) (d : ℕ) (r : RangeRow) → lower_term g d r ≡ (if g.is_certain_member r then low_term d r +ℤ sure_low_term d r else low_term d r)
lower_is g d r = let lo = number (range_at d r).lo in low_by (int_lt lo (pos 0)) (g.is_certain_member r) r.annot.most r.annot.least lo

pub upper_is : (g : Grouped) (d : ℕ) (r : RangeRow) → upper_term g d r ≡ (if g.is_certain_member r then high_term d r +ℤ sure_high_term d r else high_term d r)
upper_is g d r = let hi = number (range_at d r).hi in high_by (int_lt hi (pos 0)) (g.is_certain_member r) r.annot.most r.annot.least hi

-- ---- each is within the terms of a member of any group

magnitude_of : (m : ℕ) → nat_abs (neg_ℤ (pos m)) ≡ m
magnitude_of zero = refl
magnitude_of (suc m) = refl

size : (k : ℕ) (z : ℤ) → nat_abs (pos k *ℤ z) ≡ k * nat_abs z
size k (pos n) = refl
size k (negsuc n) = magnitude_of (k * suc n)

none : (z : ℤ) → nat_abs (pos 0 *ℤ z) ≡ 0
none z = ap nat_abs (zero-*ℤ z)

low_within_by : (below : Bool) (m k : ℕ) (z : ℤ) → nat_abs (if below then pos m *ℤ z else pos 0 *ℤ z) ≤ nat_abs (if below then pos m *ℤ z else pos k *ℤ z)
low_within_by true m k z = omega arith
low_within_by false m k z = omega (arith, none z)

high_within_by : (below : Bool) (m k : ℕ) (z : ℤ) → nat_abs (if below then pos 0 *ℤ z else pos m *ℤ z) ≤ nat_abs (if below then pos k *ℤ z else pos m *ℤ z)
high_within_by true m k z = omega (arith, none z)
high_within_by false m k z = omega arith

pub low_within : (g : Grouped) (d : ℕ) (r : RangeRow) → nat_abs (low_term d r) ≤ nat_abs (lower_term g d r)
low_within g d r = let lo = number (range_at d r).lo in low_within_by (int_lt lo (pos 0)) r.annot.most (if g.is_certain_member r then r.annot.least else 0) lo

pub high_within : (g : Grouped) (d : ℕ) (r : RangeRow) → nat_abs (high_term d r) ≤ nat_abs (upper_term g d r)
high_within g d r = let hi = number (range_at d r).hi in high_within_by (int_lt hi (pos 0)) r.annot.most (if g.is_certain_member r then r.annot.least else 0) hi

-- a number that is not below 0
not_below : (a : ℕ) → int_lt (pos a) (pos 0) ≡ false
not_below a = le-ltb a 0 (omega arith)

sure_low_if : (x y : Bool) (k m s a b : ℕ) → x ≡ false → y ≡ false → k ≤ m → a ≤ b → nat_abs (if x then pos 0 *ℤ pos a else pos k *ℤ pos a) ≤ nat_abs (if y then pos s *ℤ pos b else pos m *ℤ pos b)
sure_low_if true y k m s a b e f p q = absurd (true≢false e)
sure_low_if false true k m s a b e f p q = absurd (true≢false f)
sure_low_if false false k m s a b e f p q = mul-le k a m b p q

sure_low_by : (k m s : ℕ) (lo hi : ℤ) → k ≤ m → lo ≤ℤ hi → nat_abs (if int_lt lo (pos 0) then pos 0 *ℤ lo else pos k *ℤ lo) ≤ nat_abs (if int_lt hi (pos 0) then pos s *ℤ hi else pos m *ℤ hi)
sure_low_by k m s (pos a) (pos b) p q = sure_low_if (int_lt (pos a) (pos 0)) (int_lt (pos b) (pos 0)) k m s a b (not_below a) (not_below b) p (omega (arith, ints, q))
sure_low_by k m s (pos a) (negsuc b) p q = let never : ⊥ = omega (arith, ints, q) in absurd never
sure_low_by k m s (negsuc a) hi p q = omega (arith, none (negsuc a))

no_high : (x : Bool) (k b : ℕ) → x ≡ false → nat_abs (if x then pos k *ℤ pos b else pos 0 *ℤ pos b) ≡ 0
no_high true k b e = absurd (true≢false e)
no_high false k b e = none (pos b)

sure_high_by : (k m s : ℕ) (lo hi : ℤ) → k ≤ m → lo ≤ℤ hi → nat_abs (if int_lt hi (pos 0) then pos k *ℤ hi else pos 0 *ℤ hi) ≤ nat_abs (if int_lt lo (pos 0) then pos m *ℤ lo else pos s *ℤ lo)
sure_high_by k m s lo (pos b) p q = omega (arith, no_high (int_lt (pos b) (pos 0)) k b (not_below b))
sure_high_by k m s (pos a) (negsuc b) p q = let never : ⊥ = omega (arith, ints, q) in absurd never
sure_high_by k m s (negsuc a) (negsuc b) p q =
    let smaller : suc b ≤ suc a = omega (arith, ints, q) in
    omega (arith, size k (negsuc b), size m (negsuc a), mul-le k (suc b) m (suc a) p smaller)

pub sure_low_within : (g : Grouped) (d : ℕ) (r : RangeRow) → r.annot.least ≤ r.annot.most → number (range_at d r).lo ≤ℤ number (range_at d r).hi → nat_abs (sure_low_term d r) ≤ nat_abs (upper_term g d r)
sure_low_within g d r p q = sure_low_by r.annot.least r.annot.most (if g.is_certain_member r then r.annot.least else 0) (number (range_at d r).lo) (number (range_at d r).hi) p q

pub sure_high_within : (g : Grouped) (d : ℕ) (r : RangeRow) → r.annot.least ≤ r.annot.most → number (range_at d r).lo ≤ℤ number (range_at d r).hi → nat_abs (sure_high_term d r) ≤ nat_abs (lower_term g d r)
sure_high_within g d r p q = sure_high_by r.annot.least r.annot.most (if g.is_certain_member r then r.annot.least else 0) (number (range_at d r).lo) (number (range_at d r).hi) p q
