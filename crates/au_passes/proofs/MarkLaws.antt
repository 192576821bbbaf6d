-- What marks say of places: which columns are marked, and where they are.
use Rattle.std.specs.Prelude.{◌≡◌, ◌<◌, ◌+◌, ◌==◌, ◌++◌, ℕ, zero, suc, Bool, true, false, cond, count_by, List, [], ◌∷◌, length, slice_get, slice_index, slice_set, Some, ◌≢◌, replicate}
use Rattle.std.specs.List.{AllByRecursion, range_with_len}
use Rattle.std.proofs.Common.{arith, refl, sym, ap, ◌∙◌, add-one, add-zero}
use Rattle.std.proofs.lemmas.Bool.Decides.{nat_tests}
use Rattle.std.proofs.lemmas.List.Sums.{sum_by-cons}
use Rattle.au_passes.specs.Reading.{at_least_one, is_marked, mark_all, places_from, ranks, read_places}

-- ---- marks

one_long : (marks : List Bool) (i : ℕ) → length (slice_set marks i true) ≡ length marks
one_long [] i = refl
one_long (b ∷ marks) zero = refl
one_long (b ∷ marks) (suc i) = ap suc (one_long marks i)

pub all_long : (is : List ℕ) (marks : List Bool) → length (mark_all is marks) ≡ length marks
all_long [] marks = refl
all_long (i ∷ is) marks = all_long is (slice_set marks i true) ∙ one_long marks i

one_stays : (marks : List Bool) (i k : ℕ) → is_marked marks k ≡ true → is_marked (slice_set marks i true) k ≡ true
one_stays [] i k h = h
one_stays (b ∷ marks) zero zero h = refl
one_stays (b ∷ marks) zero (suc k) h = h
one_stays (b ∷ marks) (suc i) zero h = h
one_stays (b ∷ marks) (suc i) (suc k) h = one_stays marks i k h

-- what is marked stays marked
pub all_stay : (is : List ℕ) (marks : List Bool) (k : ℕ) → is_marked marks k ≡ true → is_marked (mark_all is marks) k ≡ true
all_stay [] marks k h = h
all_stay (i ∷ is) marks k h = all_stay is (slice_set marks i true) k (one_stays marks i k h)

one_set : (marks : List Bool) (i : ℕ) → i < length marks → is_marked (slice_set marks i true) i ≡ true
one_set [] i h = let never : ⊥ = omega (arith, h) in absurd never
one_set (b ∷ marks) zero h = refl
one_set (b ∷ marks) (suc i) h = one_set marks i (omega (arith, h))

-- each column of a list is marked, if it is there
pub all_set : (is : List ℕ) (marks : List Bool) (n : ℕ) → n ≡ length marks → AllByRecursion (λ i. i < n) is → AllByRecursion (λ i. is_marked (mark_all is marks) i ≡ true) is
all_set [] marks n e h = tt
all_set (i ∷ is) marks n e h =
    (all_stay is (slice_set marks i true) i (one_set marks i (omega (arith, e, h.0))), all_set is (slice_set marks i true) n (e ∙ sym (one_long marks i)) h.1)

-- ---- places

-- places of marked columns, as many as are marked
pub places_count : (n : ℕ) (marks : List Bool) → length (places_from n marks) ≡ count_by (λ b. b) marks
places_count n [] = refl
places_count n (true ∷ marks) = ap suc (places_count (n + 1) marks) ∙ omega (arith, sum_by-cons (λ (b : Bool). cond b 1 0) true marks)
places_count n (false ∷ marks) = places_count (n + 1) marks ∙ omega (arith, sum_by-cons (λ (b : Bool). cond b 1 0) false marks)

some_if : (t : Bool) (b : Bool) (marks : List Bool) → (count_by (λ b. b) (b ∷ marks) == 0) ≡ t → 0 < length (places_from 0 (cond t (slice_set (b ∷ marks) 0 true) (b ∷ marks)))
some_if true b marks h = omega arith
some_if false b marks h =
    let many : count_by (λ x. x) (b ∷ marks) ≢ 0 = grind (arith, nat_tests) in omega (arith, places_count 0 (b ∷ marks), many)

-- one column is marked at least, if there is one
pub some_place : (marks : List Bool) → 0 < length marks → 0 < length (read_places (at_least_one marks))
some_place [] h = let never : ⊥ = omega (arith, h) in absurd never
some_place (b ∷ marks) h = some_if (count_by (λ x. x) (b ∷ marks) == 0) b marks refl

pub one_at_least_long : (marks : List Bool) → length (at_least_one marks) ≡ length marks
one_at_least_long marks = long_if (count_by (λ b. b) marks == 0) marks where
  long_if : (t : Bool) (marks : List Bool) → length (cond t (slice_set marks 0 true) marks) ≡ length marks
  long_if true marks = one_long marks 0
  long_if false marks = refl

pub one_at_least_stays : (marks : List Bool) (k : ℕ) → is_marked marks k ≡ true → is_marked (at_least_one marks) k ≡ true
one_at_least_stays marks k h = stays_if (count_by (λ b. b) marks == 0) marks k h where
  stays_if : (t : Bool) (marks : List Bool) (k : ℕ) → is_marked marks k ≡ true → is_marked (cond t (slice_set marks 0 true) marks) k ≡ true
  stays_if true marks k h = one_stays marks 0 k h
  stays_if false marks k h = h

-- the places are those of columns
pub places_within : (n m : ℕ) (marks : List Bool) → n + length marks ≡ m → AllByRecursion (λ i. i < m) (places_from n marks)
places_within n m [] h = tt
places_within n m (true ∷ marks) h = (omega (arith, h), places_within (n + 1) m marks (omega (arith, h)))
places_within n m (false ∷ marks) h = places_within (n + 1) m marks (omega (arith, h))

-- where all are marked
pub all_places : (n w : ℕ) → places_from n (replicate w true) ≡ range_with_len n w
all_places n zero = refl
all_places n (suc w) = ap (λ is. n ∷ is) (all_places (n + 1) w)

-- ---- ranks

pub ranks_long : (n : ℕ) (marks : List Bool) → length (ranks n marks) ≡ length marks
ranks_long n [] = refl
ranks_long n (true ∷ marks) = ap suc (ranks_long (n + 1) marks)
ranks_long n (false ∷ marks) = ap suc (ranks_long n marks)

-- where a marked column is among the places of the marked ones
pub record Ranked (n a : ℕ) (marks : List Bool) (i : ℕ) : Type 0 where
  pub rank : ℕ
  pub is : slice_index (ranks n marks) i ≡ n + rank
  pub there : slice_get (places_from a marks) rank ≡ Some (a + i)

pub ranked : (n a : ℕ) (marks : List Bool) (i : ℕ) → is_marked marks i ≡ true → Ranked n a marks i
ranked n a [] i h = cc
ranked n a (true ∷ marks) zero h = record { rank = 0; is = sym (add-zero n); there = ap Some (sym (add-zero a)) }
ranked n a (true ∷ marks) (suc i) h =
    let r = ranked (n + 1) (a + 1) marks i h in
    record { rank = suc r.rank; is = r.is ∙ omega arith; there = r.there ∙ ap Some (let e : a + 1 + i ≡ a + suc i = omega arith in e) }
ranked n a (false ∷ marks) zero h = cc
ranked n a (false ∷ marks) (suc i) h =
    let r = ranked n (a + 1) marks i h in
    record { rank = r.rank; is = r.is; there = r.there ∙ ap Some (let e : a + 1 + i ≡ a + suc i = omega arith in e) }

-- ---- numbers in order

range_more : (n a : ℕ) → range_with_len a (suc n) ≡ range_with_len a n ++ (a + n) ∷ []
range_more zero a = ap (λ k. k ∷ []) (sym (add-zero a))
range_more (suc n) a =
    let same : a + 1 + n ≡ a + suc n = omega arith in
    ap (λ ks. a ∷ ks) (range_more n (a + 1) ∙ ap (λ k. range_with_len (a + 1) n ++ k ∷ []) same)

-- the numbers below `n`, and `n`
pub one_more : (n : ℕ) → range_with_len 0 (n + 1) ≡ range_with_len 0 n ++ n ∷ []
one_more n =
    let same : 0 + n ≡ n = omega arith in
    ap (range_with_len 0) (add-one n) ∙ range_more n 0 ∙ ap (λ k. range_with_len 0 n ++ k ∷ []) same

in_order_from : (a : ℕ) (places : List ℕ) → ((k : ℕ) → k < length places → slice_index places k ≡ a + k) → places ≡ range_with_len a (length places)
in_order_from a [] h = refl
in_order_from a (p ∷ places) h =
    let first : p ≡ a = h 0 (omega arith) ∙ add-zero a in
    let rest = in_order_from (a + 1) places (λ k l. h (suc k) (omega (arith, l)) ∙ (let e : a + suc k ≡ a + 1 + k = omega arith in e)) in
    λ i. first i ∷ rest i

-- places that stand in order
pub in_order : (places : List ℕ) (w : ℕ) → length places ≡ w → ((k : ℕ) → k < w → slice_index places k ≡ k) → places ≡ range_with_len 0 w
in_order places w e h =
    in_order_from 0 places (λ k l. h k (omega (arith, l, e)) ∙ (let same : k ≡ 0 + k = omega arith in same)) ∙ ap (range_with_len 0) e
