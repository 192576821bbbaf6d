-- Items that are shared out by their keys: what holds of them, and sums, least and greatest over them, by the shares.
use Rattle.std.specs.Prelude.{◌≡◌, ◌≤◌, ◌<◌, ℕ, suc, Bool, true, false, not, cond, List, [], ◌∷◌, map, filter, length, sum_by, ℤ, pos, negsuc, ◌-ℤ◌, nat_abs}
use Rattle.std.specs.List.{AllByRecursion}
use Rattle.std.proofs.Common.{arith, refl, sym, ◌∙◌, ap, subst}
use Rattle.std.proofs.lemmas.Bool.{true≢false}
use Rattle.std.proofs.lemmas.Int.{ints}
use Rattle.std.proofs.lemmas.List.Sums.{sum_by-cons}
use Rattle.au_value.specs.declared.value.Value.{Value}
use Rattle.au_value.specs.Lists.{distinct}
use Rattle.au_value.specs.Order.{at_most}
use Rattle.au_value.proofs.OrderLaws.{at_most_trans}
use Rattle.au_algebra.specs.Lists.{same_row, copies, int_sum, least, greatest}
use Rattle.au_algebra.specs.Ordinary.{Rows}
use Rattle.au_algebra.proofs.Copies.{same_row_is, same_row_refl}
use Rattle.au_algebra.proofs.DistinctSums.{sum_passing_keys}
use Rattle.au_algebra.proofs.Each.{all_filter, all_from, passing}
use Rattle.au_algebra.proofs.Extremes as extremes
use Rattle.au_algebra.proofs.Extremes.{least_among, greatest_among, least_below, greatest_above}
use Rattle.au_combine.proofs.Grouping.{all_occur, some_with}
use Rattle.au_rwexpr.proofs.Allowed.{all_of}
use Rattle.au_rwexpr.proofs.PlanNumbersOf.{all_passing, passed_all}

-- ---- lists

-- what holds of the distinct keys holds of all
widened_by : (P : List Value → Type 0) (b : Bool) (k j : List Value) (js rest : Rows) → P k → same_row k j ≡ b → AllByRecursion P (cond (not b) (j ∷ rest) rest) → (AllByRecursion P rest → AllByRecursion P js) → AllByRecursion P (j ∷ js)
widened_by P true k j js rest p e h to = (subst P (same_row_is k j e) p, to h)
widened_by P false k j js rest p e h to = (h.0, to h.1)

widened : (P : List Value → Type 0) (k : List Value) (js : Rows) → P k → AllByRecursion P (filter (λ y. not (same_row k y)) js) → AllByRecursion P js
widened P k [] p h = tt
widened P k (j ∷ js) p h = widened_by P (same_row k j) k j js (filter (λ y. not (same_row k y)) js) p refl h (widened P k js p)

pub every_key : (P : List Value → Type 0) (ks : Rows) → AllByRecursion P (distinct same_row ks) → AllByRecursion P ks
every_key P [] h = tt
every_key P (k ∷ ks) h = (h.0, every_key P ks (widened P k (distinct same_row ks) h.0 h.1))

-- what holds of each pair holds of each item with itself
diagonal : {S : Type 0} (R : S → S → Type 0) (xs : List S) → AllByRecursion (λ x. AllByRecursion (R x) xs) xs → AllByRecursion (λ x. R x x) xs
diagonal R [] h = tt
diagonal R (x ∷ xs) h = (
  h.0.0,
  diagonal R xs (all_from (λ y. AllByRecursion (R y) (x ∷ xs)) (λ y. AllByRecursion (R y) xs) xs (λ y a. a.1) h.1),
)

-- a premise of all, as one of each
each_if : {S : Type 0} (b : Bool) (Z : S → Type 0) (ys : List S) → (b ≡ true → AllByRecursion Z ys) → AllByRecursion (λ y. b ≡ true → Z y) ys
each_if true Z ys h = all_from Z (λ y. true ≡ true → Z y) ys (λ y z e. z) (h refl)
each_if false Z ys h = all_of (λ y. false ≡ true → Z y) (λ y e. absurd (true≢false (sym e))) ys

-- what holds of made items
pub made_from : {A B : Type 0} (Q : B → Type 0) (g : A → B) (xs : List A) → AllByRecursion Q (map g xs) → AllByRecursion (λ x. Q (g x)) xs
made_from Q g [] h = tt
made_from Q g (x ∷ xs) h = (h.0, made_from Q g xs h.1)

-- what follows from two that hold of each
both : {A : Type 0} (P Q R : A → Type 0) (xs : List A) → ((x : A) → P x → Q x → R x) → AllByRecursion P xs → AllByRecursion Q xs → AllByRecursion R xs
both P Q R [] to h k = tt
both P Q R (x ∷ xs) to h k = (to x h.0 k.0, both P Q R xs to h.1 k.1)

-- nothing holds of an item that cannot be
some_of_none : {S : Type 0} (Q : S → Type 0) (xs : List S) → ((x : S) → Q x → ⊥) → 0 < length xs → AllByRecursion Q xs → ⊥
some_of_none Q [] out some h = let never : ⊥ = omega (arith, some) in never
some_of_none Q (x ∷ xs) out some h = out x h.0

-- ---- integers as differences

abbrev up : ℤ → ℕ
up (pos n) = n
up (negsuc n) = 0

abbrev down : ℤ → ℕ
down (pos n) = 0
down (negsuc n) = suc n

up_down : (z : ℤ) → z ≡ pos (up z) -ℤ pos (down z)
up_down (pos n) = omega (arith, ints)
up_down (negsuc n) = omega (arith, ints)

differences : {A : Type 0} (f : A → ℤ) (u d : A → ℕ) → ((x : A) → f x ≡ pos (u x) -ℤ pos (d x)) → (xs : List A) → int_sum (map f xs) ≡ pos (sum_by u xs) -ℤ pos (sum_by d xs)
differences f u d is [] = refl
differences f u d is (x ∷ xs) =
    let rest = differences f u d is xs in
    let first = is x in
    let us = sum_by-cons u x xs in
    let ds = sum_by-cons d x xs in
    omega (arith, ints, rest, first, us, ds)

pub sum_magnitude : {A : Type 0} (f : A → ℤ) (xs : List A) → nat_abs (int_sum (map f xs)) ≤ sum_by (λ x. nat_abs (f x)) xs
sum_magnitude f [] = omega arith
sum_magnitude f (x ∷ xs) =
    let rest = sum_magnitude f xs in
    let whole = sum_by-cons (λ y. nat_abs (f y)) x xs in
    omega (arith, ints, rest, whole)

pub sum_within : {A : Type 0} (f g : A → ℕ) (xs : List A) → ((x : A) → f x ≤ g x) → sum_by f xs ≤ sum_by g xs
sum_within f g [] h = omega arith
sum_within f g (x ∷ xs) h = omega (arith, h x, sum_within f g xs h, sum_by-cons f x xs, sum_by-cons g x xs)

module _ {S : Type 0} (key : S → List Value) (xs : List S) where
  -- the distinct keys, and the items with a key
  abbrev pub keys : Rows
  keys = distinct same_row (map key xs)

  abbrev pub share : List Value → List S
  share k = filter (λ x. same_row k (key x)) xs

  module _ (p : List Value → Bool) where
    -- the keys that pass, and the items whose keys pass
    abbrev pub some_keys : Rows
    some_keys = filter p keys

    abbrev pub some_items : List S
    some_items = filter (λ x. p (key x)) xs

    -- what holds of the items holds of each share
    pub of_shares : (Q : S → Type 0) → AllByRecursion Q some_items → AllByRecursion (λ k. AllByRecursion Q (share k)) some_keys
    of_shares Q h =
        all_from (λ k. p k ≡ true) (λ k. AllByRecursion Q (share k)) some_keys
        (λ k e. all_passing (λ x. p (key x) ≡ true → Q x) Q (λ x. same_row k (key x)) xs (passed_all Q Q (λ x. p (key x)) xs h)
        (λ x q t. q (ap p (sym (same_row_is k (key x) t)) ∙ e)))
        (passing p keys)

    -- and the other way round
    pub from_shares : (Q : S → Type 0) → AllByRecursion (λ k. AllByRecursion Q (share k)) some_keys → AllByRecursion Q some_items
    from_shares Q h =
        let Good = λ (k : List Value). p k ≡ true → AllByRecursion Q (share k) in
        let good : AllByRecursion (λ x. Good (key x)) xs =
        made_from Good key xs (every_key Good (map key xs) (passed_all (λ k. AllByRecursion Q (share k)) (λ k. AllByRecursion Q (share k)) p keys h)) in
        let R = λ (x y : S). p (key x) ≡ true → same_row (key x) (key y) ≡ true → Q y in
        let pairs : AllByRecursion (λ x. AllByRecursion (R x) xs) xs =
        all_from (λ x. Good (key x)) (λ x. AllByRecursion (R x) xs) xs
        (λ x g. each_if (p (key x)) (λ y. same_row (key x) (key y) ≡ true → Q y) xs (λ e. passed_all Q Q (λ y. same_row (key x) (key y)) xs (g e))) good in
        all_passing (λ x. R x x) Q (λ x. p (key x)) xs (diagonal R xs pairs) (λ x r e. r e (same_row_refl (key x)))

    -- where some item passes, some key does
    pub some_key : 0 < length some_items → 0 < length some_keys
    some_key some = by some_keys refl
      where
        by : (ks : Rows) → some_keys ≡ ks → 0 < length ks
        by [] e =
            absurd (some_of_none (λ x. ⊥) some_items (λ x never. never) some (from_shares (λ x. ⊥) (subst (λ ks. AllByRecursion (λ k. AllByRecursion (λ x. ⊥) (share k)) ks) (sym e) tt)))
        by (k ∷ ks) e = omega arith

    -- no share is empty
    all_some : AllByRecursion (λ k. 0 < length (share k)) some_keys
    all_some =
        all_filter (λ k. 0 < length (share k)) p keys
        (all_from (λ k. 0 < copies k (map key xs)) (λ k. 0 < length (share k)) keys
        (λ k o. (let s = some_with key k xs o in subst (λ ys. 0 < length ys) (sym s.is) (omega arith))) (all_occur key xs))

    -- the least of the shares' least is that of all, and likewise the greatest
    pub least_shared : (f : S → Value) → 0 < length some_items → least (map (λ k. least (map f (share k))) some_keys) ≡ least (map f some_items)
    least_shared f some =
        let each = λ (k : List Value). least (map f (share k)) in
        let m = least (map f some_items) in
        let l = least (map each some_keys) in
        extremes.one_least each f some_keys some_items (some_key some) some
        (both (λ k. 0 < length (share k)) (λ k. AllByRecursion (λ x. at_most m (f x) ≡ true) (share k)) (λ k. at_most m (each k) ≡ true) some_keys
        (λ k s a. least_among f (λ v. at_most m v ≡ true) (share k) a s) all_some (of_shares (λ x. at_most m (f x) ≡ true) (least_below f some_items)))
        (from_shares (λ x. at_most l (f x) ≡ true)
        (all_from (λ k. at_most l (each k) ≡ true) (λ k. AllByRecursion (λ x. at_most l (f x) ≡ true) (share k)) some_keys
        (λ k a. all_from (λ x. at_most (each k) (f x) ≡ true) (λ x. at_most l (f x) ≡ true) (share k) (λ x h. at_most_trans l (each k) (f x) a h) (least_below f (share k))) (least_below each some_keys)))

    pub greatest_shared : (f : S → Value) → 0 < length some_items → greatest (map (λ k. greatest (map f (share k))) some_keys) ≡ greatest (map f some_items)
    greatest_shared f some =
        let each = λ (k : List Value). greatest (map f (share k)) in
        let m = greatest (map f some_items) in
        let l = greatest (map each some_keys) in
        extremes.one_greatest each f some_keys some_items (some_key some) some
        (both (λ k. 0 < length (share k)) (λ k. AllByRecursion (λ x. at_most (f x) m ≡ true) (share k)) (λ k. at_most (each k) m ≡ true) some_keys
        (λ k s a. greatest_among f (λ v. at_most v m ≡ true) (share k) a s) all_some (of_shares (λ x. at_most (f x) m ≡ true) (greatest_above f some_items)))
        (from_shares (λ x. at_most (f x) l ≡ true)
        (all_from (λ k. at_most (each k) l ≡ true) (λ k. AllByRecursion (λ x. at_most (f x) l ≡ true) (share k)) some_keys
        (λ k a. all_from (λ x. at_most (f x) (each k) ≡ true) (λ x. at_most (f x) l ≡ true) (share k) (λ x h. at_most_trans (f x) (each k) l h a) (greatest_above f (share k))) (greatest_above each some_keys)))

    -- the sum of the shares' sums is that of all
    pub int_sum_shared : (f : S → ℤ) → int_sum (map (λ k. int_sum (map f (share k))) some_keys) ≡ int_sum (map f some_items)
    int_sum_shared f =
        let u = λ (x : S). up (f x) in
        let d = λ (x : S). down (f x) in
        let is : (x : S) → f x ≡ pos (u x) -ℤ pos (d x) = (λ x. up_down (f x)) in
        differences (λ k. int_sum (map f (share k))) (λ k. sum_by u (share k)) (λ k. sum_by d (share k)) (λ k. differences f u d is (share k)) some_keys
        ∙ (λ i. pos (sum_passing_keys same_row same_row_is same_row_refl key u p xs i) -ℤ pos (sum_passing_keys same_row same_row_is same_row_refl key d p xs i))
        ∙ sym (differences f u d is some_items)

    -- the magnitudes of the shares' sums are within those of all
    pub sizes_shared : (f : S → ℤ) → sum_by (λ k. nat_abs (int_sum (map f (share k)))) some_keys ≤ sum_by (λ x. nat_abs (f x)) some_items
    sizes_shared f =
        let sizes = λ (x : S). nat_abs (f x) in
        subst (λ n. sum_by (λ k. nat_abs (int_sum (map f (share k)))) some_keys ≤ n) (sum_passing_keys same_row same_row_is same_row_refl key sizes p xs)
        (sum_within (λ k. nat_abs (int_sum (map f (share k)))) (λ k. sum_by sizes (share k)) some_keys (λ k. sum_magnitude f (share k)))
