-- Sums that have room in a number, and a number divided.
use Rattle.std.proofs.Common.{◌≡◌, ℕ, ◌+◌, ◌-◌, ◌*◌, ◌/◌, ◌<◌, ◌≤◌, Bool, true, false, nat_le, refl, sym, arith, div-mul-le_self, le_trans, mul-le-mul_right}
use Rattle.std.proofs.lemmas.Bool.{false_from_ne_true, le-leb, leb-true}
use Rattle.std.proofs.lemmas.Nat.{le-div}

-- two tests that imply each other
same_test : (b c : Bool) → (b ≡ true → c ≡ true) → (c ≡ true → b ≡ true) → b ≡ c
same_test true c f g = sym (f refl)
same_test false true f g = g refl
same_test false false f g = refl

-- one more number that has room
pub room_left : (n rest left : ℕ) → n ≤ left → nat_le (n + rest) left ≡ nat_le rest (left - n)
room_left n rest left h =
    same_test (nat_le (n + rest) left) (nat_le rest (left - n))
    (λ e. let fits = leb-true (n + rest) left e in le-leb rest (left - n) (omega (arith, fits, h)))
    (λ e. let fits = leb-true rest (left - n) e in le-leb (n + rest) left (omega (arith, fits, h)))

-- one that has none
pub no_room : (n rest left : ℕ) → left < n → nat_le (n + rest) left ≡ false
no_room n rest left h =
    false_from_ne_true (nat_le (n + rest) left) (λ e. let fits = leb-true (n + rest) left e in omega (arith, fits, h))

-- so many items of one size
pub divided : (n m k : ℕ) → 0 < k → nat_le n (m / k) ≡ nat_le (n * k) m
divided n m k some =
    same_test (nat_le n (m / k)) (nat_le (n * k) m)
    (λ e. le-leb (n * k) m (le_trans (mul-le-mul_right k (leb-true n (m / k) e)) (div-mul-le_self m k)))
    (λ e. le-leb n (m / k) (le-div n m k some (leb-true (n * k) m e)))
