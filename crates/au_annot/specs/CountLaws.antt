-- Counts meet the laws of annotations: the proofs that the instances of the traits name.
-- Nothing is defined here.
use Rattle.std.specs.Prelude.{◌+◌, ◌-◌, ◌*◌, nat_le, refl}
use Rattle.std.proofs.Common.{sym, ◌∙◌, le_refl, le_trans, le_antisymm, lt_of_le_of_lt, zero-le, add-le-add, mul-le-mul, add_assoc, add_comm, add-zero, mul_assoc, mul_comm, mul-one, mul-zero, mul-add, sub-eq-zero_of_le, le-leb, leb-true, lt-ltb, ltb-true}
use Rattle.std.proofs.Math.Nat.{sub-add-eq, le_of_sub-eq-zero}
use Rattle.au_annot.specs.Annotations.{IsPartialOrder, IsCommutativeSemiring, KeepsOrder, IsLeast, IsRangeTest, IsMonus}
use Rattle.au_annot.specs.Counts.{count_fits}

-- the order of numbers
pub count_order : IsPartialOrder nat_le
count_order = record {
  reflexive = λ a. le-leb a a (le_refl a);
  transitive = λ a b c h g. le-leb a c (le_trans (leb-true a b h) (leb-true b c g));
  antisymmetric = λ a b h g. le_antisymm (leb-true a b h) (leb-true b a g);
}

-- the sum and the product of numbers
pub count_semiring : IsCommutativeSemiring 0 1 (λ a b. a + b) (λ a b. a * b)
count_semiring = record {
  plus_assoc = add_assoc;
  plus_comm = add_comm;
  plus_zero = add-zero;
  times_assoc = mul_assoc;
  times_comm = mul_comm;
  times_one = mul-one;
  times_zero = mul-zero;
  times_plus = mul-add;
}

-- the sum keeps the order
pub count_plus_keeps : KeepsOrder nat_le (λ a b. a + b)
count_plus_keeps a b c d h g = le-leb (a + c) (b + d) (add-le-add (leb-true a b h) (leb-true c d g))

-- the product keeps the order
pub count_times_keeps : KeepsOrder nat_le (λ a b. a * b)
count_times_keeps a b c d h g = le-leb (a * c) (b * d) (mul-le-mul (leb-true a b h) (leb-true c d g))

-- no number is below 0
pub count_zero_least : IsLeast nat_le 0
count_zero_least a = le-leb 0 a zero-le

-- the numbers below 2^127 hold 0, 1, and what is at most one of them
pub count_range : IsRangeTest nat_le 0 1 count_fits
count_range = record {
  zero_within = refl;
  one_within = refl;
  downward = λ a b h g. lt-ltb a _ (lt_of_le_of_lt (leb-true a b h) (ltb-true b _ g));
}

-- a - b ≤ c exactly where a ≤ b + c
pub count_monus : IsMonus nat_le (λ a b. a + b) (λ a b. a - b)
count_monus a b c = (
  (λ h. le-leb a (b + c) (le_of_sub-eq-zero (sub-add-eq a b c ∙ sub-eq-zero_of_le (leb-true (a - b) c h)))),
  (λ h. le-leb (a - b) c (le_of_sub-eq-zero (sym (sub-add-eq a b c) ∙ sub-eq-zero_of_le (leb-true a (b + c) h)))),
)
