-- Annotations of tuples form a commutative semiring (Green, Karvounarakis, Tannen, PODS 2007) with a partial order that
-- sum and product keep. Each record is a law that an instance of the traits owes; the values are unbounded.
use Rattle.std.specs.Prelude.{◌≡◌, Bool, IsTrue, ◌↔◌, List, [], ◌∷◌}

-- a test is a partial order
pub record IsPartialOrder {A : Type 0} (at_most : A → A → Bool) : Type 0 where
  pub reflexive : (a : A) → IsTrue (at_most a a)
  pub transitive : (a b c : A) → IsTrue (at_most a b) → IsTrue (at_most b c) → IsTrue (at_most a c)
  pub antisymmetric : (a b : A) → IsTrue (at_most a b) → IsTrue (at_most b a) → a ≡ b

-- sum and product, with zero and one, are a commutative semiring
pub record IsCommutativeSemiring {A : Type 0} (zero one : A) (plus times : A → A → A) : Type 0 where
  pub plus_assoc : (a b c : A) → plus (plus a b) c ≡ plus a (plus b c)
  pub plus_comm : (a b : A) → plus a b ≡ plus b a
  pub plus_zero : (a : A) → plus a zero ≡ a
  pub times_assoc : (a b c : A) → times (times a b) c ≡ times a (times b c)
  pub times_comm : (a b : A) → times a b ≡ times b a
  pub times_one : (a : A) → times a one ≡ a
  pub times_zero : (a : A) → times a zero ≡ zero
  pub times_plus : (a b c : A) → times a (plus b c) ≡ plus (times a b) (times a c)

-- an operation keeps the order in both arguments
abbrev pub KeepsOrder : {A : Type 0} → (A → A → Bool) → (A → A → A) → Type 0
KeepsOrder {A} at_most op =
    (a b c d : A) → IsTrue (at_most a b) → IsTrue (at_most c d) → IsTrue (at_most (op a c) (op b d))

-- zero is the least annotation
abbrev pub IsLeast : {A : Type 0} → (A → A → Bool) → A → Type 0
IsLeast {A} at_most zero = (a : A) → IsTrue (at_most zero a)

-- the range holds zero and one, and what is at most an annotation in it
pub record IsRangeTest {A : Type 0} (at_most : A → A → Bool) (zero one : A) (in_range : A → Bool) : Type 0 where
  pub zero_within : IsTrue (in_range zero)
  pub one_within : IsTrue (in_range one)
  pub downward : (a b : A) → IsTrue (at_most a b) → IsTrue (in_range b) → IsTrue (in_range a)

-- a monus b is the least annotation whose sum with b is at least a
abbrev pub IsMonus : {A : Type 0} → (A → A → Bool) → (A → A → A) → (A → A → A) → Type 0
IsMonus {A} at_most plus monus =
    (a b c : A) → IsTrue (at_most (monus a b) c) ↔ IsTrue (at_most a (plus b c))

-- the sum of several annotations
abbrev pub annotation_sum : {A : Type 0} → A → (A → A → A) → List A → A
annotation_sum zero plus [] = zero
annotation_sum zero plus (x ∷ xs) = plus x (annotation_sum zero plus xs)
