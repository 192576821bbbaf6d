-- Triples meet the laws of annotations, component by component: the proofs that the instance names.
-- Nothing is defined here.
use Rattle.std.specs.Prelude.{◌≡◌, ℕ, ◌+◌, ◌*◌, Bool, true, false, ◌&&◌, IsTrue, nat_le, refl}
use Rattle.std.proofs.Common.{sym, ap, ◌∙◌}
use Rattle.std.proofs.lemmas.Bool.{true≢false}
use Rattle.au_annot.specs.Annotations.{IsPartialOrder, IsCommutativeSemiring, KeepsOrder, IsLeast, IsRangeTest}
use Rattle.au_annot.specs.CountLaws.{count_order, count_semiring, count_plus_keeps, count_times_keeps, count_zero_least, count_range}
use Rattle.au_annot.specs.Counts.{count_fits}
use Rattle.au_annot.specs.Triples.{Counts, counts, plus, times, none, one, at_most, in_range}

-- the three parts of a conjunction of three tests
first_of : (p q r : Bool) → IsTrue (p && q && r) → IsTrue p
first_of true q r h = refl
first_of false q r h = h

second_of : (p q r : Bool) → IsTrue (p && q && r) → IsTrue q
second_of true true r h = refl
second_of true false r h = h
second_of false q r h = absurd (true≢false (sym h))

third_of : (p q r : Bool) → IsTrue (p && q && r) → IsTrue r
third_of true true r h = h
third_of true false r h = absurd (true≢false (sym h))
third_of false q r h = absurd (true≢false (sym h))

-- three tests that hold make their conjunction
all_three : (p q r : Bool) → IsTrue p → IsTrue q → IsTrue r → IsTrue (p && q && r)
all_three true true r hp hq hr = hr
all_three true false r hp hq hr = hq
all_three false q r hp hq hr = hp

-- triples of equal components are equal
equal_parts : (l k g f m n : ℕ) → l ≡ k → g ≡ f → m ≡ n → counts l g m ≡ counts k f n
equal_parts l k g f m n hl hg hm =
    ap (λ x. counts x g m) hl ∙ (ap (λ x. counts k x m) hg ∙ ap (λ x. counts k f x) hm)

-- what the order says of each component
module _ (a b : Counts) where
  least_below : IsTrue (at_most a b) → IsTrue (nat_le a.least b.least)
  least_below h = first_of (nat_le a.least b.least) (nat_le a.guess b.guess) (nat_le a.most b.most) h

  guess_below : IsTrue (at_most a b) → IsTrue (nat_le a.guess b.guess)
  guess_below h = second_of (nat_le a.least b.least) (nat_le a.guess b.guess) (nat_le a.most b.most) h

  most_below : IsTrue (at_most a b) → IsTrue (nat_le a.most b.most)
  most_below h = third_of (nat_le a.least b.least) (nat_le a.guess b.guess) (nat_le a.most b.most) h

  all_below : IsTrue (nat_le a.least b.least) → IsTrue (nat_le a.guess b.guess) → IsTrue (nat_le a.most b.most) → IsTrue (at_most a b)
  all_below hl hg hm = all_three (nat_le a.least b.least) (nat_le a.guess b.guess) (nat_le a.most b.most) hl hg hm

-- an operation that goes by components keeps the order where each component does
by_components : (op : ℕ → ℕ → ℕ) → KeepsOrder nat_le op → KeepsOrder at_most (λ a b. counts (op a.least b.least) (op a.guess b.guess) (op a.most b.most))
by_components op keeps a b c d h g =
    all_below (counts (op a.least c.least) (op a.guess c.guess) (op a.most c.most)) (counts (op b.least d.least) (op b.guess d.guess) (op b.most d.most))
    (keeps a.least b.least c.least d.least (least_below a b h) (least_below c d g))
    (keeps a.guess b.guess c.guess d.guess (guess_below a b h) (guess_below c d g))
    (keeps a.most b.most c.most d.most (most_below a b h) (most_below c d g))

-- the order of triples
pub triple_order : IsPartialOrder at_most
triple_order = record {
  reflexive = λ a.
      all_below a a (count_order.reflexive a.least) (count_order.reflexive a.guess) (count_order.reflexive a.most);
  transitive = λ a b c h g.
      all_below a c
      (count_order.transitive a.least b.least c.least (least_below a b h) (least_below b c g))
      (count_order.transitive a.guess b.guess c.guess (guess_below a b h) (guess_below b c g))
      (count_order.transitive a.most b.most c.most (most_below a b h) (most_below b c g));
  antisymmetric = λ a b h g.
      equal_parts a.least b.least a.guess b.guess a.most b.most
      (count_order.antisymmetric a.least b.least (least_below a b h) (least_below b a g))
      (count_order.antisymmetric a.guess b.guess (guess_below a b h) (guess_below b a g))
      (count_order.antisymmetric a.most b.most (most_below a b h) (most_below b a g));
}

-- the sum and the product of triples
pub triple_semiring : IsCommutativeSemiring none one plus times
triple_semiring =
    let laws = count_semiring in record {
      plus_assoc = λ a b c.
          equal_parts _ _ _ _ _ _ (laws.plus_assoc a.least b.least c.least) (laws.plus_assoc a.guess b.guess c.guess) (laws.plus_assoc a.most b.most c.most);
      plus_comm = λ a b.
          equal_parts _ _ _ _ _ _ (laws.plus_comm a.least b.least) (laws.plus_comm a.guess b.guess) (laws.plus_comm a.most b.most);
      plus_zero = λ a.
          equal_parts _ _ _ _ _ _ (laws.plus_zero a.least) (laws.plus_zero a.guess) (laws.plus_zero a.most);
      times_assoc = λ a b c.
          equal_parts _ _ _ _ _ _ (laws.times_assoc a.least b.least c.least) (laws.times_assoc a.guess b.guess c.guess) (laws.times_assoc a.most b.most c.most);
      times_comm = λ a b.
          equal_parts _ _ _ _ _ _ (laws.times_comm a.least b.least) (laws.times_comm a.guess b.guess) (laws.times_comm a.most b.most);
      times_one = λ a.
          equal_parts _ _ _ _ _ _ (laws.times_one a.least) (laws.times_one a.guess) (laws.times_one a.most);
      times_zero = λ a.
          equal_parts _ _ _ _ _ _ (laws.times_zero a.least) (laws.times_zero a.guess) (laws.times_zero a.most);
      times_plus = λ a b c.
          equal_parts _ _ _ _ _ _ (laws.times_plus a.least b.least c.least) (laws.times_plus a.guess b.guess c.guess) (laws.times_plus a.most b.most c.most);
    }

-- the sum keeps the order
pub triple_plus_keeps : KeepsOrder at_most plus
triple_plus_keeps = by_components (λ m n. m + n) count_plus_keeps

-- the product keeps the order
pub triple_times_keeps : KeepsOrder at_most times
triple_times_keeps = by_components (λ m n. m * n) count_times_keeps

-- no triple is below that of a tuple that never occurs
pub triple_zero_least : IsLeast at_most none
triple_zero_least a = all_below none a (count_zero_least a.least) (count_zero_least a.guess) (count_zero_least a.most)

-- the triples of numbers below 2^127 hold those of no and of one copy, and what is at most one of them
pub triple_range : IsRangeTest at_most none one in_range
triple_range = record {
  zero_within = refl;
  one_within = refl;
  downward = λ a b h g.
      all_three (count_fits a.least) (count_fits a.guess) (count_fits a.most)
      (count_range.downward a.least b.least (least_below a b h) (first_of (count_fits b.least) (count_fits b.guess) (count_fits b.most) g))
      (count_range.downward a.guess b.guess (guess_below a b h) (second_of (count_fits b.least) (count_fits b.guess) (count_fits b.most) g))
      (count_range.downward a.most b.most (most_below a b h) (third_of (count_fits b.least) (count_fits b.guess) (count_fits b.most) g));
}
