-- Sums of annotations, by the laws that every instance meets.
use Rattle.std.proofs.Common.{◌≡◌, ℕ, ◌+◌, ◌<◌, IsTrue, IsFalse, List, [], ◌∷◌, ◌++◌, length, take, drop, get_or, Bool, true, false, sym, ap, ◌∙◌, subst, refl, take-append-drop, true≢false}
use Rattle.std.proofs.lemmas.List.{take_more}
use Rattle.au_annot.specs.Annotations.{IsPartialOrder, IsCommutativeSemiring, KeepsOrder, IsLeast, IsRangeTest, annotation_sum}

-- a test that would follow from one that fails
refuted : (p q : Bool) → (IsTrue q → IsTrue p) → IsFalse p → IsFalse q
refuted p true from off = absurd (true≢false (sym (from refl) ∙ off))
refuted p false from off = refl

-- what is at least an annotation outside the range is outside it
pub beyond : {A : Type 0} (at_most : A → A → Bool) (zero one : A) (in_range : A → Bool) → IsRangeTest at_most zero one in_range → (a b : A) → IsTrue (at_most a b) → IsFalse (in_range a) → IsFalse (in_range b)
beyond at_most zero one in_range range a b below off = refuted (in_range a) (in_range b) (range.downward a b below) off

module _ {A : Type 0} (zero one : A) (plus times : A → A → A) (laws : IsCommutativeSemiring zero one plus times) where
  -- zero in front adds nothing
  pub zero_plus : (a : A) → plus zero a ≡ a
  zero_plus a = laws.plus_comm zero a ∙ laws.plus_zero a

  -- the sum of two lists, one after the other
  pub sum_of-append : (xs ys : List A) → annotation_sum zero plus (xs ++ ys) ≡ plus (annotation_sum zero plus xs) (annotation_sum zero plus ys)
  sum_of-append [] ys = sym (zero_plus (annotation_sum zero plus ys))
  sum_of-append (x ∷ xs) ys =
      ap (plus x) (sum_of-append xs ys) ∙ sym (laws.plus_assoc x (annotation_sum zero plus xs) (annotation_sum zero plus ys))

  -- the sum of a list and one more
  pub sum_of-push : (xs : List A) (y : A) → annotation_sum zero plus (xs ++ y ∷ []) ≡ plus (annotation_sum zero plus xs) y
  sum_of-push xs y = sum_of-append xs (y ∷ []) ∙ ap (plus (annotation_sum zero plus xs)) (laws.plus_zero y)

  -- the sum of the front and the next
  pub sum_of-take : (xs : List A) (i : ℕ) (x : A) → i < length xs → x ≡ get_or xs i x → annotation_sum zero plus (take (i + 1) xs) ≡ plus (annotation_sum zero plus (take i xs)) x
  sum_of-take xs i x i_in at =
      ap (annotation_sum zero plus) (take_more xs i x i_in ∙ ap (λ y. take i xs ++ y ∷ []) (sym at)) ∙ sum_of-push (take i xs) x

  module _ (at_most : A → A → Bool) (order : IsPartialOrder at_most) (keeps : KeepsOrder at_most plus) (least : IsLeast at_most zero) where
    -- each part is at most the sum
    pub below_plus : (a b : A) → IsTrue (at_most a (plus a b))
    below_plus a b =
        subst (λ x. IsTrue (at_most x (plus a b))) (laws.plus_zero a) (keeps a a zero b (order.reflexive a) (least b))

    -- the sum of the front is at most that of the whole
    pub front_below : (xs ys : List A) → IsTrue (at_most (annotation_sum zero plus xs) (annotation_sum zero plus (xs ++ ys)))
    front_below xs ys =
        subst (λ x. IsTrue (at_most (annotation_sum zero plus xs) x)) (sym (sum_of-append xs ys))
        (below_plus (annotation_sum zero plus xs) (annotation_sum zero plus ys))

    -- the sum of the first is at most that of all
    pub take_below : (xs : List A) (i : ℕ) → IsTrue (at_most (annotation_sum zero plus (take i xs)) (annotation_sum zero plus xs))
    take_below xs i =
        subst (λ ys. IsTrue (at_most (annotation_sum zero plus (take i xs)) (annotation_sum zero plus ys))) (take-append-drop i xs)
        (front_below (take i xs) (drop i xs))

  -- what is at most zero is zero
  pub zero_of : (at_most : A → A → Bool) → IsPartialOrder at_most → IsLeast at_most zero → (a : A) → IsTrue (at_most a zero) → a ≡ zero
  zero_of at_most order least a h = order.antisymmetric a zero h (least a)
