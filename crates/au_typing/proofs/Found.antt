-- What stands at a place that was found, and kinds that stand side by side.
use Rattle.std.specs.Prelude.{◌≡◌, ℕ, ◌+◌, ◌<◌, not, Bool, true, nat_lt, List, [], ◌∷◌, ◌++◌, length, map, Option, Some, None, slice_get, position, unwrap_or, is_some}
use Rattle.std.specs.List.{position_or_len, AllByRecursion}
use Rattle.std.proofs.Common.{arith, get_or, refl, sym, ◌∙◌, ap, subst}
use Rattle.std.proofs.lemmas.Bool.{true≢false, ltb-true, not-false}
use Rattle.std.proofs.lemmas.Option.{slice_get-get_or}
use Rattle.std.proofs.lemmas.List.{length-append}
use Rattle.std.proofs.lemmas.List.Sums.{prefix_len_stops}
use Rattle.au_value.specs.declared.kinds.Kind.{Kind}
use Rattle.au_value.specs.declared.kinds.Kind.TheVariants.{Int}
use Rattle.au_algebra.specs.Typing.{all_kinds}
use Rattle.au_algebra.proofs.Items.{chosen_is, some_is}

-- an element that passes, at its place
pub record Found {X : Type 0} (p : X → Bool) (xs : List X) (i : ℕ) : Type 0 where
  pub item : X
  pub there : slice_get xs i ≡ Some item
  pub passes : p item ≡ true

-- the first element that passes
first_found : {X : Type 0} (p : X → Bool) (xs : List X) → nat_lt (position_or_len p xs) (length xs) ≡ true → Found p xs (position_or_len p xs)
first_found p [] h = absurd (true≢false (sym h))
first_found p (x ∷ xs) h =
    let n = position_or_len p (x ∷ xs) in
    let below : n < length (x ∷ xs) = ltb-true _ _ h in
    record { item = get_or (x ∷ xs) n x; there = slice_get-get_or (x ∷ xs) n x below; passes = not-false _ (prefix_len_stops (λ y. not (p y)) (x ∷ xs) x below) }

-- the element at the place that `position` gives
pub found : {X : Type 0} (p : X → Bool) (xs : List X) (i : ℕ) → position p xs ≡ Some i → Found p xs i
found p xs i h =
    let c = chosen_is _ (Some (position_or_len p xs)) i h in
    subst (Found p xs) (some_is _ i c.1) (first_found p xs c.0)

-- what holds of the elements of two lists holds of both together
pub all_both : {X : Type 0} (P : X → Type 0) (xs ys : List X) → AllByRecursion P xs → AllByRecursion P ys → AllByRecursion P (xs ++ ys)
all_both P [] ys a b = b
all_both P (x ∷ xs) ys a b = (a.0, all_both P xs ys a.1 b)

-- a kind that is known
abbrev pub known : Option Kind → Kind
known o = unwrap_or o Int

abbrev pub IsKnown : Option Kind → Type 0
IsKnown o = is_some o ≡ true

-- a known kind is there
pub known_is : (o : Option Kind) → IsKnown o → o ≡ Some (known o)
known_is None h = absurd (true≢false (sym h))
known_is (Some k) h = refl

-- kinds that are all known are all there
pub all_known : (os : List (Option Kind)) → AllByRecursion IsKnown os → all_kinds os ≡ Some (map known os)
all_known [] h = refl
all_known (None ∷ os) h = absurd (true≢false (sym h.0))
all_known (Some k ∷ os) h = rw (all_known os h.1)

-- the element behind those before it
seam : (before : List Kind) (k : Kind) (ks : List Kind) → slice_get (before ++ k ∷ ks) (length before) ≡ Some k
seam [] k ks = refl
seam (b ∷ before) k ks = seam before k ks

-- one more element before the others
pub snoc : (before : List Kind) (k : Kind) (ks : List Kind) → (before ++ k ∷ []) ++ ks ≡ before ++ k ∷ ks
snoc [] k ks = refl
snoc (b ∷ before) k ks = ap (λ xs. b ∷ xs) (snoc before k ks)

-- the length of one more
pub longer : (before : List Kind) (k : Kind) (n : ℕ) → length before ≡ n → length (before ++ k ∷ []) ≡ n + 1
longer before k n e = omega (arith, length-append before (k ∷ []), e)

-- the kind behind so many
pub stands : (before : List Kind) (n : ℕ) (k : Kind) (ks : List Kind) → length before ≡ n → slice_get (before ++ k ∷ ks) n ≡ Some k
stands before n k ks e = subst (λ m. slice_get (before ++ k ∷ ks) m ≡ Some k) e (seam before k ks)

-- Of each of these things, what the function says stands in the list, the first at this place.
module _ {X : Type 0} (f : X → Option Kind) where
  abbrev pub StandsAt : List Kind → ℕ → List X → Type 0
  StandsAt ks n [] = Unit {0}
  StandsAt ks n (x ∷ xs) = (slice_get ks n ≡ f x) × StandsAt ks (n + 1) xs

  -- where two lists stand, both do
  pub stands_parts : (ks : List Kind) (n : ℕ) (xs ys : List X) → StandsAt ks n (xs ++ ys) → StandsAt ks n xs × StandsAt ks (n + length xs) ys
  stands_parts ks n [] ys h = (tt, let e : n ≡ n + 0 = omega arith in subst (λ m. StandsAt ks m ys) e h)
  stands_parts ks n (x ∷ xs) ys h =
      let p = stands_parts ks (n + 1) xs ys h.1 in
      let e : n + 1 + length xs ≡ n + length (x ∷ xs) = omega arith in
      ((h.0, p.0), subst (λ m. StandsAt ks m ys) e p.1)

  -- and so for three
  pub stands_three :
      (ks : List Kind) (n : ℕ) (xs ys zs : List X) → StandsAt ks n (xs ++ ys ++ zs) →
      StandsAt ks n xs × StandsAt ks (n + length xs) ys × StandsAt ks (n + length xs + length ys) zs
  stands_three ks n xs ys zs h =
      let p = stands_parts ks n (xs ++ ys) zs h in
      let q = stands_parts ks n xs ys p.0 in
      let e : n + length (xs ++ ys) ≡ n + length xs + length ys = omega (arith, length-append xs ys) in
      (q.0, q.1, subst (λ m. StandsAt ks m zs) e p.1)

  -- known kinds stand behind those before them
  pub stands_behind : (before : List Kind) (n : ℕ) (xs : List X) → length before ≡ n → AllByRecursion IsKnown (map f xs) → StandsAt (before ++ map known (map f xs)) n xs
  stands_behind before n [] e h = tt
  stands_behind before n (x ∷ xs) e h = (
    stands before n (known (f x)) (map known (map f xs)) e ∙ sym (known_is (f x) h.0),
    subst (λ ks. StandsAt ks (n + 1) xs) (snoc before (known (f x)) (map known (map f xs))) (stands_behind (before ++ known (f x) ∷ []) (n + 1) xs (longer before (known (f x)) n e) h.1),
  )
