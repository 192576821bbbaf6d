-- A grouping of rows that are made from others, with the groups of the others.
use Rattle.std.specs.Prelude.{◌≡◌, ℕ, ◌<◌, Bool, true, false, cond, List, [], ◌∷◌, ◌++◌, map, filter, flat_map}
use Rattle.std.specs.List.{AllByRecursion}
use Rattle.std.proofs.Common.{arith, refl, ◌∙◌, ap}
use Rattle.au_value.specs.declared.value.Value.{Value}
use Rattle.au_value.specs.Lists.{distinct}
use Rattle.au_algebra.specs.Lists.{same_row, copies}
use Rattle.au_algebra.specs.Ordinary.{Rows}
use Rattle.au_algebra.proofs.Copies.{copies-cons, counted_other}
use Rattle.au_algebra.proofs.DistinctKeys.{occurs_distinct}
use Rattle.au_plain.specs.declared.plan.PAgg.{PAgg}
use Rattle.au_plain.specs.Meaning.{kept, plain_group, plain_aggregate}
use Rattle.au_plain.specs.PlanNumbers.{magnitudes, group_numbers}
use Rattle.au_rwexpr.proofs.Gives.{map_valid, map-map}

module _ {S : Type 0} (P : S → Type 0) (f : S → List Value) where
  filtered_if : (b : Bool) (x : S) (ys : List S) (zs : Rows) → zs ≡ map f ys → cond b (f x ∷ zs) zs ≡ map f (cond b (x ∷ ys) ys)
  filtered_if true x ys zs h = λ i. f x ∷ h i
  filtered_if false x ys zs h = h

  -- rows that pass are made from those that pass
  pub filter_made : (test : List Value → Bool) (from : S → Bool) (xs : List S) → AllByRecursion P xs → ((x : S) → P x → test (f x) ≡ from x) → filter test (map f xs) ≡ map f (filter from xs)
  filter_made test from [] v h = refl
  filter_made test from (x ∷ xs) v h =
      filtered_if (test (f x)) x (filter from xs) (filter test (map f xs)) (filter_made test from xs v.1 h)
      ∙ ap (λ b. map f (cond b (x ∷ filter from xs) (filter from xs))) (h x v.0)

  module _ (keys : S → List Value) (places : List ℕ) (same : (x : S) → P x → kept places (f x) ≡ keys x) where
    abbrev pub belonging : List Value → List S → List S
    belonging key xs = filter (λ x. same_row key (keys x)) xs

    -- The groups of the made rows, by the keys of the others.
    pub group_made : (aggs : List PAgg) (xs : List S) → AllByRecursion P xs → plain_group places aggs (map f xs) ≡ map (λ key. key ++ map (plain_aggregate (map f (belonging key xs))) aggs) (distinct same_row (map keys xs))
    group_made aggs xs v =
        let made : (key : List Value) → filter (λ row. same_row key (kept places row)) (map f xs) ≡ map f (belonging key xs) =
        (λ key. filter_made (λ row. same_row key (kept places row)) (λ x. same_row key (keys x)) xs v (λ x p. ap (same_row key) (same x p))) in
        let all : map (kept places) (map f xs) ≡ map keys xs = map-map f (kept places) xs ∙ map_valid P (λ x. kept places (f x)) keys xs v same in
        λ i. map (λ key. key ++ map (plain_aggregate (made key i)) aggs) (distinct same_row (all i))

    -- and the numbers of their sums
    pub numbers_made : (aggs : List PAgg) (xs : List S) → AllByRecursion P xs → group_numbers places aggs (map f xs) ≡ flat_map (λ key. flat_map (magnitudes (map f (belonging key xs))) aggs) (distinct same_row (map keys xs))
    numbers_made aggs xs v =
        let made : (key : List Value) → filter (λ row. same_row key (kept places row)) (map f xs) ≡ map f (belonging key xs) =
        (λ key. filter_made (λ row. same_row key (kept places row)) (λ x. same_row key (keys x)) xs v (λ x p. ap (same_row key) (same x p))) in
        let all : map (kept places) (map f xs) ≡ map keys xs = map-map f (kept places) xs ∙ map_valid P (λ x. kept places (f x)) keys xs v same in
        λ i. flat_map (λ key. flat_map (magnitudes (made key i)) aggs) (distinct same_row (all i))

-- a group with a key that occurs: a first one, and others
module _ {S : Type 0} (keys : S → List Value) where
  pub record Some (key : List Value) (xs : List S) : Type 0 where
    pub first : S
    pub others : List S
    pub is : filter (λ x. same_row key (keys x)) xs ≡ first ∷ others
    pub key_is : same_row key (keys first) ≡ true

  some_if : (b : Bool) (g : List Value) (r : S) (rows : List S) → same_row g (keys r) ≡ b → (b ≡ false → Some g rows) → Some g (r ∷ rows)
  some_if true g r rows e ih =
      let rest = filter (λ x. same_row g (keys x)) rows in record { first = r; others = rest; is = ap (λ b. cond b (r ∷ rest) rest) e; key_is = e }
  some_if false g r rows e ih =
      let k = ih refl in
      let rest = filter (λ x. same_row g (keys x)) rows in
      record { first = k.first; others = k.others; is = ap (λ b. cond b (r ∷ rest) rest) e ∙ k.is; key_is = k.key_is }

  pub some_with : (g : List Value) (rows : List S) → 0 < copies g (map keys rows) → Some g rows
  some_with g [] some = let never : ⊥ = omega (arith, some) in absurd never
  some_with g (r ∷ rows) some =
      some_if (same_row g (keys r)) g r rows refl
      (λ f. some_with g rows (omega (arith, some, copies-cons g (keys r) (map keys rows), counted_other g (keys r) f)))

  -- each distinct key has a group
  pub all_occur : (xs : List S) → AllByRecursion (λ g. 0 < copies g (map keys xs)) (distinct same_row (map keys xs))
  all_occur xs = occurs_distinct (map keys xs)

  pub map_groups : {B : Type 0} (xs : List S) (f g : List Value → B) → ((key : List Value) → Some key xs → f key ≡ g key) → map f (distinct same_row (map keys xs)) ≡ map g (distinct same_row (map keys xs))
  map_groups xs f g h =
      map_valid (λ key. 0 < copies key (map keys xs)) f g (distinct same_row (map keys xs)) (all_occur xs) (λ key o. h key (some_with key xs o))
