-- Places of boxes and of the aggregates that make them.
use Rattle.std.specs.Prelude.{◌≡◌, ℕ, zero, suc, ◌+◌, ◌*◌, ◌<◌, List, [], ◌∷◌, ◌++◌, length, map, Option, Some, slice_get, unwrap_or}
use Rattle.std.proofs.Common.{arith, refl, ap, subst, append_assoc}
use Rattle.std.proofs.lemmas.List.{length-append}
use Rattle.std.specs.Option.{option_map}
use Rattle.au_plain.specs.declared.plan.PAgg.TheVariants.{Min, Max}
use Rattle.au_combine.specs.Boxes.{box_aggs, weave}
use Rattle.au_rwexpr.specs.Cells.{run}
use Rattle.au_rwexpr.proofs.Places.{At, at_past, all_ends}
use Rattle.au_rwexpr.proofs.Picks.{Picks, picks_wider}
use Rattle.au_rwexpr.proofs.Gives.{same_map}

pub map_at : {A B : Type 0} (f : A → B) (xs : List A) (i : ℕ) (x : A) → At xs i x → At (map f xs) i (f x)
map_at f [] i x h = cc
map_at f (y ∷ xs) zero x h = ap (λ (o : Option _). option_map f o) h
map_at f (y ∷ xs) (suc i) x h = map_at f xs i x h

-- what stands in a place is there
pub at_own : {A : Type 0} (xs : List A) (i : ℕ) (d : A) → i < length xs → At xs i (unwrap_or (slice_get xs i) d)
at_own [] i d h = let never : ⊥ = omega (arith, h) in absurd never
at_own (x ∷ xs) zero d h = refl
at_own (x ∷ xs) (suc i) d h = at_own xs i d (omega (arith, h))

pub at_within : {A : Type 0} (xs : List A) (i : ℕ) (x : A) → At xs i x → i < length xs
at_within [] i x h = cc
at_within (y ∷ xs) zero x h = omega arith
at_within (y ∷ xs) (suc i) x h = omega (arith, at_within xs i x h)

pub box_aggs_long : (i k : ℕ) → length (box_aggs i k) ≡ 2 * k
box_aggs_long i zero = refl
box_aggs_long i (suc k) = omega (arith, box_aggs_long (i + 3) k)

pub box_low : (i k d j m : ℕ) → d < k → j ≡ 2 * d → m ≡ i + 3 * d → At (box_aggs i k) j (Min m)
box_low i zero d j m h e g = let never : ⊥ = omega (arith, h) in absurd never
box_low i (suc k) zero zero m h e g = ap (λ n. Some (Min n)) (let s : i ≡ m = omega (arith, g) in s)
box_low i (suc k) zero (suc j) m h e g = let never : ⊥ = omega (arith, e) in absurd never
box_low i (suc k) (suc d) zero m h e g = let never : ⊥ = omega (arith, e) in absurd never
box_low i (suc k) (suc d) (suc zero) m h e g = let never : ⊥ = omega (arith, e) in absurd never
box_low i (suc k) (suc d) (suc (suc j)) m h e g = box_low (i + 3) k d j m (omega (arith, h)) (omega (arith, e)) (omega (arith, g))

pub box_high : (i k d j m : ℕ) → d < k → j ≡ 2 * d + 1 → m ≡ i + 3 * d + 2 → At (box_aggs i k) j (Max m)
box_high i zero d j m h e g = let never : ⊥ = omega (arith, h) in absurd never
box_high i (suc k) d zero m h e g = let never : ⊥ = omega (arith, e) in absurd never
box_high i (suc k) zero (suc zero) m h e g = ap (λ n. Some (Max n)) (let s : i + 2 ≡ m = omega (arith, g) in s)
box_high i (suc k) zero (suc (suc j)) m h e g = let never : ⊥ = omega (arith, e) in absurd never
box_high i (suc k) (suc d) (suc zero) m h e g = let never : ⊥ = omega (arith, e) in absurd never
box_high i (suc k) (suc d) (suc (suc j)) m h e g = box_high (i + 3) k d j m (omega (arith, h)) (omega (arith, e)) (omega (arith, g))

-- three parts of each of several things, by places that may lie apart
module _ {A X : Type 0} (l s h : X → A) (row : List A) where
  pub weave_picks : (i j k : ℕ) (xs : List X) → length xs ≡ k → ((d : ℕ) (x : X) → At xs d x → At row (i + d) (s x) × At row (j + 2 * d) (l x) × At row (j + 2 * d + 1) (h x)) → Picks row (weave i j k) (all_ends l s h xs)
  weave_picks i j zero [] e found = tt
  weave_picks i j (suc k) [] e found = let never : ⊥ = omega (arith, e) in absurd never
  weave_picks i j zero (x ∷ xs) e found = let never : ⊥ = omega (arith, e) in absurd never
  weave_picks i j (suc k) (x ∷ xs) e found =
      let first = found 0 x refl in
      let at_i : At row i (s x) = subst (λ n. At row n (s x)) (let q : i + 0 ≡ i = omega arith in q) first.0 in
      let at_j : At row j (l x) = subst (λ n. At row n (l x)) (let q : j + 2 * 0 ≡ j = omega arith in q) first.1 in
      let at_next : At row (j + 1) (h x) = subst (λ n. At row n (h x)) (let q : j + 2 * 0 + 1 ≡ j + 1 = omega arith in q) first.2 in (
        at_j,
        (
          at_i,
          (
            at_next,
            weave_picks (i + 1) (j + 2) k xs (omega (arith, e))
                (λ d y a.
                (let there = found (suc d) y a in (
                  subst (λ n. At row n (s y)) (let q : i + suc d ≡ i + 1 + d = omega arith in q) there.0,
                  subst (λ n. At row n (l y)) (let q : j + 2 * suc d ≡ j + 2 + 2 * d = omega arith in q) there.1,
                  subst (λ n. At row n (h y)) (let q : j + 2 * suc d + 1 ≡ j + 2 + 2 * d + 1 = omega arith in q) there.2,
                ))),
          ),
        ),
      )

-- the last columns of a row
pub run_picks : {A B : Type 0} (g : B → A) (pre : List A) (xs : List B) (i : ℕ) → length pre ≡ i → Picks (pre ++ map g xs) (run i (length xs)) (map g xs)
run_picks g pre [] i e = tt
run_picks g pre (x ∷ xs) i e = (
  at_past pre (map g (x ∷ xs)) 0 i (g x) (omega (arith, e)) refl,
  subst (λ r. Picks r (run (i + 1) (length xs)) (map g xs)) (append_assoc pre (g x ∷ []) (map g xs))
      (run_picks g (pre ++ g x ∷ []) xs (i + 1) (omega (arith, e, length-append pre (g x ∷ [])))),
)

-- a run of places from the first on has the columns that stand there
pub first_picks : {A : Type 0} (xs more : List A) (w : ℕ) → length xs ≡ w → Picks (xs ++ more) (run 0 w) xs
first_picks {A} xs more w e =
    let all : Picks xs (run 0 (length xs)) xs = subst (λ ys. Picks ys (run 0 (length xs)) ys) (same_map xs) (run_picks (λ (x : A). x) [] xs 0 refl) in
    subst (λ m. Picks (xs ++ more) (run 0 m) xs) e (picks_wider xs more (run 0 (length xs)) xs all)
