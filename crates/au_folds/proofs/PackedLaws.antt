-- Keys that are packed: their numbers one by one, and that no two are the same key.
use Rattle.std.specs.Prelude.{◌≡◌, ◌<◌, ◌≤◌, ◌+◌, ◌-◌, ◌*◌, ◌^◌, ◌/◌, ◌%◌, ℕ, zero, suc, Bool, true, false, List, [], ◌∷◌, ◌++◌, drop, length, map, get_or, ℤ, pos, negsuc, bit_and, bit_or, ◌≤ℤ◌, ◌&&◌}
use Rattle.std.specs.Int.{w128}
use Rattle.std.specs.Int.RustNames.{FitsSigned}
use Rattle.std.specs.List.{AllByRecursion, IsDistinct, list_any}
use Rattle.std.specs.Ordering.{int_eq}
use Rattle.std.proofs.Common.{refl, sym, ap, ◌∙◌, arith, append_assoc, inl, inr, to_z, of_z}
use Rattle.std.proofs.Math.Pow.{pow-lt}
use Rattle.std.proofs.Math.Nat.{div-le_self, mod-eq_of_lt, mod-le}
use Rattle.std.proofs.lemmas.Bool.{cases_Bool, true≢false}
use Rattle.std.proofs.lemmas.Bool.Decides.{Decides-int_eq}
use Rattle.std.proofs.lemmas.Int.{ints, to_z_pos, to_z-of_z}
use Rattle.std.proofs.lemmas.List.{append-nil}
use Rattle.std.proofs.lemmas.Nat.{and_mask, mod_below, or_shifted, pow_pos, shr_split}
use Rattle.indexmap.specs.IndexSet.{insert_key}
use Rattle.au_codes.specs.Codes.{Cells, CellRows}
use Rattle.au_codes.specs.CellMeaning.{same_cells}
use Rattle.au_columns.specs.Steps.{number_at}
use Rattle.au_folds.specs.Keyed.{singles}
use Rattle.au_folds.specs.Packed.{high_part, low_part, unpacked}
use Rattle.au_folds.specs.Places.{place_of, places_among, seen_after, seen_with}
use Rattle.au_folds.proofs.CellKeys.{itself, same}
use Rattle.au_folds.proofs.KeySets.{insert_is, place_is, single_is}

-- a power that fits
pub power_fits : (w : ℕ) → w < 127 → 2 ^ w < 170141183460469231731687303715884105728
power_fits w below = pow-lt below

-- the numbers of a key from a place on: the next one and the others, or the last one alone
pub next_is : (w d i : ℕ) (p : ℤ) → i < d → unpacked w (d - i) p ≡ low_part w p ∷ unpacked w (d - (i + 1)) (high_part w p)
next_is w d i p below =
    let e : d - i ≡ suc (d - (i + 1)) = omega (arith, below) in
    ap (λ (n : ℕ). unpacked w n p) e

pub last_is : (w d i : ℕ) (p : ℤ) → d ≤ i → unpacked w (d - i) p ≡ p ∷ []
last_is w d i p past =
    let e : d - i ≡ 0 = omega (arith, past) in
    ap (λ (n : ℕ). unpacked w n p) e

-- past the last number there is none
pub none_past : (w d : ℕ) (p : ℤ) (k : ℕ) → d < k → number_at (unpacked w d p) k ≡ pos 0
none_past w zero p zero h = absurd (omega (arith, h))
none_past w zero p (suc k) h = refl
none_past w (suc d) p zero h = absurd (omega (arith, h))
none_past w (suc d) p (suc k) h = none_past w d (high_part w p) k (omega (arith, h))

-- the first number and what is left make the key
abbrev size : ℤ → ℕ
size (pos a) = a
size (negsuc a) = 0

pub whole : (w : ℕ) (p q : ℤ) → low_part w p ≡ low_part w q → high_part w p ≡ high_part w q → p ≡ q
whole w (pos a) (pos b) l h = ap pos (sym (shr_split a w) ∙ (λ i. size (h i) * 2 ^ w + size (l i)) ∙ shr_split b w)
whole w (pos a) (negsuc b) l h = cc
whole w (negsuc a) (pos b) l h = cc
whole w (negsuc a) (negsuc b) l h = l

-- and so keys of the same numbers are one
pub one_key : (w n : ℕ) (p q : ℤ) → unpacked w n p ≡ unpacked w n q → p ≡ q
one_key w zero p q e = ap (λ (zs : List ℤ). get_or zs 0 (pos 0)) e
one_key w (suc n) p q e =
    whole w p q (ap (λ (zs : List ℤ). get_or zs 0 (pos 0)) e) (one_key w n (high_part w p) (high_part w q) (ap (λ (zs : List ℤ). drop 1 zs) e))

pub packed_is : (w n : ℕ) (x y : ℤ) → int_eq x y ≡ same_cells (unpacked w n x) (unpacked w n y)
packed_is w n x y =
    elim (cases_Bool (int_eq x y)) [
      | inl equal ↦
          let e : x ≡ y = (Decides-int_eq x y).0 equal in
          equal ∙ sym (itself (unpacked w n x)) ∙ ap (λ (z : ℤ). same_cells (unpacked w n x) (unpacked w n z)) e
      | inr other ↦
          elim (cases_Bool (same_cells (unpacked w n x) (unpacked w n y))) [
            | inl here ↦ absurd (true≢false (sym ((Decides-int_eq x y).1 (one_key w n x y (same (unpacked w n x) (unpacked w n y) here))) ∙ other))
            | inr apart ↦ other ∙ sym apart
          ]
    ]

-- keys after several more
abbrev pub after : List ℤ → List ℤ → List ℤ
after ks [] = ks
after ks (j ∷ js) = after (insert_key int_eq ks j) js

abbrev heads : CellRows → List ℤ
heads rows = map (λ row. number_at row 0) rows

heads_are : (zs : List ℤ) → heads (singles zs) ≡ zs
heads_are [] = refl
heads_are (z ∷ zs) = ap (λ (ys : List ℤ). z ∷ ys) (heads_are zs)

module _ (u : ℤ → Cells) (agrees : (x y : ℤ) → int_eq x y ≡ same_cells (u x) (u y)) where
  pub after_is : (ks js : List ℤ) → seen_after (map u ks) (map u js) ≡ map u (after ks js)
  after_is ks [] = refl
  after_is ks (j ∷ js) =
      sym (ap (λ (s : CellRows). seen_after s (map u js)) (insert_is u int_eq agrees ks j)) ∙ after_is (insert_key int_eq ks j) js

  pub places_are : (ks js : List ℤ) → places_among (singles ks) (singles js) ≡ places_among (map u ks) (map u js)
  places_are ks [] = refl
  places_are ks (j ∷ js) =
      let place : place_of (singles ks) (j ∷ []) ≡ place_of (map u ks) (u j) =
      sym (place_is (λ (z : ℤ). z ∷ []) (int_eq j) (j ∷ []) (single_is j) ks) ∙ place_is u (int_eq j) (u j) (agrees j) ks in
      let later : places_among (seen_with (singles ks) (j ∷ [])) (singles js) ≡ places_among (seen_with (map u ks) (u j)) (map u js) =
      sym (ap (λ (s : CellRows). places_among s (singles js)) (insert_is (λ (z : ℤ). z ∷ []) int_eq single_is ks j))
      ∙ places_are (insert_key int_eq ks j) js
      ∙ ap (λ (s : CellRows). places_among s (map u js)) (insert_is u int_eq agrees ks j) in
      λ i. place i ∷ later i

none_more : (xs : List ℤ) (k j : ℤ) → list_any (int_eq j) xs ≡ false → int_eq j k ≡ false → list_any (int_eq j) (xs ++ k ∷ []) ≡ false
none_more [] k j h other = rw other refl
none_more (x ∷ xs) k j h other =
    elim (cases_Bool (int_eq j x)) [
      | inl here ↦ let t : true ≡ false = rw here at h in cc
      | inr apart ↦ let later : list_any (int_eq j) xs ≡ false = rw apart at h in rw apart (none_more xs k j later other)
    ]

turned : (k j : ℤ) → int_eq k j ≡ false → int_eq j k ≡ false
turned k j h =
    elim (cases_Bool (int_eq j k)) [
      | inl here ↦ absurd (true≢false (sym ((Decides-int_eq k j).1 (sym ((Decides-int_eq j k).0 here))) ∙ h))
      | inr other ↦ other
    ]

none_each : (xs : List ℤ) (k : ℤ) (js : List ℤ) → AllByRecursion (λ j. list_any (int_eq j) xs ≡ false) js → AllByRecursion (λ j. int_eq k j ≡ false) js
    → AllByRecursion (λ j. list_any (int_eq j) (xs ++ k ∷ []) ≡ false) js
none_each xs k [] h other = h
none_each xs k (j ∷ js) h other = (none_more xs k j h.0 (turned k j other.0), none_each xs k js h.1 other.1)

-- keys of which none is there twice all go behind the others
all_new : (xs js : List ℤ) → IsDistinct int_eq js → AllByRecursion (λ j. list_any (int_eq j) xs ≡ false) js → after xs js ≡ xs ++ js
unfolding IsDistinct
all_new xs [] unique none = sym (append-nil xs)
all_new xs (j ∷ js) unique none =
    rw none.0 (all_new (xs ++ j ∷ []) js unique.1 (none_each xs j js none.1 unique.0) ∙ append_assoc xs (j ∷ []) js)

none_at_all : (js : List ℤ) → AllByRecursion (λ j. list_any (int_eq j) [] ≡ false) js
none_at_all [] = tt
none_at_all (j ∷ js) = (refl, none_at_all js)

module _ (w n : ℕ) where
  abbrev u : ℤ → Cells
  u z = unpacked w n z

  -- places among keys that are packed, and the keys after them
  pub places_packed : (ks js : List ℤ) → places_among (singles ks) (singles js) ≡ places_among (map u ks) (map u js)
  places_packed ks js = places_are u (packed_is w n) ks js

  pub seen_packed : (ks js new : List ℤ) → singles new ≡ seen_after (singles ks) (singles js) → map u new ≡ seen_after (map u ks) (map u js)
  seen_packed ks js new is =
      let e : new ≡ after ks js = sym (heads_are new) ∙ ap heads (is ∙ after_is (λ (z : ℤ). z ∷ []) single_is ks js) ∙ heads_are (after ks js) in
      ap (map u) e ∙ sym (after_is u (packed_is w n) ks js)

  -- the keys of a set, put one after the other into an empty one
  pub all_put : (ks : List ℤ) → IsDistinct int_eq ks → seen_after [] (map u ks) ≡ map u ks
  all_put ks unique = after_is u (packed_is w n) [] ks ∙ ap (map u) (all_new [] ks unique (none_at_all ks))

-- the last bits of a number
pub low_is : (w : ℕ) (key mask : ℤ) → w < 127 → FitsSigned w128 key → pos 0 ≤ℤ key → mask ≡ pos (2 ^ w - 1) → to_z w128 (bit_and (of_z w128 key) (of_z w128 mask)) ≡ low_part w key
low_is w (pos a) mask small fits up is =
    let under = mod-le a (2 ^ w) in
    let held = fits.sfits in
    let below : a % 2 ^ w < 170141183460469231731687303715884105728 = omega (arith, under, held) in
    ap (λ (m : ℤ). to_z w128 (bit_and a (of_z w128 m))) is ∙ ap (to_z w128) (and_mask a w) ∙ to_z_pos w128 (a % 2 ^ w) below
low_is w (negsuc a) mask small fits up is = absurd (omega (arith, ints, up))

-- cells and the numbers of a key, from a place on: one more of them is alike, one is not, and the last ones decide
module _ (all : Bool) (xs : Cells) (x : ℤ) (w d i : ℕ) (rest : ℤ) (h : same_cells xs (unpacked w (d - i) rest) ≡ all) where
  pub next_alike : (later : Cells) (more : ℤ) → i < d → xs ≡ x ∷ later → int_eq x (low_part w rest) ≡ true → more ≡ high_part w rest
      → same_cells later (unpacked w (d - (i + 1)) more) ≡ all
  next_alike later more below is equal high =
      ap (λ (p : ℤ). same_cells later (unpacked w (d - (i + 1)) p)) high
      ∙ sym (ap (λ (b : Bool). b && same_cells later (unpacked w (d - (i + 1)) (high_part w rest))) equal)
      ∙ sym (λ j. same_cells (is j) (next_is w d i rest below j))
      ∙ h

  pub next_other : (later : Cells) → i < d → xs ≡ x ∷ later → int_eq x (low_part w rest) ≡ false → false ≡ all
  next_other later below is other =
      sym (ap (λ (b : Bool). b && same_cells later (unpacked w (d - (i + 1)) (high_part w rest))) other)
      ∙ sym (λ j. same_cells (is j) (next_is w d i rest below j))
      ∙ h

  pub last_decides : d ≤ i → xs ≡ x ∷ [] → int_eq x rest ≡ all
  last_decides past is = single_is x rest ∙ sym (λ j. same_cells (is j) (last_is w d i rest past j)) ∙ h

-- a key of other numbers in count is another one
pub long_keys : (w n : ℕ) (p : ℤ) → length (unpacked w n p) ≡ n + 1
long_keys w zero p = refl
long_keys w (suc n) p = let more = long_keys w n (high_part w p) in omega (arith, more)

pub other_long : (xs ys : Cells) → (length xs ≡ length ys → ⊥) → false ≡ same_cells xs ys
other_long xs ys other =
    elim (cases_Bool (same_cells xs ys)) [
      | inl here ↦ absurd (other (ap (λ (zs : Cells). length zs) (same xs ys here)))
      | inr apart ↦ sym apart
    ]

-- a number before the others
pub joined_is : (w : ℕ) (high low q : ℤ) → FitsSigned w128 q → high ≡ high_part w q → low ≡ low_part w q
    → to_z w128 (bit_or (of_z w128 high * 2 ^ w % 340282366920938463463374607431768211456) (of_z w128 low)) ≡ q
joined_is w high low (pos a) fits h l =
    let split = shr_split a w in
    let held = fits.sfits in
    let within : a / 2 ^ w * 2 ^ w < 340282366920938463463374607431768211456 = omega (arith, split, held) in
    let under : a % 2 ^ w < 2 ^ w = mod_below a (2 ^ w) (pow_pos w) in
    (λ i. to_z w128 (bit_or (of_z w128 (h i) * 2 ^ w % 340282366920938463463374607431768211456) (of_z w128 (l i))))
    ∙ ap (λ (n : ℕ). to_z w128 (bit_or n (a % 2 ^ w))) (mod-eq_of_lt within)
    ∙ ap (to_z w128) (or_shifted (a / 2 ^ w) w (a % 2 ^ w) under ∙ split)
    ∙ to_z_pos w128 a held
joined_is w high low (negsuc a) fits h l =
    let none : 0 * 2 ^ w % 340282366920938463463374607431768211456 ≡ 0 = omega arith in
    (λ i. to_z w128 (bit_or (of_z w128 (h i) * 2 ^ w % 340282366920938463463374607431768211456) (of_z w128 (l i))))
    ∙ ap (λ (n : ℕ). to_z w128 (bit_or n (of_z w128 (negsuc a)))) none
    ∙ to_z-of_z w128 (negsuc a) fits

-- the key of which some numbers are those of one number alone, or of a number before the others
pub alone_is : (w n : ℕ) (q : ℤ) (key : Cells) → unpacked w n q ≡ key → length key < 2 → number_at key 0 ≡ q
alone_is w zero q key is short = sym (ap (λ (zs : Cells). number_at zs 0) is)
alone_is w (suc n) q key is short =
    let long = long_keys w (suc n) q in
    let same = ap (λ (zs : Cells). length zs) is in
    let never : ⊥ = omega (arith, long, same, short) in
    absurd never

high_fits : (w : ℕ) (q : ℤ) → FitsSigned w128 q → FitsSigned w128 (high_part w q)
high_fits w (pos a) fits = let held = fits.sfits in let less = div-le_self a (2 ^ w) in record { sfits = omega (arith, held, less) }
high_fits w (negsuc a) fits = record { sfits = omega arith }

pub before_others : (w : ℕ) (key : Cells) (rest made : ℤ) (n : ℕ) (q : ℤ) → FitsSigned w128 q → unpacked w n q ≡ key → 2 ≤ length key
    → ((m : ℕ) (p : ℤ) → FitsSigned w128 p → unpacked w m p ≡ drop 1 key → rest ≡ p)
    → ((p : ℤ) → FitsSigned w128 p → rest ≡ high_part w p → number_at key 0 ≡ low_part w p → made ≡ p)
    → made ≡ q
before_others w key rest made zero q fits is long others join =
    let same = ap (λ (zs : Cells). length zs) is in
    let never : ⊥ = omega (arith, same, long) in
    absurd never
before_others w key rest made (suc m) q fits is long others join =
    join q fits (others m (high_part w q) (high_fits w q fits) (ap (λ (zs : Cells). drop 1 zs) is)) (sym (ap (λ (zs : Cells). number_at zs 0) is))

-- numbers that are no key's are among none
pub none_there : (u : ℤ → Cells) (key : Cells) (p : ℤ) → ((q : ℤ) → FitsSigned w128 q → u q ≡ key → p ≡ q) → same_cells key (u p) ≡ false
    → (ks : List ℤ) → AllByRecursion (FitsSigned w128) ks → list_any (same_cells key) (map u ks) ≡ false
none_there u key p only apart [] fits = refl
none_there u key p only apart (k ∷ ks) fits =
    elim (cases_Bool (same_cells key (u k))) [
      | inl here ↦
          let e : p ≡ k = only k fits.0 (sym (same key (u k) here)) in
          absurd (true≢false (sym (ap (λ (z : ℤ). same_cells key (u z)) e ∙ here) ∙ apart))
      | inr other ↦ rw other (none_there u key p only apart ks fits.1)
    ]
