-- Alternatives behind the numbers of their blocks: put in order by these numbers, they stand block behind block.
use Rattle.std.proofs.Common.{◌≡◌, ◌∙◌, ℕ, zero, suc, ◌+◌, ◌<◌, ◌≤◌, ◌&&◌, Bool, true, false, cond, List, [], ◌∷◌, ◌++◌, length, map, get_or, drop, Bor, ◌≢◌, inl, inr, refl, sym, ap, subst, append_assoc, arith, eq-eqb, eqb, ltb, Less, Equal, Greater}
use Rattle.std.specs.Prelude.{not, filter, flat_map, bytes_eq}
use Rattle.std.specs.List.{AllByRecursion, list_all, list_any, position_or_len, range_with_len}
use Rattle.std.specs.List.Sorted.{IsPermutation, IsSortedBy, IsStableBy}
use Rattle.std.specs.Ordering.{is_lt, nat_cmp}
use Rattle.std.proofs.lemmas.Bool.{cases_Bool, and_parts, and_from, eqb-true, ltb-true, ltb-false, lt-ltb, ne_eqb}
use Rattle.std.proofs.lemmas.List.{drop_all, drop_more, map-append}
use Rattle.std.proofs.lemmas.List.Elements.{All-from_recursion, filter-append, recursion_from_All}
use Rattle.std.proofs.lemmas.List.Sorted.{All-permutation}
use Rattle.std.proofs.lemmas.Slice.Eq.{bytes_eq-Decides}
use Rattle.au_value.specs.Texts.{Text}
use Rattle.au_value.proofs.FirstSeen.{Apart, one, any-distinct, apart-distinct}
use Rattle.au_csv.specs.Texts.{Record}
use Rattle.au_blocks.specs.declared.format.Format.{Format}
use Rattle.au_blocks.specs.Headers.{has_blocks}
use Rattle.au_blocks.specs.Entries.{label_of, labelled}
use Rattle.au_blocks.specs.Inferring.{is_alternative}
use Rattle.au_blocks.specs.Order.{AreFrom, Rise, by_numbers, chosen, labels, lent_numbered, number_of, numbered, of_number, with_number}
use Rattle.au_blocks.proofs.Distinct.{itself, turned, same}
use Rattle.au_blocks.proofs.GatherStep.{labels-push}
use Rattle.au_blocks.proofs.Places.{known-place}
use Rattle.au_blocks.proofs.WellFormed.{all-filter}

-- one number is before another
abbrev before : {X : Type 0} → ℕ × X → ℕ × X → Bool
before p q = is_lt (nat_cmp p.0 q.0)

tie-is : (k n : ℕ) → (not (ltb k n) && not (ltb n k)) ≡ eqb n k
tie-is k n =
    elim (cases_Bool (ltb k n)) [
      | inl low ↦ rw low (sym (ne_eqb n k (λ e. absurd (omega (arith, ltb-true k n low, e)))))
      | inr up ↦
          elim (cases_Bool (ltb n k)) [
            | inl low ↦ rw (up, low) (sym (ne_eqb n k (λ e. absurd (omega (arith, ltb-true n k low, e)))))
            | inr down ↦ rw (up, down) (sym (eq-eqb n k (omega (arith, ltb-false k n up, ltb-false n k down))))
          ]
    ]

before-is : (k n : ℕ) → is_lt (nat_cmp k n) ≡ ltb k n
before-is k n =
    elim (ltb k n) as (λ b. is_lt (cond b Less (cond (eqb k n) Equal Greater)) ≡ b) [
      | true ↦ refl
      | false ↦ elim (eqb k n) as (λ e. is_lt (cond e Equal Greater) ≡ false) [ true ↦ refl | false ↦ refl ]
    ]

tied : (k n : ℕ) → (not (is_lt (nat_cmp k n)) && not (is_lt (nat_cmp n k))) ≡ eqb n k
tied k n = (λ i. not (before-is k n i) && not (before-is n k i)) ∙ tie-is k n

-- what a stable sort keeps, and what it puts in order
pub kept : {X : Type 0} (ps qs : List (ℕ × X)) (d : X) → IsStableBy before ps qs → (k : ℕ) → of_number k qs ≡ of_number k ps
kept ps qs d stable k = (λ i. filter (λ p. sym (tied k p.0) i) qs) ∙ stable (k, d) ∙ (λ i. filter (λ p. tied k p.0 i) ps)

-- what holds of all before a sort holds of all behind it
passes : {X : Type 0} (p : X → Bool) (xs : List X) → list_all p xs ≡ true → AllByRecursion (λ x. p x ≡ true) xs
passes p [] all = tt
passes p (x ∷ xs) all = let parts = and_parts (p x) (list_all p xs) all in (parts.0, passes p xs parts.1)

all-pass : {X : Type 0} (p : X → Bool) (xs : List X) → AllByRecursion (λ x. p x ≡ true) xs → list_all p xs ≡ true
all-pass p [] all = refl
all-pass p (x ∷ xs) all = and_from (p x) (list_all p xs) all.0 (all-pass p xs all.1)

pub kept-below : {X : Type 0} (p : X → Bool) (xs ys : List X) → IsPermutation xs ys → list_all p xs ≡ true → list_all p ys ≡ true
kept-below p xs ys same all =
    all-pass p ys (recursion_from_All (λ x. p x ≡ true) ys (All-permutation (λ x. p x ≡ true) xs ys same (All-from_recursion (λ x. p x ≡ true) xs (passes p xs all))))

rise-from : {X : Type 0} (p : ℕ × X) (ps : List (ℕ × X)) → IsSortedBy before (p ∷ ps) → AreFrom p.0 ps
rise-from p [] sorted = tt
rise-from p (q ∷ ps) sorted =
    let e : is_lt (nat_cmp q.0 p.0) ≡ false = sorted 0 p (omega arith) (omega arith) in
    let low : p.0 ≤ q.0 = ltb-false q.0 p.0 (sym (before-is q.0 p.0) ∙ e) in (
      low,
      rise-from q ps (λ k d from to.
          let one : suc k + 1 ≡ suc (k + 1) = omega arith in
          subst (λ n. before (get_or (p ∷ q ∷ ps) n d) (get_or (q ∷ ps) k d) ≡ false) one (sorted (suc k) d (omega arith) (omega arith))),
    )

pub risen : {X : Type 0} (ps : List (ℕ × X)) → IsSortedBy before ps → Rise ps
risen [] sorted = tt
risen (p ∷ ps) sorted = (omega arith, rise-from p ps sorted)

-- the same of numbered records that are lent
lent-from : (n : ℕ) (ps : List (ℕ × Bor Record)) → AreFrom n ps → AreFrom n (lent_numbered ps)
lent-from n [] rise = tt
lent-from n (p ∷ ps) rise = (rise.0, lent-from p.0 ps rise.1)

lent-below : (n : ℕ) (ps : List (ℕ × Bor Record)) → list_all (λ p. ltb p.0 n) (lent_numbered ps) ≡ list_all (λ p. ltb p.0 n) ps
lent-below n [] = refl
lent-below n (p ∷ ps) = ap (λ b. ltb p.0 n && b) (lent-below n ps)

lent-of : (k : ℕ) (ps : List (ℕ × Bor Record)) → of_number k (lent_numbered ps) ≡ lent_numbered (of_number k ps)
lent-of k [] = refl
lent-of k (p ∷ ps) =
    elim (eqb p.0 k) as (λ b. cond b ((p.0, p.1.now) ∷ of_number k (lent_numbered ps)) (of_number k (lent_numbered ps)) ≡ lent_numbered (cond b (p ∷ of_number k ps) (of_number k ps))) [
      | true ↦ ap (λ (qs : List (ℕ × Record)). (p.0, p.1.now) ∷ qs) (lent-of k ps)
      | false ↦ lent-of k ps
    ]

-- no record has a number below the first
above : (k n : ℕ) (ps : List (ℕ × Record)) → k < n → AreFrom n ps → with_number k ps ≡ []
above k n [] low rise = refl
above k n (p ∷ ps) low rise =
    let other : eqb p.0 k ≡ false = ne_eqb p.0 k (λ e. absurd (omega (arith, e, low, rise.0))) in
    rw other (above k p.0 ps (omega (arith, low, rise.0)) rise.1)

nothing-numbered : (a n : ℕ) → flat_map (λ k. with_number k []) (range_with_len a n) ≡ []
nothing-numbered a zero = refl
nothing-numbered a (suc n) = nothing-numbered (a + 1) n

-- the others are as they were without a record of a lower number
past-first : (p : ℕ × Record) (ps : List (ℕ × Record)) (a n : ℕ) → p.0 < a → flat_map (λ k. with_number k (p ∷ ps)) (range_with_len a n) ≡ flat_map (λ k. with_number k ps) (range_with_len a n)
past-first p ps a zero low = refl
past-first p ps a (suc n) low =
    let other : eqb p.0 a ≡ false = ne_eqb p.0 a (λ e. absurd (omega (arith, e, low))) in
    rw other (ap (λ (rs : List Record). with_number a ps ++ rs) (past-first p ps (a + 1) n (omega (arith, low))))

-- records whose numbers rise stand number by number
in-place : (n a : ℕ) (ps : List (ℕ × Record)) → AreFrom a ps → list_all (λ p. ltb p.0 (a + n)) ps ≡ true → flat_map (λ k. with_number k ps) (range_with_len a n) ≡ map (λ p. p.1) ps
in-place zero a [] rise below = refl
in-place zero a (p ∷ ps) rise below =
    let low = ltb-true p.0 (a + 0) (and_parts (ltb p.0 (a + 0)) (list_all (λ q. ltb q.0 (a + 0)) ps) below).0 in
    absurd (omega (arith, low, rise.0))
in-place (suc n) a [] rise below = nothing-numbered (a + 1) n
in-place (suc n) a (p ∷ ps) rise below =
    let parts = and_parts (ltb p.0 (a + suc n)) (list_all (λ q. ltb q.0 (a + suc n)) ps) below in
    elim (cases_Bool (eqb p.0 a)) [
      | inl here ↦
          let e : p.0 ≡ a = eqb-true p.0 a here in
          rw here
          (ap (λ (rs : List Record). p.1 ∷ (with_number a ps ++ rs)) (past-first p ps (a + 1) n (omega (arith, e)))
          ∙ ap (λ (rs : List Record). p.1 ∷ rs) (in-place (suc n) a ps (subst (λ m. AreFrom m ps) e rise.1) parts.1))
      | inr other ↦
          let ne : p.0 ≢ a = λ e. let t : eqb p.0 a ≡ true = eq-eqb p.0 a e in cc (t, other) in
          let from : a ≤ p.0 = rise.0 in
          let low : a + 1 ≤ p.0 = omega (arith, ne, from) in
          let shift : a + suc n ≡ a + 1 + n = omega arith in
          ap (λ (rs : List Record). rs ++ flat_map (λ k. with_number k (p ∷ ps)) (range_with_len (a + 1) n)) (above a (a + 1) (p ∷ ps) (omega arith) (low, rise.1))
          ∙ in-place n (a + 1) (p ∷ ps) (low, rise.1) (subst (λ m. list_all (λ q. ltb q.0 m) (p ∷ ps) ≡ true) shift below)
    ]

-- a stable sort by the numbers puts the records number by number
pub ordered : (ps qs : List (ℕ × Bor Record)) → Rise qs → ((k : ℕ) → of_number k qs ≡ of_number k ps) → (n : ℕ) → list_all (λ p. ltb p.0 n) qs ≡ true
    → map (λ p. p.1) (lent_numbered qs) ≡ by_numbers n (lent_numbered ps)
ordered ps qs rise stable n below =
    let e : n ≡ 0 + n = omega arith in
    let under : list_all (λ p. ltb p.0 (0 + n)) (lent_numbered qs) ≡ true = subst (λ m. list_all (λ p. ltb p.0 m) (lent_numbered qs) ≡ true) e (lent-below n qs ∙ below) in
    sym (in-place n 0 (lent_numbered qs) (lent-from 0 qs rise) under)
    ∙ (λ i. flat_map (λ k. map (λ p. p.1) ((lent-of k qs ∙ ap lent_numbered (stable k) ∙ sym (lent-of k ps)) i)) (range_with_len 0 n))

-- the place of a label among labels of which none stands twice
absent-at : (m : Text) (L : List Text) (i : ℕ) → list_any (bytes_eq m) L ≡ false → i < length L → bytes_eq m (get_or L i []) ≡ false
absent-at m [] i absent low = absurd (omega (arith, low))
absent-at m (x ∷ L) zero absent low =
    elim (cases_Bool (bytes_eq m x)) [
      | inl here ↦ let t : true ≡ false = rw here at absent in cc
      | inr other ↦ other
    ]
absent-at m (x ∷ L) (suc i) absent low =
    elim (cases_Bool (bytes_eq m x)) [
      | inl here ↦ let t : true ≡ false = rw here at absent in cc
      | inr other ↦ let later : list_any (bytes_eq m) L ≡ false = rw other at absent in absent-at m L i later (omega (arith, low))
    ]

shifted : (a b : ℕ) → eqb (1 + a) (suc b) ≡ eqb a b
shifted a b =
    elim (cases_Bool (eqb a b)) [
      | inl here ↦ let e = eqb-true a b here in rw here (eq-eqb (1 + a) (suc b) (omega (arith, e)))
      | inr other ↦
          let ne : a ≢ b = λ e. let t : eqb a b ≡ true = eq-eqb a b e in cc (t, other) in
          rw other (ne_eqb (1 + a) (suc b) (λ e. absurd (ne (omega (arith, e)))))
    ]

place-is : (x : Text) (L : List Text) → Apart bytes_eq L → (i : ℕ) → i < length L → eqb (position_or_len (bytes_eq x) L) i ≡ bytes_eq (get_or L i []) x
place-is x [] apart i low = absurd (omega (arith, low))
place-is x (m ∷ L) (one absent apart) zero low =
    elim (cases_Bool (bytes_eq x m)) [
      | inl here ↦ rw here (sym (turned m x ∙ here))
      | inr other ↦ rw other (ne_eqb (1 + position_or_len (bytes_eq x) L) 0 (λ e. absurd (omega (arith, e))) ∙ sym (turned m x ∙ other))
    ]
place-is x (m ∷ L) (one absent apart) (suc i) low =
    elim (cases_Bool (bytes_eq x m)) [
      | inl here ↦
          let no : bytes_eq (get_or L i []) x ≡ false = turned (get_or L i []) x ∙ ap (λ y. bytes_eq y (get_or L i [])) (same x m here) ∙ absent-at m L i absent (omega (arith, low)) in
          rw here (ne_eqb 0 (suc i) (λ e. absurd (omega (arith, e))) ∙ sym no)
      | inr other ↦ rw other (shifted (position_or_len (bytes_eq x) L) i ∙ place-is x L apart i (omega (arith, low)))
    ]

module _ (f : Format) (L : List Text) (apart : Apart bytes_eq L) where
  -- the alternatives with the number of a label
  group : (i : ℕ) → i < length L → (rows : List Record) → with_number i (map (number_of L) (filter (is_alternative f) rows)) ≡ filter (is_alternative f) (labelled (get_or L i []) rows)
  group i low [] = refl
  group i low (r ∷ rows) =
      let l = get_or L i [] in
      let at : eqb (position_or_len (bytes_eq (label_of r)) L) i ≡ bytes_eq l (label_of r) = place-is (label_of r) L apart i low in
      let rest = group i low rows in
      elim (cases_Bool (is_alternative f r)) [
        | inl here ↦
            elim (cases_Bool (bytes_eq l (label_of r))) [
              | inl own ↦ rw (own, here, at, own) (ap (λ (rs : List Record). r ∷ rs) rest)
              | inr other ↦ rw (other, here, at, other) rest
            ]
        | inr none ↦
            elim (cases_Bool (bytes_eq l (label_of r))) [
              | inl own ↦ rw (own, none) rest
              | inr other ↦ rw (other, none) rest
            ]
      ]

  groups : (rows : List Record) (n a : ℕ) → a + n ≡ length L
      → flat_map (λ k. with_number k (map (number_of L) (filter (is_alternative f) rows))) (range_with_len a n) ≡ flat_map (λ block. filter (is_alternative f) block) (map (λ l. labelled l rows) (drop a L))
  groups rows zero a long = rw (drop_all a L (omega (arith, long))) refl
  groups rows (suc n) a long =
      rw (drop_more L a [] (omega (arith, long))) (λ i. group a (omega (arith, long)) rows i ++ groups rows n (a + 1) (omega (arith, long)) i)

-- the alternatives number by number are those of each block
pub numbered-chosen : (f : Format) (rows : List Record) → has_blocks f ≡ true → by_numbers (length (labels rows)) (numbered f rows) ≡ chosen f rows
numbered-chosen f rows blocks = rw blocks (groups f (labels rows) (apart-distinct bytes_eq (map label_of rows)) rows (length (labels rows)) 0 (omega arith))

-- each record's label is known
member : (x : Text) (xs ys : List Text) → list_any (bytes_eq x) (xs ++ x ∷ ys) ≡ true
member x [] ys = rw (itself x) refl
member x (z ∷ xs) ys =
    elim (cases_Bool (bytes_eq x z)) [
      | inl here ↦ rw here refl
      | inr other ↦ rw other (member x xs ys)
    ]

abbrev is_known : List Text → Record → Bool
is_known L r = list_any (bytes_eq (label_of r)) L

known-from : (whole front : List Text) (rows : List Record) → front ++ map label_of rows ≡ whole → list_all (is_known whole) rows ≡ true
known-from whole front [] is = refl
known-from whole front (r ∷ rows) is =
    and_from (is_known whole r) (list_all (is_known whole) rows) (ap (list_any (bytes_eq (label_of r))) (sym is) ∙ member (label_of r) front (map label_of rows))
    (known-from whole (front ++ label_of r ∷ []) rows (append_assoc front (label_of r ∷ []) (map label_of rows) ∙ is))

all-known : (rows : List Record) → list_all (is_known (labels rows)) rows ≡ true
all-known rows = (λ i. list_all (λ r. any-distinct bytes_eq bytes_eq-Decides (label_of r) (map label_of rows) i) rows) ∙ known-from (map label_of rows) [] rows refl

below-all : (L : List Text) (rows : List Record) → list_all (is_known L) rows ≡ true → list_all (λ p. ltb p.0 (length L)) (map (number_of L) rows) ≡ true
below-all L [] known = refl
below-all L (r ∷ rows) known =
    let parts = and_parts (is_known L r) (list_all (is_known L) rows) known in
    and_from (ltb (position_or_len (bytes_eq (label_of r)) L) (length L)) (list_all (λ p. ltb p.0 (length L)) (map (number_of L) rows))
    (lt-ltb (position_or_len (bytes_eq (label_of r)) L) (length L) (known-place (bytes_eq (label_of r)) L parts.0)) (below-all L rows parts.1)

-- so the numbers are below the number of the labels
pub all-below : (f : Format) (rows : List Record) (ps : List (ℕ × Bor Record)) → lent_numbered ps ≡ numbered f rows → list_all (λ p. ltb p.0 (length (labels rows))) ps ≡ true
all-below f rows ps are =
    sym (lent-below (length (labels rows)) ps) ∙ ap (list_all (λ p. ltb p.0 (length (labels rows)))) are
    ∙ below-all (labels rows) (filter (is_alternative f) rows) (all-filter (is_known (labels rows)) (is_alternative f) rows (all-known rows))

-- a place stays where it is found before, or at the item behind
place-known : (p : Text → Bool) (xs : List Text) (y : Text) → list_any p xs ≡ true → position_or_len p (xs ++ y ∷ []) ≡ position_or_len p xs
place-known p [] y known = cc
place-known p (x ∷ xs) y known =
    elim (cases_Bool (p x)) [
      | inl here ↦ rw here refl
      | inr other ↦
          let later : list_any p xs ≡ true = rw other at known in
          rw other (ap (λ n. 1 + n) (place-known p xs y later))
    ]

place-last : (p : Text → Bool) (xs : List Text) (y : Text) → p y ≡ true → position_or_len p (xs ++ y ∷ []) ≡ position_or_len p xs
place-last p [] y here = rw here refl
place-last p (x ∷ xs) y here =
    elim (cases_Bool (p x)) [
      | inl first ↦ rw first refl
      | inr other ↦ rw other (ap (λ n. 1 + n) (place-last p xs y here))
    ]

same-places : (L : List Text) (l : Text) (rows : List Record) → list_all (is_known L) rows ≡ true → map (number_of (L ++ l ∷ [])) rows ≡ map (number_of L) rows
same-places L l [] known = refl
same-places L l (r ∷ rows) known =
    let parts = and_parts (is_known L r) (list_all (is_known L) rows) known in
    λ i. (place-known (bytes_eq (label_of r)) L l parts.0 i, r) ∷ same-places L l rows parts.1 i

-- one record more
last-numbered : (b : Bool) (M L : List Text) (r : Record) → position_or_len (bytes_eq (label_of r)) M ≡ position_or_len (bytes_eq (label_of r)) L
    → map (number_of M) (cond b (r ∷ []) []) ≡ cond b ((position_or_len (bytes_eq (label_of r)) L, r) ∷ []) []
last-numbered true M L r at = λ i. (at i, r) ∷ []
last-numbered false M L r at = refl

pub numbered-push : (f : Format) (rows : List Record) (r : Record)
    → numbered f (rows ++ r ∷ []) ≡ numbered f rows ++ cond (is_alternative f r) ((position_or_len (bytes_eq (label_of r)) (labels rows), r) ∷ []) []
numbered-push f rows r =
    let l = label_of r in
    let L = labels rows in
    let A = filter (is_alternative f) rows in
    let apart : (M : List Text) → map (number_of M) (filter (is_alternative f) (rows ++ r ∷ [])) ≡ map (number_of M) A ++ map (number_of M) (cond (is_alternative f r) (r ∷ []) []) =
    λ M. ap (map (number_of M)) (filter-append (is_alternative f) rows (r ∷ [])) ∙ map-append (number_of M) A (cond (is_alternative f r) (r ∷ []) []) in
    elim (cases_Bool (list_any (bytes_eq l) L)) [
      | inl known ↦
          let e : labels (rows ++ r ∷ []) ≡ L = labels-push rows r ∙ rw known refl in
          ap (λ (M : List Text). map (number_of M) (filter (is_alternative f) (rows ++ r ∷ []))) e ∙ apart L
          ∙ ap (λ (ps : List (ℕ × Record)). map (number_of L) A ++ ps) (last-numbered (is_alternative f r) L L r refl)
      | inr new ↦
          let e : labels (rows ++ r ∷ []) ≡ L ++ l ∷ [] = labels-push rows r ∙ rw new refl in
          let old = same-places L l A (all-filter (is_known L) (is_alternative f) rows (all-known rows)) in
          let last = last-numbered (is_alternative f r) (L ++ l ∷ []) L r (place-last (bytes_eq l) L l (itself l)) in
          ap (λ (M : List Text). map (number_of M) (filter (is_alternative f) (rows ++ r ∷ []))) e ∙ apart (L ++ l ∷ []) ∙ (λ i. old i ++ last i)
    ]

pub either : {X : Type 0} (absent alternative : Bool) (ps : List X) → alternative ≡ not absent → cond absent [] ps ≡ cond alternative ps []
either true alternative ps is = rw is refl
either false alternative ps is = rw is refl
