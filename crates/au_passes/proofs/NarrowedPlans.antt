-- Narrowed plans, operator by operator: the columns that are read are found in them.
use Rattle.std.specs.Prelude.{◌≡◌, ◌<◌, ◌≤◌, ◌+◌, ◌-◌, ◌||◌, ◌++◌, ◌⊎◌, Bool, true, false, drop, ℕ, zero, suc, List, [], ◌∷◌, length, map, nat_le, option_map, slice_get, slice_index, Some, take}
use Rattle.std.specs.List.{AllByRecursion, range_with_len}
use Rattle.std.proofs.Common.{arith, refl, sym, ap, subst, ◌∙◌, inl, inr, length-append, append_assoc}
use Rattle.std.proofs.lemmas.Bool.Decides.{nat_tests}
use Rattle.std.proofs.lemmas.List.{get_or_append_left, get_or-append-add}
use Rattle.std.proofs.lemmas.List.FromFn.{length-range_with_len, get_or-range_with_len}
use Rattle.std.proofs.lemmas.Option.{slice_get_within, slice_get-get_or, slice_get-map}
use Rattle.au_algebra.proofs.Each.{all_from}
use Rattle.au_plain.specs.PTerms.{PTerm}
use Rattle.au_plain.specs.Plans.{PlanTree, Scan, Rows, Extend, Filter, Group, Join, Keep, Union}
use Rattle.au_passes.specs.Pruning.{HasColumns, Narrowed, Narrows, renumbered}
use Rattle.au_plain.specs.Widths.{plan_width}
use Rattle.au_passes.specs.Reading.{columns, is_marked, mark_all, places_from, ranks, read_places, reads_last}
use Rattle.au_passes.proofs.KeptColumns.{get_past, get_wider}
use Rattle.au_passes.proofs.MarkLaws.{all_long, all_set, all_stay, ranked}
use Rattle.au_passes.proofs.Narrowing.{ReadsFound, extend_read, extend_unread, itself, of_filter}
use Rattle.au_passes.proofs.Renumbering.{Reaches, columns_within}

-- ---- marks

pub marked_within : (marks : List Bool) (i : ℕ) → is_marked marks i ≡ true → i < length marks
marked_within [] i h = cc
marked_within (b ∷ marks) zero h = omega arith
marked_within (b ∷ marks) (suc i) h = let rest = marked_within marks i h in omega (arith, rest)

pub marked_front : (n : ℕ) (marks : List Bool) (i : ℕ) → i < n → is_marked marks i ≡ true → is_marked (take n marks) i ≡ true
marked_front zero marks i l h = let never : ⊥ = omega (arith, l) in absurd never
marked_front (suc n) [] i l h = h
marked_front (suc n) (b ∷ marks) zero l h = h
marked_front (suc n) (b ∷ marks) (suc i) l h = marked_front n marks i (omega (arith, l)) h

pub marked_back : (n : ℕ) (marks : List Bool) (i j : ℕ) → i ≡ n + j → is_marked marks i ≡ true → is_marked (drop n marks) j ≡ true
marked_back zero marks i j e h = let same : i ≡ j = omega (arith, e) in subst (λ k. is_marked marks k ≡ true) same h
marked_back (suc n) [] i j e h = h
marked_back (suc n) (b ∷ marks) zero j e h = let never : ⊥ = omega (arith, e) in absurd never
marked_back (suc n) (b ∷ marks) (suc i) j e h = marked_back n marks i j (omega (arith, e)) h

pub take_long : (n : ℕ) (marks : List Bool) → n ≤ length marks → length (take n marks) ≡ n
take_long zero marks h = refl
take_long (suc n) [] h = let never : ⊥ = omega (arith, h) in absurd never
take_long (suc n) (b ∷ marks) h = ap suc (take_long n marks (omega (arith, h)))

pub drop_long : (n : ℕ) (marks : List Bool) (m : ℕ) → length marks ≡ n + m → length (drop n marks) ≡ m
drop_long zero marks m h = omega (arith, h)
drop_long (suc n) [] m h = let never : ⊥ = omega (arith, h) in absurd never
drop_long (suc n) (b ∷ marks) m h = drop_long n marks m (omega (arith, h))

marked_here : (before marks : List Bool) (n : ℕ) → n ≡ length before → is_marked (before ++ true ∷ marks) n ≡ true
marked_here [] marks zero h = refl
marked_here [] marks (suc n) h = let never : ⊥ = omega (arith, h) in absurd never
marked_here (b ∷ before) marks zero h = let never : ⊥ = omega (arith, h) in absurd never
marked_here (b ∷ before) marks (suc n) h = marked_here before marks n (omega (arith, h))

marked_from : (before marks : List Bool) (n : ℕ) → n ≡ length before → AllByRecursion (λ i. is_marked (before ++ marks) i ≡ true) (places_from n marks)
marked_from before [] n h = tt
marked_from before (true ∷ marks) n h =
    (marked_here before marks n h, subst (λ ms. AllByRecursion (λ i. is_marked ms i ≡ true) (places_from (n + 1) marks)) (append_assoc before (true ∷ []) marks) (marked_from (before ++ true ∷ []) marks (n + 1) (omega (arith, h, length-append before (true ∷ [])))))
marked_from before (false ∷ marks) n h =
    subst (λ ms. AllByRecursion (λ i. is_marked ms i ≡ true) (places_from (n + 1) marks)) (append_assoc before (false ∷ []) marks) (marked_from (before ++ false ∷ []) marks (n + 1) (omega (arith, h, length-append before (false ∷ []))))

-- the places of marked columns are marked
pub places_marked : (marks : List Bool) → AllByRecursion (λ i. is_marked marks i ≡ true) (read_places marks)
places_marked marks = marked_from [] marks 0 refl

-- ---- where columns are found

-- each of so many columns is found in its place
pub counted_finds : (w i : ℕ) → i < w → slice_get (range_with_len 0 w) (slice_index (range_with_len 0 w) i) ≡ Some i
counted_finds w i h =
    let here : slice_index (range_with_len 0 w) i ≡ i = get_or-range_with_len 0 w i 0 h ∙ (let e : 0 + i ≡ i = omega arith in e) in
    let within : i < length (range_with_len 0 w) = omega (arith, h, length-range_with_len 0 w) in
    ap (slice_get (range_with_len 0 w)) here ∙ slice_get-get_or (range_with_len 0 w) i 0 within ∙ ap (λ n. Some n) here

pub ranks_find : (marks : List Bool) (i : ℕ) → is_marked marks i ≡ true → slice_get (read_places marks) (slice_index (ranks 0 marks) i) ≡ Some i
ranks_find marks i h =
    let r = ranked 0 0 marks i h in
    let rank : slice_index (ranks 0 marks) i ≡ r.rank = r.is ∙ (let e : 0 + r.rank ≡ r.rank = omega arith in e) in
    ap (slice_get (read_places marks)) rank ∙ r.there ∙ ap (λ n. Some n) (let e : 0 + i ≡ i = omega arith in e)

pub first_part : (pl qs fa gs : List ℕ) (i : ℕ) → i < length fa → slice_get pl (slice_index fa i) ≡ Some i → slice_get (pl ++ qs) (slice_index (fa ++ gs) i) ≡ Some i
first_part pl qs fa gs i l h =
    ap (slice_get (pl ++ qs)) (get_or_append_left fa gs 0 i l)
    ∙ get_wider pl qs (slice_index fa i) (slice_get_within pl (slice_index fa i) i h) ∙ h

pub second_part : (pl fa : List ℕ) (w c : ℕ) (marks : List Bool) (i j : ℕ) → length fa ≡ w → c ≡ length pl → i ≡ w + j → is_marked marks j ≡ true → slice_get (pl ++ map (λ n. w + n) (read_places marks)) (slice_index (fa ++ ranks c marks) i) ≡ Some i
second_part pl fa w c marks i j long count at h =
    let r = ranked c 0 marks j h in
    let place : slice_index (fa ++ ranks c marks) i ≡ c + r.rank =
    ap (slice_index (fa ++ ranks c marks)) (at ∙ ap (λ n. n + j) (sym long)) ∙ get_or-append-add fa (ranks c marks) j 0 ∙ r.is
    in
    ap (slice_get (pl ++ map (λ n. w + n) (read_places marks))) place
    ∙ get_past pl (map (λ n. w + n) (read_places marks)) r.rank (c + r.rank) (omega (arith, count))
    ∙ slice_get-map (λ n. w + n) (read_places marks) r.rank
    ∙ ap (option_map (λ n. w + n)) r.there
    ∙ ap (λ n. Some n) (let e : w + (0 + j) ≡ i = omega (arith, at) in e)

-- the columns of an expression that are marked are found
pub found_columns : (places found : List ℕ) (marks : List Bool) (w : ℕ) (e : PTerm) → length marks ≡ w → ((i : ℕ) → is_marked (mark_all (columns e) marks) i ≡ true → Reaches places found i) → ReadsFound places found w e
found_columns places found marks w e long finds = λ ks k l t.
    all_from (λ i. is_marked (mark_all (columns e) marks) i ≡ true) (Reaches places found) (columns e) finds
    (all_set (columns e) marks (length ks) (l ∙ sym long) (columns_within ks e k t))

-- ---- plans that give a column

pub width_some : (p : PlanTree) → HasColumns p → 0 < plan_width p
width_some (Scan t w) h = h
width_some (Rows w rows) h = h
width_some (Extend e p) h = omega arith
width_some (Keep places p) h = h.0
width_some (Filter e p) h = width_some p h
width_some (Join e p q) h = let some = width_some p h.0 in omega (arith, some)
width_some (Union p q) h = width_some p h.0
width_some (Group keys aggs p) h = h.0

-- ---- leaves

pub narrowed_leaf : (p r : PlanTree) (marks : List Bool) (found : List ℕ) (w : ℕ) → w ≡ plan_width p → length marks ≡ plan_width p → r ≡ p → found ≡ range_with_len 0 w → Narrowed p marks r found
narrowed_leaf p r marks found w wide long r_is found_is =
    let own = plan_width p in
    let counted : found ≡ range_with_len 0 own = found_is ∙ ap (range_with_len 0) wide in
    record {
      places = range_with_len 0 own;
      narrows = subst (Narrows p (range_with_len 0 own)) (sym r_is) (itself p);
      counted = length-range_with_len 0 own ∙ ap plan_width (sym r_is);
      found_long = ap length counted ∙ length-range_with_len 0 own ∙ sym long;
      finds = λ i h.
          let within = marked_within marks i h in
          ap (λ f. slice_get (range_with_len 0 own) (slice_index f i)) counted ∙ counted_finds own i (omega (arith, within, long));
      some = λ h. omega (arith, h, long, length-range_with_len 0 own);
      wide = subst HasColumns (sym r_is);
    }

-- ---- an added column

-- marks of the columns before the last
pub before_last : (marks : List Bool) (w : ℕ) → length marks ≡ w + 1 → length (take (length marks - 1) marks) ≡ w
before_last marks w long = take_long (length marks - 1) marks (omega arith) ∙ omega (arith, long)

front_stays : (marks : List Bool) (w i : ℕ) → length marks ≡ w + 1 → i < w → is_marked marks i ≡ true → is_marked (take (length marks - 1) marks) i ≡ true
front_stays marks w i long l h = marked_front (length marks - 1) marks i (omega (arith, l, long)) h

place_cases : (i w : ℕ) → i < w + 1 → (i < w) ⊎ (i ≡ w)
place_cases zero zero h = inr refl
place_cases zero (suc w) h = inl (omega arith)
place_cases (suc i) zero h = let never : ⊥ = omega (arith, h) in absurd never
place_cases (suc i) (suc w) h = elim (place_cases i w (omega (arith, h))) [ inl l ↦ inl (omega (arith, l)) | inr e ↦ inr (ap suc e) ]

last_found : (places found : List ℕ) (c w i : ℕ) → length places ≡ c → length found ≡ w → i ≡ w → slice_get (places ++ w ∷ []) (slice_index (found ++ c ∷ []) i) ≡ Some i
last_found places found c w i pl fl at =
    let zero_more : w ≡ length found + 0 = omega (arith, fl) in
    let none_more : c ≡ length places + 0 = omega (arith, pl) in
    ap (λ n. slice_get (places ++ w ∷ []) (slice_index (found ++ c ∷ []) n)) (at ∙ zero_more)
    ∙ ap (slice_get (places ++ w ∷ [])) (get_or-append-add found (c ∷ []) 0 0)
    ∙ get_past places (w ∷ []) 0 c none_more
    ∙ ap (λ n. Some n) (sym at)

pub narrowed_extend :
    (p q r : PlanTree) (e : PTerm) (marks : List Bool) (found new : List ℕ) (c : ℕ) → length marks ≡ plan_width p + 1 →
    Narrowed p (mark_all (columns e) (take (length marks - 1) marks)) q found → c ≡ plan_width q →
    r ≡ Extend (renumbered found e) q → new ≡ found ++ c ∷ [] → Narrowed (Extend e p) marks r new
narrowed_extend p q r e marks found new c long n count r_is new_is =
    let w = plan_width p in
    let front = take (length marks - 1) marks in
    let read = found_columns n.places found front w e (before_last marks w long) n.finds in
    let found_w : length found ≡ w = n.found_long ∙ all_long (columns e) front ∙ before_last marks w long in
    record {
      places = n.places ++ w ∷ [];
      narrows = subst (Narrows (Extend e p) (n.places ++ w ∷ [])) (sym r_is) (extend_read p q n.places found e n.narrows read);
      counted = length-append n.places (w ∷ []) ∙ ap (λ k. k + 1) n.counted ∙ ap plan_width (sym r_is);
      found_long = ap length new_is ∙ length-append found (c ∷ []) ∙ ap (λ k. k + 1) found_w ∙ sym long;
      finds = λ i h.
          let within = marked_within marks i h in
          ap (λ f. slice_get (n.places ++ w ∷ []) (slice_index f i)) new_is
          ∙ elim (place_cases i w (omega (arith, within, long))) [
            | inl l ↦ first_part n.places (w ∷ []) found (c ∷ []) i (omega (arith, l, found_w)) (n.finds i (all_stay (columns e) front i (front_stays marks w i long l h)))
            | inr at ↦ last_found n.places found c w i (n.counted ∙ sym count) found_w at
          ];
      some = λ h. omega (arith, length-append n.places (w ∷ []));
      wide = λ h. subst HasColumns (sym r_is) (n.wide h);
    }

-- a column that is not read
pub narrowed_unread :
    (p q r : PlanTree) (e : PTerm) (marks : List Bool) (found new : List ℕ) → length marks ≡ plan_width p + 1 → reads_last marks ≡ false →
    Narrowed p (take (length marks - 1) marks) q found → r ≡ q → new ≡ found ++ 0 ∷ [] → Narrowed (Extend e p) marks r new
narrowed_unread p q r e marks found new long unread n r_is new_is =
    let w = plan_width p in
    let front = take (length marks - 1) marks in
    let found_w : length found ≡ w = n.found_long ∙ before_last marks w long in
    let last : w ≡ length marks - 1 = omega (arith, long) in
    let parts = neither (nat_le (length marks) 1) (is_marked marks (length marks - 1)) unread in
    record {
      places = n.places;
      narrows = subst (Narrows (Extend e p) n.places) (sym r_is) (extend_unread p q n.places e n.narrows);
      counted = n.counted ∙ ap plan_width (sym r_is);
      found_long = ap length new_is ∙ length-append found (0 ∷ []) ∙ ap (λ k. k + 1) found_w ∙ sym long;
      finds = λ i h.
          let within = marked_within marks i h in
          ap (λ f. slice_get n.places (slice_index f i)) new_is
          ∙ elim (place_cases i w (omega (arith, within, long))) [
            | inl l ↦ ap (slice_get n.places) (get_or_append_left found (0 ∷ []) 0 i (omega (arith, l, found_w))) ∙ n.finds i (front_stays marks w i long l h)
            | inr at ↦ let never : false ≡ true = sym parts.1 ∙ ap (is_marked marks) (sym last ∙ sym at) ∙ h in cc
          ];
      some = λ h.
          let more = more_than_one (length marks) parts.0 in
          n.some (omega (arith, more, before_last marks w long, long));
      wide = λ h. subst HasColumns (sym r_is) (n.wide h);
    }
  where
    neither : (a b : Bool) → (a || b) ≡ false → (a ≡ false) × (b ≡ false)
    neither true b h = cc
    neither false b h = (refl, h)

    more_than_one : (k : ℕ) → nat_le k 1 ≡ false → 1 < k
    more_than_one k h = grind (arith, nat_tests)

-- ---- filters

pub narrowed_filter :
    (p q r : PlanTree) (e : PTerm) (marks : List Bool) (found new : List ℕ) → length marks ≡ plan_width p →
    Narrowed p (mark_all (columns e) marks) q found → r ≡ Filter (renumbered found e) q → new ≡ found → Narrowed (Filter e p) marks r new
narrowed_filter p q r e marks found new long n r_is new_is =
    let read = found_columns n.places found marks (plan_width p) e long n.finds in
    record {
      places = n.places;
      narrows = subst (Narrows (Filter e p) n.places) (sym r_is) (of_filter p q n.places found e n.narrows read);
      counted = n.counted ∙ ap plan_width (sym r_is);
      found_long = ap length new_is ∙ n.found_long ∙ all_long (columns e) marks;
      finds = λ i h. ap (λ f. slice_get n.places (slice_index f i)) new_is ∙ n.finds i (all_stay (columns e) marks i h);
      some = λ h. n.some (omega (arith, h, all_long (columns e) marks));
      wide = λ h. subst HasColumns (sym r_is) (n.wide h);
    }
