-- The tables of some rows, and of those behind them, give the table of all.
use Rattle.std.specs.Prelude.{◌≡◌, ◌<◌, ◌+◌, ℕ, suc, Bool, true, false, cond, not, ◌||◌, List, [], ◌∷◌, ◌++◌, filter, length, map, ℤ, ◌+ℤ◌, nat_abs}
use Rattle.std.specs.List.{list_any}
use Rattle.std.proofs.Common.{refl, sym, ap, ◌∙◌, arith, append_assoc, inl, inr}
use Rattle.std.proofs.lemmas.Bool.{cases_Bool}
use Rattle.std.proofs.lemmas.Int.{ints}
use Rattle.std.proofs.lemmas.List.{append-nil, map-append}
use Rattle.std.proofs.lemmas.List.Elements.{filter-append}
use Rattle.std.proofs.lemmas.List.Sums.{sum_by-append}
use Rattle.au_value.specs.Adding.{no_terms, sum_of}
use Rattle.au_value.specs.Joining.{joined_sum}
use Rattle.au_value.specs.Lists.{distinct}
use Rattle.au_value.proofs.FirstSeen.{Apart, one, any-distinct, apart-distinct}
use Rattle.au_algebra.specs.Lists.{int_sum}
use Rattle.au_plain.specs.declared.plan.PAgg.{PAgg}
use Rattle.au_plain.specs.declared.plan.PAgg.TheVariants as agg
use Rattle.au_codes.specs.Codes.{Cells, CellRows}
use Rattle.au_codes.specs.CellMeaning.{cell_in, cell_members, cells_kept, greater_number, greatest_number, least_number, lesser_number, same_cells}
use Rattle.au_folds.specs.Kept.{Sums, Lowest, Highest, column_of}
use Rattle.au_folds.specs.Laws.{TablesComeInParts, TablesStayAlike}
use Rattle.au_folds.specs.Merged.{agg_of, joined_all, merged}
use Rattle.au_folds.specs.Places.{place_of, places_among, seen_after, seen_with}
use Rattle.au_folds.specs.Puts.{put_all, put_at}
use Rattle.au_folds.specs.Tables.{keys_of, table_with}
use Rattle.au_folds.proofs.CellKeys.{distinct-push, itself, none_with, same, same_cells-Decides, some_members, turned}
use Rattle.au_folds.proofs.TableLaws.{first_keys, is_table, kept_of, table_of}
use Rattle.au_folds.proofs.Terms.{greater_three, lesser_three, sum_over}

abbrev Has : CellRows → Cells → Bool
Has keys k = list_any (same_cells k) keys

or_right : (b c : Bool) → c ≡ true → (b || c) ≡ true
or_right true c h = refl
or_right false c h = h

or_left : (b c : Bool) → b ≡ true → (b || c) ≡ true
or_left true c h = refl
or_left false c h = cc

neither : (b c : Bool) → (b || c) ≡ false → (b ≡ false) × (c ≡ false)
neither true c h = cc
neither false c h = (refl, h)

first_of_two : (b c : Bool) → (b || c) ≡ true → c ≡ false → b ≡ true
first_of_two true c h e = refl
first_of_two false c h e = sym e ∙ h

-- a key that is none of some keys is not one of them
apart_from : (c k : Cells) (keys : CellRows) → Has keys c ≡ false → Has keys k ≡ true → same_cells c k ≡ false
apart_from c k keys none there =
    elim (cases_Bool (same_cells c k)) [
      | inl here ↦ let t : true ≡ false = sym there ∙ ap (Has keys) (sym (same c k here)) ∙ none in cc
      | inr here ↦ here
    ]

-- ---- keys, one more

any_push : (k l : Cells) (keys : CellRows) → Has (keys ++ l ∷ []) k ≡ (Has keys k || same_cells k l)
any_push k l [] = last (same_cells k l)
  where
    last : (b : Bool) → (b || false) ≡ b
    last true = refl
    last false = refl
any_push k l (m ∷ keys) = elim (same_cells k m) as (λ b. (b || Has (keys ++ l ∷ []) k) ≡ ((b || Has keys k) || same_cells k l)) [
  | true ↦ refl
  | false ↦ any_push k l keys
]

held_already : (b c : Bool) → (c ≡ true → b ≡ true) → b ≡ (b || c)
held_already true c h = refl
held_already false true h = h refl
held_already false false h = refl

-- a key is among the keys with one more just where it was among them or is the one
any_with : (k l : Cells) (keys : CellRows) → Has (seen_with keys l) k ≡ (Has keys k || same_cells k l)
any_with k l keys =
    elim (cases_Bool (Has keys l)) [
      | inl here ↦ rw here (held_already (Has keys k) (same_cells k l) (λ e. ap (Has keys) (same k l e) ∙ here))
      | inr here ↦ rw here (any_push k l keys)
    ]

known_stays : (keys : CellRows) (k : Cells) → Has keys k ≡ true → seen_with keys k ≡ keys
known_stays keys k h = rw h refl

-- keys that are known change nothing
skip : (l : Cells) (keys more : CellRows) → Has keys l ≡ true → seen_after keys (filter (λ y. not (same_cells l y)) more) ≡ seen_after keys more
skip l keys [] h = refl
skip l keys (y ∷ more) h =
    elim (cases_Bool (same_cells l y)) [
      | inl here ↦
          let there : Has keys y ≡ true = ap (Has keys) (sym (same l y here)) ∙ h in
          rw here (skip l keys more h ∙ sym (ap (λ (ks : CellRows). seen_after ks more) (known_stays keys y there)))
      | inr here ↦
          let still : Has (seen_with keys y) l ≡ true = any_with l y keys ∙ or_left (Has keys l) (same_cells l y) h in
          rw here (skip l (seen_with keys y) more still)
    ]

each_once : (keys more : CellRows) → seen_after keys (distinct same_cells more) ≡ seen_after keys more
each_once keys [] = refl
each_once keys (k ∷ more) =
    let here : Has (seen_with keys k) k ≡ true = any_with k k keys ∙ or_right (Has keys k) (same_cells k k) (itself k) in
    skip k (seen_with keys k) (distinct same_cells more) here ∙ each_once (seen_with keys k) more

distinct_after : (xs ys : CellRows) → seen_after (distinct same_cells xs) ys ≡ distinct same_cells (xs ++ ys)
distinct_after xs [] = ap (distinct same_cells) (sym (append-nil xs))
distinct_after xs (y ∷ ys) =
    ap (λ (ks : CellRows). seen_after ks ys) (sym (distinct-push xs y)) ∙ distinct_after (xs ++ y ∷ []) ys ∙ ap (distinct same_cells) (append_assoc xs (y ∷ []) ys)

keys_after : (keys : List ℕ) (xs ys : CellRows) → seen_after (first_keys keys xs) (first_keys keys ys) ≡ first_keys keys (xs ++ ys)
keys_after keys xs ys =
    each_once (first_keys keys xs) (keys_of keys ys) ∙ distinct_after (keys_of keys xs) (keys_of keys ys) ∙ ap (distinct same_cells) (sym (map-append (cells_kept keys) xs ys))

-- ---- what is kept by both

module _ {S : Type 0} (first : S → S) (join : S → S → S) where
  -- what a function gives of keys in the first list and of those in the second, joined
  record Joins (keys more : CellRows) (g h m : Cells → S) : Type 0 where
    both : (k : Cells) → Has keys k ≡ true → Has more k ≡ true → join (g k) (h k) ≡ m k
    left : (k : Cells) → Has keys k ≡ true → Has more k ≡ false → g k ≡ m k
    right : (k : Cells) → Has keys k ≡ false → Has more k ≡ true → first (h k) ≡ m k

  map_on : (g m : Cells → S) (keys : CellRows) → ((k : Cells) → Has keys k ≡ true → g k ≡ m k) → map g keys ≡ map m keys
  map_on g m [] h = refl
  map_on g m (k ∷ keys) h =
      λ i. h k (or_left (same_cells k k) (Has keys k) (itself k)) i ∷ map_on g m keys (λ j there. h j (or_right (same_cells j k) (Has keys j) there)) i

  abbrev changed : (Cells → S) → Cells → S → Cells → S
  changed g l s k = cond (same_cells l k) s (g k)

  others : (g : Cells → S) (l : Cells) (s : S) (keys : CellRows) → Has keys l ≡ false → map g keys ≡ map (changed g l s) keys
  others g l s [] absent = refl
  others g l s (k ∷ keys) absent =
      let apart = neither (same_cells l k) (Has keys l) absent in
      rw apart.0 (ap (λ (ss : List S). g k ∷ ss) (others g l s keys apart.1))

  known : (g : Cells → S) (l : Cells) (x s : S) (keys : CellRows) → Apart same_cells keys → Has keys l ≡ true → join (g l) x ≡ s
      → put_at first join (map g keys) (place_of keys l) x ≡ map (changed g l s) keys
  known g l x s [] apart present is = cc
  known g l x s (k ∷ keys) (one absent apart) present is =
      elim (cases_Bool (same_cells l k)) [
        | inl here ↦
            let e : l ≡ k = same l k here in
            let none : Has keys l ≡ false = rw e absent in
            let this : join (g k) x ≡ s = ap (λ (c : Cells). join (g c) x) (sym e) ∙ is in
            rw here (λ i. this i ∷ others g l s keys none i)
        | inr here ↦
            let later : Has keys l ≡ true = rw here at present in
            let next : 1 + place_of keys l ≡ suc (place_of keys l) = omega arith in
            rw (here, next) (ap (λ (ss : List S). g k ∷ ss) (known g l x s keys apart later is))
      ]

  fresh : (g : Cells → S) (l : Cells) (x s : S) (keys : CellRows) → Has keys l ≡ false → first x ≡ s
      → put_at first join (map g keys) (place_of keys l) x ≡ map (changed g l s) (keys ++ l ∷ [])
  fresh g l x s [] absent is = rw (itself l) (ap (λ (t : S). t ∷ []) is)
  fresh g l x s (k ∷ keys) absent is =
      let apart = neither (same_cells l k) (Has keys l) absent in
      let next : 1 + place_of keys l ≡ suc (place_of keys l) = omega arith in
      rw (apart.0, next) (ap (λ (ss : List S). g k ∷ ss) (fresh g l x s keys apart.1 is))

  one_joined : (g : Cells → S) (l : Cells) (x s : S) (keys : CellRows) → Apart same_cells keys → (Has keys l ≡ true → join (g l) x ≡ s) → (Has keys l ≡ false → first x ≡ s)
      → put_at first join (map g keys) (place_of keys l) x ≡ map (changed g l s) (seen_with keys l)
  one_joined g l x s keys apart there absent =
      elim (cases_Bool (Has keys l)) [
        | inl here ↦ rw here (known g l x s keys apart here (there here))
        | inr here ↦ rw here (fresh g l x s keys here (absent here))
      ]

  apart_push : (keys : CellRows) (l : Cells) → Apart same_cells keys → Has keys l ≡ false → Apart same_cells (keys ++ l ∷ [])
  apart_push [] l apart h = one refl apart
  apart_push (k ∷ keys) l (one absent apart) h =
      let mine = neither (same_cells l k) (Has keys l) h in
      let other : same_cells k l ≡ false = turned k l ∙ mine.0 in
      one (any_push k l keys ∙ (λ i. absent i || other i)) (apart_push keys l apart mine.1)

  apart_with : (keys : CellRows) (l : Cells) → Apart same_cells keys → Apart same_cells (seen_with keys l)
  apart_with keys l apart =
      elim (cases_Bool (Has keys l)) [
        | inl here ↦ rw here apart
        | inr here ↦ rw here (apart_push keys l apart here)
      ]

  -- joined one after the other
  all_joined : (more keys : CellRows) (g h m : Cells → S) → Apart same_cells keys → Apart same_cells more → Joins keys more g h m
      → put_all first join (map g keys) (places_among keys more) (map h more) ≡ map m (seen_after keys more)
  all_joined [] keys g h m apart distinct_more j = map_on g m keys (λ k there. j.left k there refl)
  all_joined (l ∷ more) keys g h m apart (one absent others_apart) j =
      let mine = itself l in
      let put = one_joined g l (h l) (m l) keys apart (λ there. j.both l there (or_left (same_cells l l) (Has more l) mine)) (λ none. j.right l none (or_left (same_cells l l) (Has more l) mine)) in
      ap (λ (ss : List S). put_all first join ss (places_among (seen_with keys l) more) (map h more)) put
      ∙ all_joined more (seen_with keys l) (changed g l (m l)) h m (apart_with keys l apart) others_apart (later keys l more g h m absent j)
    where
      later : (ks : CellRows) (c : Cells) (cs : CellRows) (f e n : Cells → S) → Has cs c ≡ false → Joins ks (c ∷ cs) f e n → Joins (seen_with ks c) cs (changed f c (n c)) e n
      later ks c cs f e n none js = record {
        both = λ k there seen.
            let other : same_cells c k ≡ false = apart_from c k cs none seen in
            let here : Has ks k ≡ true = first_of_two (Has ks k) (same_cells k c) (sym (any_with k c ks) ∙ there) (turned k c ∙ other) in
            rw other (js.both k here (or_right (same_cells k c) (Has cs k) seen));
        left = λ k there absent_later.
            elim (cases_Bool (same_cells c k)) [
              | inl same_key ↦ rw same_key (ap n (same c k same_key))
              | inr other ↦
                  let here : Has ks k ≡ true = first_of_two (Has ks k) (same_cells k c) (sym (any_with k c ks) ∙ there) (turned k c ∙ other) in
                  rw other (js.left k here (λ i. (turned k c ∙ other) i || absent_later i))
            ];
        right = λ k gone seen.
            let parts = neither (Has ks k) (same_cells k c) (sym (any_with k c ks) ∙ gone) in
            js.right k parts.0 (or_right (same_cells k c) (Has cs k) seen);
      }

-- ---- aggregates over rows in two parts

module _ (keys : List ℕ) (xs ys : CellRows) {S : Type 0} (f : CellRows → S) (first : S → S) (join : S → S → S)
    (parts : (a b : CellRows) → 0 < length a → 0 < length b → join (f a) (f b) ≡ f (a ++ b)) (alone : (b : CellRows) → first (f b) ≡ f b) where
  abbrev members : CellRows → Cells → CellRows
  members rows k = cell_members keys rows k

  seen_in : (rows : CellRows) (k : Cells) → Has (first_keys keys rows) k ≡ Has (keys_of keys rows) k
  seen_in rows k = any-distinct same_cells same_cells-Decides k (keys_of keys rows)

  some_of : (rows : CellRows) (k : Cells) → Has (first_keys keys rows) k ≡ true → 0 < length (members rows k)
  some_of rows k h = some_members keys k rows (sym (seen_in rows k) ∙ h)

  none_of : (rows : CellRows) (k : Cells) → Has (first_keys keys rows) k ≡ false → members rows k ≡ []
  none_of rows k h = none_with keys k rows (sym (seen_in rows k) ∙ h)

  members_of : (k : Cells) → members xs k ++ members ys k ≡ members (xs ++ ys) k
  members_of k = sym (filter-append (λ (row : Cells). same_cells k (cells_kept keys row)) xs ys)

  joins : Joins first join (first_keys keys xs) (first_keys keys ys) (λ k. f (members xs k)) (λ k. f (members ys k)) (λ k. f (members (xs ++ ys) k))
  joins = record {
    both = λ k here there. parts (members xs k) (members ys k) (some_of xs k here) (some_of ys k there) ∙ ap f (members_of k);
    left = λ k here gone. ap f (sym (append-nil (members xs k)) ∙ ap (λ (b : CellRows). members xs k ++ b) (sym (none_of ys k gone)) ∙ members_of k);
    right = λ k gone there. alone (members ys k) ∙ ap f (ap (λ (a : CellRows). a ++ members ys k) (sym (none_of xs k gone)) ∙ members_of k);
  }

  pub joined_of :
      put_all first join (map (λ k. f (members xs k)) (first_keys keys xs)) (places_among (first_keys keys xs) (first_keys keys ys)) (map (λ k. f (members ys k)) (first_keys keys ys))
      ≡ map (λ k. f (members (xs ++ ys) k)) (first_keys keys (xs ++ ys))
  joined_of =
      all_joined first join (first_keys keys ys) (first_keys keys xs) _ _ _ (apart-distinct same_cells (keys_of keys xs)) (apart-distinct same_cells (keys_of keys ys)) joins
      ∙ ap (map (λ k. f (members (xs ++ ys) k))) (keys_after keys xs ys)

sum_parts : (c : ℕ) (a b : CellRows) → int_sum (column_of c a) +ℤ int_sum (column_of c b) ≡ int_sum (column_of c (a ++ b))
sum_parts c [] b = let z = int_sum (column_of c b) in omega (arith, ints)
sum_parts c (y ∷ a) b = let rest = sum_parts c a b in omega (arith, ints, rest)

sums_parts : (c : ℕ) (a b : CellRows) → joined_sum (sum_over c a) (sum_over c b) ≡ sum_over c (a ++ b)
sums_parts c a b = λ i. sum_of (sum_parts c a b i) (sym (sum_by-append (λ row. nat_abs (cell_in row c)) a b) i)

sum_alone : (c : ℕ) (b : CellRows) → joined_sum no_terms (sum_over c b) ≡ sum_over c b
sum_alone c b = sums_parts c [] b

least_of_both : (x : ℤ) (xs : List ℤ) (y : ℤ) (ys : List ℤ) → lesser_number (least_number (x ∷ xs)) (least_number (y ∷ ys)) ≡ least_number ((x ∷ xs) ++ y ∷ ys)
least_of_both x [] y ys = refl
least_of_both x (z ∷ xs) y ys = sym (lesser_three x (least_number (z ∷ xs)) (least_number (y ∷ ys))) ∙ ap (lesser_number x) (least_of_both z xs y ys)

greatest_of_both : (x : ℤ) (xs : List ℤ) (y : ℤ) (ys : List ℤ) → greater_number (greatest_number (x ∷ xs)) (greatest_number (y ∷ ys)) ≡ greatest_number ((x ∷ xs) ++ y ∷ ys)
greatest_of_both x [] y ys = refl
greatest_of_both x (z ∷ xs) y ys = sym (greater_three x (greatest_number (z ∷ xs)) (greatest_number (y ∷ ys))) ∙ ap (greater_number x) (greatest_of_both z xs y ys)

least_parts : (c : ℕ) (a b : CellRows) → 0 < length a → 0 < length b → lesser_number (least_number (column_of c a)) (least_number (column_of c b)) ≡ least_number (column_of c (a ++ b))
least_parts c [] b some more = absurd (omega arith)
least_parts c (x ∷ a) [] some more = absurd (omega arith)
least_parts c (x ∷ a) (y ∷ b) some more = least_of_both (cell_in x c) (column_of c a) (cell_in y c) (column_of c b) ∙ ap least_number (sym (map-append (λ row. cell_in row c) (x ∷ a) (y ∷ b)))

greatest_parts : (c : ℕ) (a b : CellRows) → 0 < length a → 0 < length b → greater_number (greatest_number (column_of c a)) (greatest_number (column_of c b)) ≡ greatest_number (column_of c (a ++ b))
greatest_parts c [] b some more = absurd (omega arith)
greatest_parts c (x ∷ a) [] some more = absurd (omega arith)
greatest_parts c (x ∷ a) (y ∷ b) some more = greatest_of_both (cell_in x c) (column_of c a) (cell_in y c) (column_of c b) ∙ ap greatest_number (sym (map-append (λ row. cell_in row c) (x ∷ a) (y ∷ b)))

-- ---- tables

module _ (keys : List ℕ) (xs ys : CellRows) where
  kept_both : (aggs : List PAgg) → joined_all (places_among (first_keys keys xs) (first_keys keys ys)) (map (kept_of keys xs) aggs) (map (kept_of keys ys) aggs) ≡ map (kept_of keys (xs ++ ys)) aggs
  kept_both [] = refl
  kept_both (agg.Sum c ∷ aggs) =
      λ i. Sums c (joined_of keys xs ys (sum_over c) (joined_sum no_terms) joined_sum (λ a b _ _. sums_parts c a b) (sum_alone c) i) ∷ kept_both aggs i
  kept_both (agg.Min c ∷ aggs) =
      λ i. Lowest c (joined_of keys xs ys (λ ms. least_number (column_of c ms)) (λ z. z) lesser_number (least_parts c) (λ b. refl) i) ∷ kept_both aggs i
  kept_both (agg.Max c ∷ aggs) =
      λ i. Highest c (joined_of keys xs ys (λ ms. greatest_number (column_of c ms)) (λ z. z) greater_number (greatest_parts c) (λ b. refl) i) ∷ kept_both aggs i

  tables_both : (aggs : List PAgg) → merged (table_of keys aggs xs) (table_of keys aggs ys) ≡ table_of keys aggs (xs ++ ys)
  tables_both aggs = λ i. table_with keys (keys_after keys xs ys i) (kept_both aggs i)

pub in_two_parts : TablesComeInParts
in_two_parts keys aggs xs ys =
    (λ i. merged (is_table keys aggs xs i) (is_table keys aggs ys i)) ∙ tables_both keys xs ys aggs ∙ sym (is_table keys aggs (xs ++ ys))

aggs_are : (keys : List ℕ) (rows : CellRows) (aggs : List PAgg) → map agg_of (map (kept_of keys rows) aggs) ≡ aggs
aggs_are keys rows [] = refl
aggs_are keys rows (agg.Sum c ∷ aggs) = ap (λ (more : List PAgg). agg.Sum c ∷ more) (aggs_are keys rows aggs)
aggs_are keys rows (agg.Min c ∷ aggs) = ap (λ (more : List PAgg). agg.Min c ∷ more) (aggs_are keys rows aggs)
aggs_are keys rows (agg.Max c ∷ aggs) = ap (λ (more : List PAgg). agg.Max c ∷ more) (aggs_are keys rows aggs)

pub stay_alike : TablesStayAlike
stay_alike keys aggs xs ys = record {
  keys = refl;
  aggs =
      ap (λ t. map agg_of t.kept) (is_table keys aggs ys)
      ∙ aggs_are keys ys aggs
      ∙ sym (ap (λ t. map agg_of t.kept) (is_table keys aggs xs) ∙ aggs_are keys xs aggs);
}
