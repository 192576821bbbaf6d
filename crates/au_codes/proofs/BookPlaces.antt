-- In a book in order a text stands at the place of its rank.
use Rattle.std.specs.Prelude.{◌≡◌, ◌<◌, ◌≤◌, ◌+◌, ℕ, suc, Bool, true, false, cond, ◌||◌, List, [], ◌∷◌, ◌++◌, length, Some, None, slice_get, position, bytes_eq, nat_lt, get_or}
use Rattle.std.specs.List.{AllByRecursion, position_or_len, IsDistinct}
use Rattle.std.specs.List.Sorted.{IsSortedBy}
use Rattle.std.specs.FinMap.{nat_cmp-IsAntisymmetric, slice_cmp-IsAntisymmetric}
use Rattle.std.proofs.lemmas.List.Sorted.{sorted_far, ranks_by}
use Rattle.std.proofs.lemmas.Map.Keys.{IsDistinct-head, IsDistinct-tail}
use Rattle.std.specs.declared.cmp.Ordering.{Ordering}
use Rattle.std.specs.declared.cmp.Ordering.TheVariants.{Less, Equal, Greater}
use Rattle.std.specs.Ordering.{nat_cmp, is_lt, ordering_reverse}
use Rattle.std.specs.Cmp.{tied_itself}
use Rattle.std.specs.Cmp.Lexicographic.{slice_cmp, nat_list_cmp_total}
use Rattle.std.proofs.Common.{arith, refl, sym, ap, ◌∙◌, inl, inr, subst}
use Rattle.std.proofs.lemmas.Bool.{cases_Bool, true≢false, lt-ltb}
use Rattle.std.proofs.lemmas.Slice.Eq.{bytes_eq-Decides}
use Rattle.au_codes.specs.Books.{Book, has, rank, rank_if_any, text_below, IsRising}

-- ---- having a text

same_text : (w : List ℕ) → bytes_eq w w ≡ true
same_text w = (bytes_eq-Decides w w).1 refl

text_is : (w t : List ℕ) → bytes_eq w t ≡ true → w ≡ t
text_is w t h = (bytes_eq-Decides w t).0 h

or_true : (b : Bool) → (b || true) ≡ true
or_true true = refl
or_true false = refl

pub has_here : (t w : List ℕ) (book : Book) → t ≡ w → has (t ∷ book) w ≡ true
has_here t w book e = ap (λ b. b || has book w) (ap (bytes_eq w) e ∙ same_text w)

pub has-append : (xs ys : Book) (w : List ℕ) → has ys w ≡ true → has (xs ++ ys) w ≡ true
has-append [] ys w h = h
has-append (x ∷ xs) ys w h = ap (λ b. bytes_eq w x || b) (has-append xs ys w h) ∙ or_true (bytes_eq w x)

-- ---- ranks in a book in order

-- a text that is not above any of the book has rank 0
rank_zero : (book : Book) (w : List ℕ) → AllByRecursion (λ s. slice_cmp nat_cmp w s ≡ Less) book → rank book w ≡ 0
rank_zero [] w h = refl
rank_zero (t ∷ book) w h =
    let above : text_below t w ≡ false = ap is_lt (nat_list_cmp_total.antisymm t w ∙ ap ordering_reverse h.0) in
    ap (λ b. cond b (suc (rank book w)) (rank book w)) above ∙ rank_zero book w h.1

-- the first text
rank_first : (t : List ℕ) (book : Book) → AllByRecursion (λ s. slice_cmp nat_cmp t s ≡ Less) book → rank (t ∷ book) t ≡ 0
rank_first t book h = ap (λ b. cond b (suc (rank book t)) (rank book t)) (ap is_lt (tied_itself nat_list_cmp_total t)) ∙ rank_zero book t h

pub all_has : (P : List ℕ → Type 0) (book : Book) (w : List ℕ) → AllByRecursion P book → has book w ≡ true → P w
all_has P [] w h g = absurd (true≢false (sym g))
all_has P (t ∷ book) w h g =
    elim (cases_Bool (bytes_eq w t)) [
      | inl here ↦ subst P (sym (text_is w t here)) h.0
      | inr here ↦ all_has P book w h.1 (rw here at g)
    ]

-- a later one
rank_later : (t w : List ℕ) (book : Book) → AllByRecursion (λ s. slice_cmp nat_cmp t s ≡ Less) book → has book w ≡ true → rank (t ∷ book) w ≡ suc (rank book w)
rank_later t w book h g =
    let under : text_below t w ≡ true = ap is_lt (all_has (λ s. slice_cmp nat_cmp t s ≡ Less) book w h g) in
    ap (λ b. cond b (suc (rank book w)) (rank book w)) under

pub place_is_rank : (book : Book) (w : List ℕ) → IsRising book → has book w ≡ true → slice_get book (rank book w) ≡ Some w
place_is_rank [] w up h = absurd (true≢false (sym h))
place_is_rank (t ∷ book) w up h =
    elim (cases_Bool (bytes_eq w t)) [
      | inl here ↦
          let same = text_is w t here in
          ap (λ u. slice_get (t ∷ book) (rank (t ∷ book) u)) same ∙ ap (slice_get (t ∷ book)) (rank_first t book up.0) ∙ ap Some (sym same)
      | inr here ↦
          let later : has book w ≡ true = rw here at h in
          ap (slice_get (t ∷ book)) (rank_later t w book up.0 later) ∙ place_is_rank book w up.1 later
    ]

pub has_first : (xs ys : Book) (w : List ℕ) → has xs w ≡ true → has (xs ++ ys) w ≡ true
has_first [] ys w h = absurd (true≢false (sym h))
has_first (x ∷ xs) ys w h =
    elim (cases_Bool (bytes_eq w x)) [
      | inl here ↦ rw here refl
      | inr here ↦ rw here (has_first xs ys w (rw here at h))
    ]

-- ---- the first place of a text

place_found : (book : Book) (w : List ℕ) → IsRising book → has book w ≡ true → position_or_len (bytes_eq w) book ≡ rank book w
place_found [] w up h = absurd (true≢false (sym h))
place_found (t ∷ book) w up h =
    elim (cases_Bool (bytes_eq w t)) [
      | inl here ↦
          let same = text_is w t here in
          rw here (sym (ap (rank (t ∷ book)) same ∙ rank_first t book up.0))
      | inr here ↦
          let later : has book w ≡ true = rw here at h in
          let found = place_found book w up.1 later in
          let more = rank_later t w book up.0 later in
          rw here (let e : 1 + position_or_len (bytes_eq w) book ≡ rank (t ∷ book) w = omega (arith, found, more) in e)
    ]

place_within : (book : Book) (w : List ℕ) → has book w ≡ true → position_or_len (bytes_eq w) book < length book
place_within [] w h = absurd (true≢false (sym h))
place_within (t ∷ book) w h =
    elim (cases_Bool (bytes_eq w t)) [
      | inl here ↦ rw here (let e : 0 < length (t ∷ book) = omega arith in e)
      | inr here ↦
          let later : has book w ≡ true = rw here at h in
          let below = place_within book w later in
          rw here (let e : 1 + position_or_len (bytes_eq w) book < length (t ∷ book) = omega (arith, below) in e)
    ]

place_none : (book : Book) (w : List ℕ) → has book w ≡ false → position_or_len (bytes_eq w) book ≡ length book
place_none [] w h = refl
place_none (t ∷ book) w h =
    elim (cases_Bool (bytes_eq w t)) [
      | inl here ↦ let t = rw here at h in cc
      | inr here ↦
          let later : has book w ≡ false = rw here at h in
          let past = place_none book w later in
          rw here (let e : 1 + position_or_len (bytes_eq w) book ≡ length (t ∷ book) = omega (arith, past) in e)
    ]

position_by : (b : Bool) (book : Book) (w : List ℕ) → has book w ≡ b → IsRising book → position (bytes_eq w) book ≡ cond b (Some (rank book w)) None
position_by true book w h up = rw (lt-ltb (position_or_len (bytes_eq w) book) (length book) (place_within book w h)) (ap Some (place_found book w up h))
position_by false book w h up =
    let past : nat_lt (position_or_len (bytes_eq w) book) (length book) ≡ false = let e = place_none book w h in grind (arith, e) in
    rw past refl

-- the first place of a text is its rank
pub position_is_rank : (book : Book) (w : List ℕ) → IsRising book → position (bytes_eq w) book ≡ rank_if_any book w
position_is_rank book w up = position_by (has book w) book w refl up

-- ---- texts in order, of which none is twice

abbrev Far : Book → Type 0
Far book = (i j : ℕ) (d : List ℕ) → i ≤ j → j < length book → text_below (get_or book j d) (get_or book i d) ≡ false

less_from : (r : Ordering) (t s : List ℕ) → slice_cmp nat_cmp t s ≡ r → text_below s t ≡ false → bytes_eq t s ≡ false → r ≡ Less
less_from Less t s e h g = refl
less_from Equal t s e h g =
    let same : t ≡ s = slice_cmp-IsAntisymmetric nat_cmp-IsAntisymmetric t s e in
    absurd (true≢false (sym (same_text t) ∙ ap (bytes_eq t) same ∙ g))
less_from Greater t s e h g =
    let under : text_below s t ≡ true = ap is_lt (nat_list_cmp_total.antisymm s t ∙ ap ordering_reverse e) in
    absurd (true≢false (sym under ∙ h))

all_above : (t : List ℕ) (book : Book) → ((j : ℕ) (d : List ℕ) → j < length book → text_below (get_or book j d) t ≡ false) → AllByRecursion (λ s. bytes_eq t s ≡ false) book → AllByRecursion (λ s. slice_cmp nat_cmp t s ≡ Less) book
all_above t [] f h = tt
all_above t (s ∷ book) f h = (
  less_from (slice_cmp nat_cmp t s) t s refl (f 0 s (let e : 0 < length (s ∷ book) = omega arith in e)) h.0,
  all_above t book (λ j d b. f (suc j) d (let e : suc j < length (s ∷ book) = omega (arith, b) in e)) h.1,
)

rising_by : (book : Book) → Far book → IsDistinct bytes_eq book → IsRising book
rising_by [] far apart = tt
rising_by (t ∷ book) far apart = (
  all_above t book (λ j d b. far 0 (suc j) d (let e : 0 ≤ suc j = omega arith in e) (let e : suc j < length (t ∷ book) = omega (arith, b) in e)) (IsDistinct-head bytes_eq t book apart),
  rising_by book (λ i j d h b. far (suc i) (suc j) d (let e : suc i ≤ suc j = omega (arith, h) in e) (let e : suc j < length (t ∷ book) = omega (arith, b) in e)) (IsDistinct-tail bytes_eq t book apart),
)

pub rising_from : (book : Book) → IsSortedBy text_below book → IsDistinct bytes_eq book → IsRising book
rising_from book up apart = rising_by book (λ i j d h b. sorted_far text_below (ranks_by nat_list_cmp_total (λ (s : List ℕ). s)) book up i j d h b) apart

-- what holds of each text of a list, of each of another one that has no others
all_of : (P : List ℕ → Type 0) (book texts : Book) → ((w : List ℕ) → has book w ≡ true → has texts w ≡ true) → AllByRecursion P texts → AllByRecursion P book
all_of P [] texts f h = tt
all_of P (t ∷ book) texts f h = (
  all_has P texts t h (f t (has_here t t book refl)),
  all_of P book texts (λ w g. f w (has-append (t ∷ []) book w g)) h,
)

pub same_texts : (P : List ℕ → Type 0) (book texts : Book) → ((w : List ℕ) → has book w ≡ has texts w) → AllByRecursion P texts → AllByRecursion P book
same_texts P book texts same h = all_of P book texts (λ w g. sym (same w) ∙ g) h
