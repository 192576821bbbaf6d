-- The code of texts keeps their order.
use Rattle.std.specs.Prelude.{◌≡◌, ◌<◌, ◌≤◌, ◌+◌, ◌*◌, ◌-◌, ◌^◌, ℕ, Bool, true, false, cond, ◌&&◌, ◌||◌, List, length, pos, nat_abs, nat_le, Some, None}
use Rattle.std.specs.Str.{IsUtf8, is_utf8}
use Rattle.std.specs.declared.cmp.Ordering.{Ordering}
use Rattle.std.specs.declared.cmp.Ordering.TheVariants.{Less, Equal, Greater}
use Rattle.std.specs.Ordering.{nat_cmp, int_cmp, is_le, ordering_reverse}
use Rattle.std.specs.Cmp.{int_cmp_total, tied_itself}
use Rattle.std.specs.Cmp.Lexicographic.{slice_cmp, nat_list_cmp_total}
use Rattle.std.specs.FinMap.{nat_cmp-IsAntisymmetric, slice_cmp-IsAntisymmetric}
use Rattle.std.proofs.Common.{arith, refl, sym, ap, ◌∙◌}
use Rattle.std.proofs.lemmas.Bool.{and_parts, le-leb, lt-ltb, true≢false}
use Rattle.std.proofs.lemmas.Str.{IsUtf8-from_is_utf8}
use Rattle.au_value.specs.Numeral.{is_i128}
use Rattle.au_codes.specs.Codes.{KeepsOrder, number_at_most}
use Rattle.au_codes.specs.Books.{Book, has, rank, IsCodebook}
use Rattle.au_codes.specs.TextCodes.{is_short, packed, short_number, tag, text_number, knows_text, text_code}
use Rattle.au_codes.proofs.BookPlaces.{all_has}
use Rattle.au_codes.proofs.Fronts.{text_bytes, packed_small, Lower, apart, shorter, longer, lower_text}
use Rattle.au_codes.proofs.Ranks.{rank_below, rank_small}

-- a text of UTF-8 that is short or one of the book
pub record IsKnown (book : Book) (w : List ℕ) : Type 0 where
  pub utf8 : IsUtf8 w
  pub there : is_short w ≡ false → has book w ≡ true

known_by : (book : Book) (w : List ℕ) → IsCodebook book → (b : Bool) → (is_utf8 w && is_short w) ≡ b → (b || has book w) ≡ true → IsKnown book w
known_by book w is true e h =
    let p = and_parts (is_utf8 w) (is_short w) e in
    record { utf8 = IsUtf8-from_is_utf8 w p.0; there = λ long. absurd (true≢false (sym p.1 ∙ long)) }
known_by book w is false e h = record { utf8 = all_has IsUtf8 book w is.texts h; there = λ long. h }

pub known : (book : Book) (w : List ℕ) → IsCodebook book → knows_text book w ≡ true → IsKnown book w
known book w is h = known_by book w is (is_utf8 w && is_short w) refl h

-- ---- tags

pub tag_short : (book : Book) (w : List ℕ) → length w ≤ 12 → tag book w ≡ length w
tag_short book w h = ap (λ b. cond b (length w) (13 + rank book w)) (le-leb (length w) 12 h)

long_text : (w : List ℕ) → 12 < length w → is_short w ≡ false
long_text w h = grind (arith, h)

pub tag_long : (book : Book) (w : List ℕ) → 12 < length w → tag book w ≡ 13 + rank book w
tag_long book w h = ap (λ b. cond b (length w) (13 + rank book w)) (long_text w h)

tag_by : (b : Bool) (n r : ℕ) → nat_le n 12 ≡ b → r + 13 < 2 ^ 31 → cond b n (13 + r) < 2 ^ 31
tag_by true n r e h = let small : n ≤ 12 = grind (arith, e) in omega (arith, small)
tag_by false n r e h = omega (arith, h)

pub tag_small : (book : Book) (w : List ℕ) → IsCodebook book → tag book w < 2 ^ 31
tag_small book w is =
    let below = rank_small book w in
    let few = is.few in
    tag_by (is_short w) (length w) (rank book w) refl (let e : rank book w + 13 < 2 ^ 31 = omega (arith, below, few) in e)

-- a lower text that ends within 12 bytes has the lesser tag
tag_rises : (b : Bool) (l m r : ℕ) → nat_le m 12 ≡ b → l < m → l ≤ 12 → l < cond b m (13 + r)
tag_rises true l m r e h k = h
tag_rises false l m r e h k = omega (arith, k)

-- a short text needs no book
pub needs_no_book : (book : Book) (w : List ℕ) → is_short w ≡ true → short_number w ≡ Some (pos (text_number book w))
needs_no_book book w h =
    ap (λ b. cond b (Some (pos (packed 12 0 w * 2 ^ 31 + length w))) None) h
    ∙ ap (λ b. Some (pos (packed 12 0 w * 2 ^ 31 + cond b (length w) (13 + rank book w)))) (sym h)

-- ---- numbers

number_less : (f g t u : ℕ) → f < g → t < 2 ^ 31 → f * 2 ^ 31 + t < g * 2 ^ 31 + u
number_less f g t u h k = omega (arith, h, k)

number_level : (f g t u : ℕ) → f ≡ g → t < u → f * 2 ^ 31 + t < g * 2 ^ 31 + u
number_level f g t u h k = omega (arith, h, k)

int_less : (m n : ℕ) → m < n → int_cmp (pos m) (pos n) ≡ Less
int_less m n h = rw (lt-ltb m n h) refl

module _ (book : Book) (is : IsCodebook book) where
  by_front : (s t : List ℕ) → IsKnown book s → slice_cmp nat_cmp s t ≡ Less → Lower 12 0 s t → text_number book s < text_number book t
  by_front s t k h (apart p) = number_less (packed 12 0 s) (packed 12 0 t) (tag book s) (tag book t) p (tag_small book s is)
  by_front s t k h (shorter e l short) =
      let own = tag_short book s short in
      let rises = tag_rises (is_short t) (length s) (length t) (rank book t) refl l short in
      number_level (packed 12 0 s) (packed 12 0 t) (tag book s) (tag book t) e (let a : tag book s < tag book t = omega (arith, own, rises) in a)
  by_front s t k h (longer e l m) =
      let first = tag_long book s l in
      let second = tag_long book t m in
      let ranks = rank_below book s t h (k.there (long_text s l)) in
      number_level (packed 12 0 s) (packed 12 0 t) (tag book s) (tag book t) e (let a : tag book s < tag book t = omega (arith, first, second, ranks) in a)

  number_below : (s t : List ℕ) → IsKnown book s → IsKnown book t → slice_cmp nat_cmp s t ≡ Less → text_number book s < text_number book t
  number_below s t k l h = by_front s t k h (lower_text 12 0 s t (text_bytes s k.utf8) (text_bytes t l.utf8) h)

  apart_by : (r : Ordering) (s t : List ℕ) → slice_cmp nat_cmp s t ≡ r → IsKnown book s → IsKnown book t → text_number book s ≡ text_number book t → s ≡ t
  apart_by Less s t e k l h = let below = number_below s t k l e in absurd (omega (arith, below, h))
  apart_by Equal s t e k l h = slice_cmp-IsAntisymmetric nat_cmp-IsAntisymmetric s t e
  apart_by Greater s t e k l h =
      let below = number_below t s l k (nat_list_cmp_total.antisymm t s ∙ ap ordering_reverse e) in
      absurd (omega (arith, below, h))

  rising_by : (r : Ordering) (s t : List ℕ) → slice_cmp nat_cmp s t ≡ r → IsKnown book s → IsKnown book t → is_le r ≡ true → number_at_most (pos (text_number book s)) (pos (text_number book t)) ≡ true
  rising_by Less s t e k l h = ap is_le (int_less (text_number book s) (text_number book t) (number_below s t k l e))
  rising_by Equal s t e k l h =
      let same : s ≡ t = slice_cmp-IsAntisymmetric nat_cmp-IsAntisymmetric s t e in
      ap (λ u. number_at_most (pos (text_number book u)) (pos (text_number book t))) same ∙ ap is_le (tied_itself int_cmp_total (pos (text_number book t)))
  rising_by Greater s t e k l h = absurd (true≢false (sym h))

  number_fits : (w : List ℕ) → IsKnown book w → is_i128 (pos (text_number book w)) ≡ true
  number_fits w k =
      let front = packed_small w (text_bytes w k.utf8) in
      let last = tag_small book w is in
      le-leb (text_number book w) (2 ^ 127 - 1) (let e : packed 12 0 w * 2 ^ 31 + tag book w ≤ 2 ^ 127 - 1 = omega (arith, front, last) in e)

  pub texts_keep_order : KeepsOrder (text_code book)
  texts_keep_order = record {
    injective = λ s t k l h. apart_by (slice_cmp nat_cmp s t) s t refl (known book s is k) (known book t is l) (ap nat_abs h);
    monotone = λ s t k l h. rising_by (slice_cmp nat_cmp s t) s t refl (known book s is k) (known book t is l) h;
    fits = λ s k. number_fits s (known book s is k);
  }
