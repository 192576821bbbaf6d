-- Cells stand for the values that they were made of.
use Rattle.std.specs.Prelude.{◌≡◌, ◌<◌, ◌≤◌, ◌+◌, ◌*◌, ◌-◌, ◌/◌, ◌%◌, ◌^◌, ℕ, Bool, true, false, cond, List, [], ◌∷◌, ◌++◌, length, drop, take, get_or, map, pos, slice_get, unwrap_or, nat_le, ℤ}
use Rattle.std.specs.Str.{IsUtf8, is_utf8}
use Rattle.std.proofs.Common.{refl, ap, sym, ◌∙◌, arith, append_assoc}
use Rattle.std.proofs.lemmas.Bool.{le-leb}
use Rattle.std.proofs.lemmas.List.{drop_more}
use Rattle.std.proofs.lemmas.Str.{IsUtf8-from_is_utf8, is_utf8-from_IsUtf8}
use Rattle.au_value.specs.declared.kinds.Kind.{Kind}
use Rattle.au_value.specs.declared.value.Value.{Value}
use Rattle.au_value.specs.declared.value.Value.TheVariants.{Int, Text, Flag}
use Rattle.au_value.specs.Order.{kind_of}
use Rattle.au_codes.specs.Codes.{code, coded_row, Knows, KnowsRow}
use Rattle.au_codes.specs.Books.{Book, rank, IsCodebook}
use Rattle.au_codes.specs.TextCodes.{is_short, packed, tag, text_code}
use Rattle.au_codes.specs.Decoding.{decoded, decoded_row, decoded_text, text_of, text_or_none, unpacked}
use Rattle.au_codes.proofs.BookPlaces.{place_is_rank}
use Rattle.au_codes.proofs.Fronts.{text_bytes, text_back}
use Rattle.au_codes.proofs.TextOrder.{IsKnown, known, tag_short, tag_long, tag_small}

-- bytes and a tag, from their number
parts_back : (book : Book) (front last : ℕ) → last < 2 ^ 31 → decoded_text book (pos (front * 2 ^ 31 + last)) ≡ text_of book front last
parts_back book front last h =
    let first : (front * 2 ^ 31 + last) / 2 ^ 31 ≡ front = omega (arith, h) in
    let second : (front * 2 ^ 31 + last) % 2 ^ 31 ≡ last = omega (arith, h) in
    λ i. text_of book (first i) (second i)

text_itself : (w : List ℕ) → IsUtf8 w → text_or_none w ≡ w
text_itself w u = ap (λ b. cond b w []) (is_utf8-from_IsUtf8 w u)

short_back : (book : Book) (w : List ℕ) → IsUtf8 w → length w ≤ 12 → text_of book (packed 12 0 w) (length w) ≡ w
short_back book w u h =
    ap (λ b. cond b (text_or_none (take (length w) (unpacked 12 (packed 12 0 w) []))) (unwrap_or (slice_get book (length w - 13)) [])) (le-leb (length w) 12 h)
    ∙ ap text_or_none (text_back w (text_bytes w u) h)
    ∙ text_itself w u

long_back : (book : Book) (front r : ℕ) → text_of book front (13 + r) ≡ unwrap_or (slice_get book r) []
long_back book front r =
    let past : nat_le (13 + r) 12 ≡ false = grind arith in
    let place : 13 + r - 13 ≡ r = omega arith in
    ap (λ b. cond b (text_or_none (take (13 + r) (unpacked 12 front []))) (unwrap_or (slice_get book (13 + r - 13)) [])) past
    ∙ ap (λ k. unwrap_or (slice_get book k) []) place

text_by : (b : Bool) (book : Book) (w : List ℕ) → IsCodebook book → IsKnown book w → is_short w ≡ b → text_of book (packed 12 0 w) (tag book w) ≡ w
text_by true book w is k e =
    let short : length w ≤ 12 = grind (arith, e) in
    ap (text_of book (packed 12 0 w)) (tag_short book w short) ∙ short_back book w k.utf8 short
text_by false book w is k e =
    let long : 12 < length w = grind (arith, e) in
    ap (text_of book (packed 12 0 w)) (tag_long book w long)
    ∙ long_back book (packed 12 0 w) (rank book w)
    ∙ ap (λ o. unwrap_or o []) (place_is_rank book w is.rising (k.there e))

value_back : (book : Book) (v : Value) → IsCodebook book → Knows (text_code book) v → decoded book (kind_of v) (code (text_code book) v) ≡ v
value_back book (Int n) is k = refl
value_back book (Text w) is k =
    ap Text (parts_back book (packed 12 0 w) (tag book w) (tag_small book w is) ∙ text_by (is_short w) book w is (known book w is k) refl)
value_back book (Flag true) is k = refl
value_back book (Flag false) is k = refl

pub row_back : (book : Book) (row : List Value) → IsCodebook book → KnowsRow (text_code book) row → decoded_row book (map kind_of row) (coded_row (text_code book) row) ≡ row
row_back book [] is k = refl
row_back book (v ∷ row) is k = λ i. value_back book v is k.0 i ∷ row_back book row is k.1 i

-- one cell of a row more
pub row_step :
    (book : Book) (ks : List Kind) (zs : List ℤ) (i : ℕ) (row : List Value) (v : Value) (more : List Value) (k : Kind) (z : ℤ) →
    i < length ks → length zs ≡ length ks → v ≡ decoded book (get_or ks i k) (get_or zs i z) → more ≡ row ++ v ∷ [] →
    row ++ decoded_row book (drop i ks) (drop i zs) ≡ decoded_row book ks zs →
    more ++ decoded_row book (drop (i + 1) ks) (drop (i + 1) zs) ≡ decoded_row book ks zs
row_step book ks zs i row v more k z h same made pushed inv =
    let rest = decoded_row book (drop (i + 1) ks) (drop (i + 1) zs) in
    let next : decoded_row book (drop i ks) (drop i zs) ≡ v ∷ rest =
    (λ j. decoded_row book (drop_more ks i k h j) (drop_more zs i z (let e : i < length zs = omega (arith, h, same) in e) j)) ∙ ap (λ u. u ∷ rest) (sym made) in
    ap (λ l. l ++ rest) pushed ∙ append_assoc row (v ∷ []) rest ∙ ap (λ l. row ++ l) (sym next) ∙ inv

-- ---- bytes that are read as a text

pub valid_text : (bytes text w : List ℕ) → text ≡ bytes → IsUtf8 bytes → bytes ≡ w → text ≡ text_or_none w
valid_text bytes text w is u e = is ∙ sym (text_itself bytes u) ∙ ap text_or_none e

none_by : (b : Bool) (bytes : List ℕ) → is_utf8 bytes ≡ b → (IsUtf8 bytes → ⊥) → [] ≡ cond b bytes []
none_by true bytes e f = absurd (f (IsUtf8-from_is_utf8 bytes e))
none_by false bytes e f = refl

pub no_text : (bytes w : List ℕ) → (IsUtf8 bytes → ⊥) → bytes ≡ w → [] ≡ text_or_none w
no_text bytes w f e = none_by (is_utf8 bytes) bytes refl f ∙ ap text_or_none e
