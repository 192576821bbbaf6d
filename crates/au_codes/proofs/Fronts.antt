-- The first bytes of texts as digits in base 256.
use Rattle.std.specs.Prelude.{◌≡◌, ◌<◌, ◌≤◌, ◌+◌, ◌-◌, ◌*◌, ◌/◌, ◌%◌, ◌^◌, ℕ, zero, suc, Bool, true, false, cond, List, [], ◌∷◌, ◌++◌, length, drop, take, get_or}
use Rattle.std.specs.List.{AllByRecursion}
use Rattle.std.specs.Str.{IsUtf8}
use Rattle.std.specs.declared.cmp.Ordering.{Ordering}
use Rattle.std.specs.declared.cmp.Ordering.TheVariants.{Less, Equal, Greater}
use Rattle.std.specs.Ordering.{nat_cmp, ordering_then}
use Rattle.std.specs.Cmp.Lexicographic.{slice_cmp}
use Rattle.std.specs.FinMap.{nat_cmp-IsAntisymmetric}
use Rattle.std.proofs.Common.{arith, refl, sym, ap, ◌∙◌, subst, inl, inr, ⊎_elim, ltb}
use Rattle.std.proofs.lemmas.Bool.{and_parts, cases_lt}
use Rattle.std.proofs.lemmas.Cmp.{ranked}
use Rattle.au_algebra.proofs.Each.{all_append}
use Rattle.au_codes.specs.TextCodes.{packed}
use Rattle.au_codes.specs.Decoding.{unpacked}
use lib.Utf8.{encode, encodes, scalar, scalars, scalar_cases, next}

-- ---- the bytes of a text

abbrev pub AreBytes : List ℕ → Type 0
AreBytes w = AllByRecursion (λ b. b < 256) w

encoded_by : (x y z : Bool) (c : ℕ) → ltb c 128 ≡ x → ltb c 2048 ≡ y → ltb c 65536 ≡ z → c < 1114112 →
    AreBytes (cond x (c ∷ []) (cond y ((192 + c / 64) ∷ next c ∷ []) (cond z ((224 + c / 4096) ∷ next (c / 64) ∷ next c ∷ []) ((240 + c / 262144) ∷ next (c / 4096) ∷ next (c / 64) ∷ next c ∷ []))))
encoded_by true y z c p q r h = let small : c < 128 = grind (arith, p) in (let e : c < 256 = omega (arith, small) in e, tt)
encoded_by false true z c p q r h =
    let small : c < 2048 = grind (arith, q) in
    let first : 192 + c / 64 < 256 = omega (arith, small) in
    let second : next c < 256 = omega arith in
    (first, (second, tt))
encoded_by false false true c p q r h =
    let small : c < 65536 = grind (arith, r) in
    let first : 224 + c / 4096 < 256 = omega (arith, small) in
    let second : next (c / 64) < 256 = omega arith in
    let third : next c < 256 = omega arith in
    (first, (second, (third, tt)))
encoded_by false false false c p q r h =
    let first : 240 + c / 262144 < 256 = omega (arith, h) in
    let second : next (c / 4096) < 256 = omega arith in
    let third : next (c / 64) < 256 = omega arith in
    let fourth : next c < 256 = omega arith in
    (first, (second, (third, (fourth, tt))))

encoded_bytes : (c : ℕ) → c < 1114112 → AreBytes (encode c)
unfolding encode
encoded_bytes c h = encoded_by (ltb c 128) (ltb c 2048) (ltb c 65536) c refl refl refl h

scalar_small : (c : ℕ) → scalar c ≡ true → c < 1114112
scalar_small c e = ⊎_elim (λ h. omega (arith, h)) (λ h. h.1) (scalar_cases c e)

all_bytes : (cs : List ℕ) → scalars cs ≡ true → AreBytes (encodes cs)
all_bytes [] h = tt
all_bytes (c ∷ cs) h =
    let p = and_parts (scalar c) (scalars cs) h in
    all_append (λ b. b < 256) (encode c) (encodes cs) (encoded_bytes c (scalar_small c p.0)) (all_bytes cs p.1)

pub text_bytes : (w : List ℕ) → IsUtf8 w → AreBytes w
text_bytes w u = subst AreBytes u.1.1 (all_bytes u.0 u.1.0)

-- ---- fronts and their order

-- a lesser number before the digits is lesser with them
pub packed_below : (n m k : ℕ) (s t : List ℕ) → m < k → AreBytes s → AreBytes t → packed n m s < packed n k t
packed_below zero m k s t h a b = h
packed_below (suc n) m k [] [] h a b = packed_below n (m * 256) (k * 256) [] [] (let e : m * 256 < k * 256 = omega (arith, h) in e) tt tt
packed_below (suc n) m k [] (y ∷ t) h a b = packed_below n (m * 256) (k * 256 + y) [] t (let e : m * 256 < k * 256 + y = omega (arith, h) in e) tt b.1
packed_below (suc n) m k (x ∷ s) [] h a b =
    let byte : x < 256 = a.0 in
    packed_below n (m * 256 + x) (k * 256) s [] (let e : m * 256 + x < k * 256 = omega (arith, h, byte) in e) a.1 tt
packed_below (suc n) m k (x ∷ s) (y ∷ t) h a b =
    let byte : x < 256 = a.0 in
    packed_below n (m * 256 + x) (k * 256 + y) s t (let e : m * 256 + x < k * 256 + y = omega (arith, h, byte) in e) a.1 b.1

pub packed_small : (w : List ℕ) → AreBytes w → packed 12 0 w < 2 ^ 96
packed_small w a = packed_below 12 0 1 w [] (omega arith) a tt

-- the number before the digits is no greater than with them
pub packed_above : (n m : ℕ) (w : List ℕ) → m ≤ packed n m w
packed_above zero m w = omega arith
packed_above (suc n) m [] = let more = packed_above n (m * 256) [] in omega (arith, more)
packed_above (suc n) m (b ∷ w) = let more = packed_above n (m * 256 + b) w in omega (arith, more)

-- the empty text is the least
packed_empty : (n m k : ℕ) (t : List ℕ) → m ≤ k → packed n m [] ≤ packed n k t
packed_empty zero m k t h = h
packed_empty (suc n) m k [] h = packed_empty n (m * 256) (k * 256) [] (let e : m * 256 ≤ k * 256 = omega (arith, h) in e)
packed_empty (suc n) m k (y ∷ t) h = packed_empty n (m * 256) (k * 256 + y) t (let e : m * 256 ≤ k * 256 + y = omega (arith, h) in e)

-- how the first n bytes of a text stand to those of a higher one: below them, or alike, and then the lower text is shorter
-- and ends there, or both go on
pub data Lower (n m : ℕ) (s t : List ℕ) : Type 0 where
  apart : packed n m s < packed n m t → Lower n m s t
  shorter : packed n m s ≡ packed n m t → length s < length t → length s ≤ n → Lower n m s t
  longer : packed n m s ≡ packed n m t → n < length s → n < length t → Lower n m s t

empty_lower : (n m : ℕ) (y : ℕ) (t : List ℕ) → Lower n m [] (y ∷ t)
empty_lower n m y t =
    let level = packed_empty n m m (y ∷ t) (omega arith) in
    let long : length {A = ℕ} [] < length (y ∷ t) = omega arith in
    let ends : length {A = ℕ} [] ≤ n = omega arith in
    elim (cases_lt (packed n m []) (packed n m (y ∷ t))) [
      | inl less ↦ apart less
      | inr not ↦ shorter (let e : packed n m [] ≡ packed n m (y ∷ t) = omega (arith, level, not) in e) long ends
    ]

longer_by : (n m x : ℕ) (s t : List ℕ) → Lower n (m * 256 + x) s t → Lower (suc n) m (x ∷ s) (x ∷ t)
longer_by n m x s t (apart p) = apart p
longer_by n m x s t (shorter e l k) = shorter e (let a : length (x ∷ s) < length (x ∷ t) = omega (arith, l) in a) (let a : length (x ∷ s) ≤ suc n = omega (arith, k) in a)
longer_by n m x s t (longer e l k) = longer e (let a : suc n < length (x ∷ s) = omega (arith, l) in a) (let a : suc n < length (x ∷ t) = omega (arith, k) in a)

byte_more : (n m x y : ℕ) (s t : List ℕ) → AreBytes s → AreBytes t → (r : Ordering) → nat_cmp x y ≡ r → ordering_then r (slice_cmp nat_cmp s t) ≡ Less →
    (slice_cmp nat_cmp s t ≡ Less → Lower n (m * 256 + x) s t) → Lower (suc n) m (x ∷ s) (y ∷ t)
byte_more n m x y s t a b Less e h f =
    let under : x < y = ranked x y Less (sym e) in
    apart (packed_below n (m * 256 + x) (m * 256 + y) s t (let l : m * 256 + x < m * 256 + y = omega (arith, under) in l) a b)
byte_more n m x y s t a b Equal e h f = subst (λ z. Lower (suc n) m (x ∷ s) (z ∷ t)) (nat_cmp-IsAntisymmetric x y e) (longer_by n m x s t (f h))
byte_more n m x y s t a b Greater e h f = cc

pub lower_text : (n m : ℕ) (s t : List ℕ) → AreBytes s → AreBytes t → slice_cmp nat_cmp s t ≡ Less → Lower n m s t
lower_text n m [] [] a b h = cc
lower_text n m [] (y ∷ t) a b h = empty_lower n m y t
lower_text n m (x ∷ s) [] a b h = cc
lower_text zero m (x ∷ s) (y ∷ t) a b h = longer refl (let e : 0 < length (x ∷ s) = omega arith in e) (let e : 0 < length (y ∷ t) = omega arith in e)
lower_text (suc n) m (x ∷ s) (y ∷ t) a b h = byte_more n m x y s t a.1 b.1 (nat_cmp x y) refl h (λ g. lower_text n (m * 256 + x) s t a.1 b.1 g)

-- ---- back

-- the first n bytes, with zeros past the last
abbrev padded : ℕ → List ℕ → List ℕ
padded zero w = []
padded (suc n) [] = 0 ∷ padded n []
padded (suc n) (b ∷ w) = b ∷ padded n w

abbrev more : ℕ → ℕ → ℕ
more zero k = k
more (suc n) k = more n (suc k)

digit_back : (k m b : ℕ) (rest : List ℕ) → b < 256 → unpacked (suc k) (m * 256 + b) rest ≡ unpacked k m (b ∷ rest)
digit_back k m b rest h =
    let front : (m * 256 + b) / 256 ≡ m = omega (arith, h) in
    let last : (m * 256 + b) % 256 ≡ b = omega (arith, h) in
    λ i. unpacked k (front i) (last i ∷ rest)

digits_back : (n k m : ℕ) (w rest : List ℕ) → AreBytes w → unpacked (more n k) (packed n m w) rest ≡ unpacked k m (padded n w ++ rest)
digits_back zero k m w rest a = refl
digits_back (suc n) k m [] rest a =
    let zeros : m * 256 ≡ m * 256 + 0 = omega arith in
    digits_back n (suc k) (m * 256) [] rest tt
    ∙ ap (λ z. unpacked (suc k) z (padded n [] ++ rest)) zeros
    ∙ digit_back k m 0 (padded n [] ++ rest) (omega arith)
digits_back (suc n) k m (b ∷ w) rest a = digits_back n (suc k) (m * 256 + b) w rest a.1 ∙ digit_back k m b (padded n w ++ rest) a.0

take_padded : (n : ℕ) (w rest : List ℕ) → length w ≤ n → take (length w) (padded n w ++ rest) ≡ w
take_padded n [] rest h = refl
take_padded zero (b ∷ w) rest h = absurd (omega (arith, h))
take_padded (suc n) (b ∷ w) rest h = ap (λ l. b ∷ l) (take_padded n w rest (let e : length w ≤ n = omega (arith, h) in e))

-- a text of at most 12 bytes, from its front
pub text_back : (w : List ℕ) → AreBytes w → length w ≤ 12 → take (length w) (unpacked 12 (packed 12 0 w) []) ≡ w
text_back w a h = ap (take (length w)) (digits_back 12 0 0 w [] a) ∙ take_padded 12 w [] h

-- ---- loops over the places of the first 12 bytes

pub bytes_from : (w : List ℕ) → ((k : ℕ) → get_or w k 0 < 256) → AreBytes w
bytes_from [] f = tt
bytes_from (b ∷ w) f = (f 0, bytes_from w (λ k. f (suc k)))

-- what is read so far is no greater than the front
pub packed_within : (place m : ℕ) (w : List ℕ) → AreBytes w → packed (12 - place) m (drop place w) ≡ packed 12 0 w → m < 2 ^ 96
packed_within place m w a inv =
    let above = packed_above (12 - place) m (drop place w) in
    let small = packed_small w a in
    omega (arith, above, inv, small)

packed_step : (n m i : ℕ) (w : List ℕ) → packed (suc n) m (drop i w) ≡ packed n (m * 256 + get_or w i 0) (drop (suc i) w)
packed_step n m zero [] = ap (λ z. packed n z []) (let e : m * 256 ≡ m * 256 + 0 = omega arith in e)
packed_step n m (suc i) [] = ap (λ z. packed n z []) (let e : m * 256 ≡ m * 256 + 0 = omega arith in e)
packed_step n m zero (b ∷ w) = refl
packed_step n m (suc i) (b ∷ w) = packed_step n m i w

-- one byte more
pub next_byte : (place m byte : ℕ) (w : List ℕ) → place < 12 → byte ≡ get_or w place 0 → packed (12 - place) m (drop place w) ≡ packed 12 0 w →
    packed (12 - (place + 1)) (m * 256 + byte) (drop (place + 1) w) ≡ packed 12 0 w
next_byte place m byte w below is inv =
    let left : suc (12 - (place + 1)) ≡ 12 - place = omega (arith, below) in
    let after : place + 1 ≡ suc place = omega arith in
    (λ i. packed (12 - (place + 1)) (m * 256 + is i) (drop (after i) w))
    ∙ sym (packed_step (12 - (place + 1)) m place w)
    ∙ ap (λ k. packed k m (drop place w)) left
    ∙ inv
