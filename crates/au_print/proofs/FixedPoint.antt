-- The digits of a fixed-point number: those of its whole part, and those behind its point.
use Rattle.std.specs.Prelude.{◌≡◌, ℕ, zero, suc, ◌+◌, ◌-◌, ◌*◌, ◌/◌, ◌%◌, ◌^◌, ◌<◌, ◌≤◌, List, [], ◌∷◌, ◌++◌, length, take, drop, replicate, codes, decimal}
use Rattle.std.proofs.Common.{arith, refl, sym, ◌∙◌, ap, append-nil, append_assoc, length-append, inl, inr}
use Rattle.std.proofs.lemmas.List.{replicate-append-replicate}
use Rattle.std.proofs.lemmas.Fmt.{decimal_step_wide, decimal_digit, decimal_is_IsNumeral_wide}
use Rattle.std.proofs.lemmas.Bool.{cases_order}
use Rattle.std.proofs.Math.Nat.{div-div-eq-div-mul}
use Rattle.std.proofs.Math.Seq.{take-append_seam, drop-append_seam}
use Rattle.au_print.specs.Texts.{last_digits, units_text}

some_digits : (n : ℕ) → n < 10 ^ 64 → 0 < length (decimal n)
some_digits n h = (decimal_is_IsNumeral_wide n h).0.0

-- the digits of a tenth, and the last digit
tenth_short : (n : ℕ) → 10 ≤ n → n < 10 ^ 64 → length (decimal n) ≡ length (decimal (n / 10)) + 1
tenth_short n l h = ap length (decimal_step_wide n l h) ∙ length-append (decimal (n / 10)) ((48 + n % 10) ∷ [])

-- one power more
tenth_of : (n s : ℕ) → n / 10 / 10 ^ s ≡ n / 10 ^ suc s
tenth_of n s = let ten : 10 * 10 ^ s ≡ 10 ^ suc s = omega arith in div-div-eq-div-mul n 10 (10 ^ s) ∙ ap (λ m. n / m) ten

-- 0 has zeros alone
zeros : (s : ℕ) → last_digits s 0 ≡ replicate s 48
zeros zero = refl
zeros (suc s) = let more : s + 1 ≡ suc s = omega arith in ap (λ ds. ds ++ 48 ∷ []) (zeros s) ∙ replicate-append-replicate s 1 48 ∙ ap (λ n. replicate n 48) more

-- a number with more digits is its whole part, and then its last ones
cut_more : (s : ℕ) → ((n : ℕ) → n < 10 ^ 64 → s < length (decimal n) → decimal n ≡ decimal (n / 10 ^ s) ++ last_digits s n) → (n : ℕ) → n < 10 ^ 64 → suc s < length (decimal n) → 10 ≤ n → decimal n ≡ decimal (n / 10 ^ suc s) ++ last_digits (suc s) n
cut_more s cut n h l t =
    let short = tenth_short n t h in
    decimal_step_wide n t h
    ∙ ap (λ ds. ds ++ (48 + n % 10) ∷ []) (cut (n / 10) (omega (arith, h)) (omega (arith, l, short)))
    ∙ append_assoc (decimal (n / 10 / 10 ^ s)) (last_digits s (n / 10)) ((48 + n % 10) ∷ [])
    ∙ ap (λ m. decimal m ++ (last_digits s (n / 10) ++ (48 + n % 10) ∷ [])) (tenth_of n s)

pub digits_cut : (s n : ℕ) → n < 10 ^ 64 → s < length (decimal n) → decimal n ≡ decimal (n / 10 ^ s) ++ last_digits s n
digits_cut zero n h l = let same : n ≡ n / 10 ^ 0 = omega arith in sym (append-nil (decimal n)) ∙ ap (λ m. decimal m ++ []) same
digits_cut (suc s) n h l = elim (cases_order n 10) [
  | inl e ↦ cut_more s (digits_cut s) n h l (omega (arith, e))
  | inr o ↦ elim o [
    | inl e ↦ (let one = ap length (decimal_digit n e) in absurd (omega (arith, l, one)))
    | inr e ↦ cut_more s (digits_cut s) n h l (omega (arith, e))
  ]
]

-- one with no more digits has the whole part 0, and zeros before its digits
fill_more : (s : ℕ) → ((n : ℕ) → n < 10 ^ 64 → length (decimal n) ≤ s → (n / 10 ^ s ≡ 0) × (last_digits s n ≡ replicate (s - length (decimal n)) 48 ++ decimal n)) → (n : ℕ) → n < 10 ^ 64 → length (decimal n) ≤ suc s → 10 ≤ n → (n / 10 ^ suc s ≡ 0) × (last_digits (suc s) n ≡ replicate (suc s - length (decimal n)) 48 ++ decimal n)
fill_more s filled n h l t =
    let short = tenth_short n t h in
    let f = filled (n / 10) (omega (arith, h)) (omega (arith, l, short)) in
    let same : s - length (decimal (n / 10)) ≡ suc s - length (decimal n) = omega (arith, short) in (
      sym (tenth_of n s) ∙ f.0,
      ap (λ ds. ds ++ (48 + n % 10) ∷ []) f.1
          ∙ append_assoc (replicate (s - length (decimal (n / 10))) 48) (decimal (n / 10)) ((48 + n % 10) ∷ [])
          ∙ (λ i. replicate (same i) 48 ++ sym (decimal_step_wide n t h) i),
    )

fill_one : (s n : ℕ) → n < 10 → (n / 10 ^ suc s ≡ 0) × (last_digits (suc s) n ≡ replicate (suc s - length (decimal n)) 48 ++ decimal n)
fill_one s n t =
    let tenth : n / 10 ≡ 0 = omega (arith, t) in
    let last : n % 10 ≡ n = omega (arith, t) in
    let one : decimal n ≡ (48 + n) ∷ [] = decimal_digit n t in
    let size : suc s - length (decimal n) ≡ s = omega (arith, ap length one) in (
      sym (tenth_of n s) ∙ ap (λ m. m / 10 ^ s) tenth ∙ nothing s,
      (λ i. last_digits s (tenth i) ++ (48 + last i) ∷ [])
          ∙ (λ i. zeros s i ++ sym one i)
          ∙ ap (λ m. replicate m 48 ++ decimal n) (sym size),
    )
  where
    nothing : (s : ℕ) → 0 / 10 ^ s ≡ 0
    nothing s = omega arith

pub digits_filled : (s n : ℕ) → n < 10 ^ 64 → length (decimal n) ≤ s → (n / 10 ^ s ≡ 0) × (last_digits s n ≡ replicate (s - length (decimal n)) 48 ++ decimal n)
digits_filled zero n h l = let some = some_digits n h in absurd (omega (arith, l, some))
digits_filled (suc s) n h l = elim (cases_order n 10) [
  | inl e ↦ fill_more s (digits_filled s) n h l (omega (arith, e))
  | inr o ↦ elim o [
    | inl e ↦ fill_one s n e
    | inr e ↦ fill_more s (digits_filled s) n h l (omega (arith, e))
  ]
]

size : (s n : ℕ) → length (last_digits s n) ≡ s
size zero n = refl
size (suc s) n = let rest = size s (n / 10) in let both = length-append (last_digits s (n / 10)) ((48 + n % 10) ∷ []) in omega (arith, rest, both)

-- the digits cut before the last ones, with the point between
pub cut_text : (s n : ℕ) → n < 10 ^ 64 → s < length (decimal n) → take (length (decimal n) - s) (decimal n) ++ codes "." ++ drop (length (decimal n) - s) (decimal n) ≡ units_text s n
cut_text s n h l =
    let whole = decimal (n / 10 ^ s) in
    let cut = digits_cut s n h l in
    let place : length (decimal n) - s ≡ length whole = omega (arith, ap length cut, length-append whole (last_digits s n), size s n) in
    (λ i. take (place i) (cut i) ++ codes "." ++ drop (place i) (cut i))
    ∙ (λ i. take-append_seam whole (last_digits s n) i ++ codes "." ++ drop-append_seam whole (last_digits s n) i)

pub filled_text : (s n : ℕ) → n < 10 ^ 64 → length (decimal n) ≤ s → codes "0." ++ replicate (s - length (decimal n)) 48 ++ decimal n ≡ units_text s n
filled_text s n h l =
    let f = digits_filled s n h l in
    append_assoc (codes "0.") (replicate (s - length (decimal n)) 48) (decimal n)
    ∙ ap (λ ds. codes "0." ++ ds) (sym f.1)
    ∙ ap (λ ds. ds ++ codes "." ++ last_digits s n) (sym (decimal_digit 0 (omega arith)))
    ∙ ap (λ m. decimal m ++ codes "." ++ last_digits s n) (sym f.0)

-- both behind a text
module _ (text ds : List ℕ) (s n : ℕ) (is : ds ≡ decimal n) (small : n < 10 ^ 64) where
  pub cut_behind : (whole rest a b c : List ℕ) → s < length ds → whole ≡ take (length ds - s) ds → rest ≡ drop (length ds - s) ds → a ≡ text ++ whole → b ≡ a ++ codes "." → c ≡ b ++ rest → c ≡ text ++ units_text s n
  cut_behind whole rest a b c l front back one two three =
      let many : s < length (decimal n) = omega (arith, l, ap length is) in
      three
      ∙ (λ i. (two ∙ ap (λ t. t ++ codes ".") one) i ++ rest)
      ∙ ap (λ t. t ++ rest) (append_assoc text whole (codes "."))
      ∙ append_assoc text (whole ++ codes ".") rest
      ∙ ap (λ t. text ++ t)
      ((λ i. front i ++ codes "." ++ back i) ∙ (λ i. take (length (is i) - s) (is i) ++ codes "." ++ drop (length (is i) - s) (is i)) ∙ cut_text s n small many)

  pub filled_behind : (a b c : List ℕ) → length ds ≤ s → a ≡ text ++ codes "0." → b ≡ a ++ replicate (s - length ds) 48 → c ≡ b ++ ds → c ≡ text ++ units_text s n
  filled_behind a b c l one two three =
      let few : length (decimal n) ≤ s = omega (arith, l, ap length is) in
      three
      ∙ (λ i. (two ∙ ap (λ t. t ++ replicate (s - length ds) 48) one) i ++ ds)
      ∙ ap (λ t. t ++ ds) (append_assoc text (codes "0.") (replicate (s - length ds) 48))
      ∙ append_assoc text (codes "0." ++ replicate (s - length ds) 48) ds
      ∙ ap (λ t. text ++ t)
      ((λ i. codes "0." ++ replicate (s - length (is i)) 48 ++ is i) ∙ filled_text s n small few)
