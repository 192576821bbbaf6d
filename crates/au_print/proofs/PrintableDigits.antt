-- A number is shown as it is, since none of its characters is a control character.
use Rattle.std.specs.Prelude.{◌≡◌, ℕ, zero, suc, ◌+◌, ◌/◌, ◌%◌, ◌^◌, ◌<◌, ◌≤◌, ◌||◌, ◌==◌, ℤ, pos, negsuc, List, [], ◌∷◌, ◌++◌, codes, decimal}
use lib.Signed.{mag}
use Rattle.std.specs.Str.Parse.{AllDigits}
use Rattle.std.proofs.Common.{arith, refl, ◌∙◌, ap, cond, le-ltb, ne_eqb}
use Rattle.std.proofs.lemmas.List.{map-append}
use Rattle.std.proofs.lemmas.Fmt.{decimal_is_IsNumeral_wide}
use Rattle.std.proofs.lemmas.Str.Parse.{digit_from_value}
use Rattle.std.proofs.Math.Nat.{div-le_self}
use Rattle.au_print.specs.Texts.{last_digits, units_text, fixed_text}
use Rattle.au_print.specs.Tables.{printable_byte, printable}

-- a character from `!` to `~` is shown as it is
kept : (b : ℕ) → 0x20 ≤ b → b < 0x7F → printable_byte b ≡ b
kept b l h = (λ i. cond (le-ltb b 0x20 l i || b == 0x7F) 63 b) ∙ ap (λ t. cond t 63 b) (ne_eqb b 0x7F (λ e. omega (arith, e, h)))

digits_kept : (ds : List ℕ) → AllDigits 10 ds → printable ds ≡ ds
digits_kept [] d = refl
digits_kept (c ∷ ds) d = let r = digit_from_value c d.0 in λ i. kept c (omega (arith, r)) (omega (arith, r)) i ∷ digits_kept ds d.1 i

last_kept : (s n : ℕ) → printable (last_digits s n) ≡ last_digits s n
last_kept zero n = refl
last_kept (suc s) n =
    map-append printable_byte (last_digits s (n / 10)) ((48 + n % 10) ∷ [])
    ∙ (λ i. last_kept s (n / 10) i ++ kept (48 + n % 10) (omega arith) (omega arith) i ∷ [])

whole_kept : (n : ℕ) → n < 10 ^ 64 → printable (decimal n) ≡ decimal n
whole_kept n h = digits_kept (decimal n) (decimal_is_IsNumeral_wide n h).0.1

units_kept : (s n : ℕ) → n < 10 ^ 64 → printable (units_text s n) ≡ units_text s n
units_kept s n h =
    let part = div-le_self n (10 ^ s) in
    map-append printable_byte (decimal (n / 10 ^ s) ++ codes ".") (last_digits s n)
    ∙ ap (λ t. t ++ printable (last_digits s n)) (map-append printable_byte (decimal (n / 10 ^ s)) (codes "."))
    ∙ (λ i. whole_kept (n / 10 ^ s) (omega (arith, part, h)) i ++ codes "." ++ last_kept s n i)

pub fixed_kept : (s : ℕ) (z : ℤ) → mag z < 2 ^ 127 → printable (fixed_text s z) ≡ fixed_text s z
fixed_kept s (pos n) h = units_kept s n (omega (arith, h))
fixed_kept s (negsuc n) h = ap (λ t. codes "-" ++ t) (units_kept s (suc n) (omega (arith, h)))
