-- The widths of columns, text by text.
use Rattle.std.specs.Prelude.{◌≡◌, ℕ, zero, suc, ◌<◌, ◌≤◌, Bool, true, false, ◌||◌, ◌==◌, cond, nat_lt, nat_le, max, List, [], ◌∷◌, ◌++◌, length}
use Rattle.std.proofs.Common.{arith, refl, sym, ◌∙◌, ap, inl, inr, get_or, set, ltb-true, lt-ltb}
use Rattle.std.proofs.lemmas.Bool.{cases_Bool, eqb-true}
use Rattle.std.proofs.lemmas.List.Sums.{sum_by-cons}
use Rattle.au_print.specs.Tables.{printable_byte, printable, begins_character, characters, widened, widened_at}

pub none_widened : (ws : List ℕ) → widened ws [] ≡ ws
none_widened [] = refl
none_widened (w ∷ ws) = refl

-- one text more
pub widened_more : (ws : List ℕ) (ts : List (List ℕ)) (t : List ℕ) → widened ws (ts ++ t ∷ []) ≡ widened_at (widened ws ts) (length ts) (characters t)
widened_more [] ts t = refl
widened_more (w ∷ ws) [] t = ap (λ xs. max w (characters t) ∷ xs) (none_widened ws)
widened_more (w ∷ ws) (u ∷ ts) t = ap (λ xs. max w (characters u) ∷ xs) (widened_more ws ts t)

-- a width that is greater is written
pub widened_set : (ws : List ℕ) (i m n : ℕ) → i < length ws → m ≡ get_or ws i m → m < n → set ws i n ≡ widened_at ws i n
widened_set [] i m n l e h = refl
widened_set (w ∷ ws) zero m n l e h = let most : n ≡ max w n = omega (arith, e, h) in ap (λ k. k ∷ ws) most
widened_set (w ∷ ws) (suc i) m n l e h = ap (λ xs. w ∷ xs) (widened_set ws i m n (omega (arith, l)) e h)

-- another is left
pub widened_kept : (ws : List ℕ) (i m n : ℕ) → i < length ws → m ≡ get_or ws i m → n ≤ m → ws ≡ widened_at ws i n
widened_kept [] i m n l e h = refl
widened_kept (w ∷ ws) zero m n l e h = let most : w ≡ max w n = omega (arith, e, h) in ap (λ k. k ∷ ws) most
widened_kept (w ∷ ws) (suc i) m n l e h = ap (λ xs. w ∷ xs) (widened_kept ws i m n (omega (arith, l)) e h)

-- and there is none past the last
pub none_widened_at : (ws : List ℕ) (i n : ℕ) → length ws ≤ i → ws ≡ widened_at ws i n
none_widened_at [] i n h = refl
none_widened_at (w ∷ ws) zero n h = absurd (omega (arith, h))
none_widened_at (w ∷ ws) (suc i) n h = ap (λ xs. w ∷ xs) (none_widened_at ws i n (omega (arith, h)))

shown_begins : (s : Bool) (b : ℕ) → (nat_lt b 0x20 || b == 0x7F) ≡ s → begins_character (cond s 63 b) ≡ begins_character b
shown_begins false b e = refl
shown_begins true b e =
    let low : b < 0x80 =
    elim (cases_Bool (nat_lt b 0x20)) [
      | inl t ↦ (let l = ltb-true b 0x20 t in omega (arith, l))
      | inr f ↦ (let is = eqb-true b 0x7F (ap (λ t. t || b == 0x7F) (sym f) ∙ e) in omega (arith, is))
    ] in
    ap (λ t. t || nat_le 0xC0 b) (sym (lt-ltb b 0x80 low))

-- 1 where a byte begins a character
abbrev one_if : Bool → ℕ
one_if b = cond b 1 0

-- a text has as many characters as it is shown with
pub printable_characters : (text : List ℕ) → characters (printable text) ≡ characters text
printable_characters [] = refl
printable_characters (b ∷ text) =
    let same = ap one_if (shown_begins (nat_lt b 0x20 || b == 0x7F) b refl) in
    omega (arith, sum_by-cons (λ x. one_if (begins_character x)) (printable_byte b) (printable text), sum_by-cons (λ x. one_if (begins_character x)) b text, same, printable_characters text)
