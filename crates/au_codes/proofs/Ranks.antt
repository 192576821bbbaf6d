-- Texts of a book are ordered as their ranks are.
use Rattle.std.specs.Prelude.{◌≡◌, ℕ, suc, ◌<◌, ◌≤◌, ◌+◌, ◌^◌, Some, None, Bool, true, false, cond, List, [], ◌∷◌, length, bytes_eq}
use Rattle.std.specs.declared.cmp.Ordering.{Ordering}
use Rattle.std.specs.declared.cmp.Ordering.TheVariants.{Less, Equal, Greater}
use Rattle.std.specs.Ordering.{nat_cmp, is_lt}
use Rattle.std.specs.Cmp.{tied_itself}
use Rattle.std.specs.Cmp.Lexicographic.{slice_cmp, nat_list_cmp_total}
use Rattle.std.proofs.Common.{arith, refl, sym, ◌∙◌, ap, inl, inr}
use Rattle.std.proofs.lemmas.Bool.{cases_Bool, true≢false}
use Rattle.std.proofs.lemmas.Slice.Eq.{bytes_eq-Decides}
use Rattle.au_codes.specs.Books.{Book, has, rank, rank_if_any, text_below}

-- a text below another
abbrev Before : List ℕ → List ℕ → Type 0
Before s t = slice_cmp nat_cmp s t ≡ Less

lt_is : (r : Ordering) → is_lt r ≡ true → r ≡ Less
lt_is Less h = refl
lt_is Equal h = absurd (true≢false (sym h))
lt_is Greater h = absurd (true≢false (sym h))

-- what is below a text is below each that this one is below
below_both : (x s t : List ℕ) → Before s t → text_below x s ≡ true → text_below x t ≡ true
below_both x s t h g = ap is_lt (nat_list_cmp_total.trans x s t (lt_is _ g) h)

not_itself : (s : List ℕ) → text_below s s ≡ false
not_itself s = ap is_lt (tied_itself nat_list_cmp_total s)

-- one text more
rank_more : (b d : Bool) (m n : ℕ) → (b ≡ true → d ≡ true) → m ≤ n → cond b (suc m) m ≤ cond d (suc n) n
rank_more true true m n f h = omega (arith, h)
rank_more true false m n f h = absurd (true≢false (sym (f refl)))
rank_more false true m n f h = omega (arith, h)
rank_more false false m n f h = h

rank_up : (b d : Bool) (m n : ℕ) → (b ≡ true → d ≡ true) → m < n → cond b (suc m) m < cond d (suc n) n
rank_up true true m n f h = omega (arith, h)
rank_up true false m n f h = absurd (true≢false (sym (f refl)))
rank_up false true m n f h = omega (arith, h)
rank_up false false m n f h = h

rank_there : (b d : Bool) (m n : ℕ) → b ≡ false → d ≡ true → m ≤ n → cond b (suc m) m < cond d (suc n) n
rank_there true d m n p q h = absurd (true≢false p)
rank_there false true m n p q h = omega (arith, h)
rank_there false false m n p q h = absurd (true≢false (sym q))

-- a lower text has no higher rank
rank_at_most : (book : Book) (s t : List ℕ) → Before s t → rank book s ≤ rank book t
rank_at_most [] s t h = omega arith
rank_at_most (x ∷ book) s t h =
    rank_more (text_below x s) (text_below x t) (rank book s) (rank book t) (below_both x s t h) (rank_at_most book s t h)

-- and a lower one, if the book has it
pub rank_below : (book : Book) (s t : List ℕ) → Before s t → has book s ≡ true → rank book s < rank book t
rank_below [] s t h c = absurd (true≢false (sym c))
rank_below (x ∷ book) s t h c =
    elim (cases_Bool (bytes_eq s x)) [
      | inl here ↦
          let same : s ≡ x = (bytes_eq-Decides s x).0 here in
          rank_there (text_below x s) (text_below x t) (rank book s) (rank book t)
          (ap (λ y. text_below y s) (sym same) ∙ not_itself s) (ap (λ y. text_below y t) (sym same) ∙ ap is_lt h) (rank_at_most book s t h)
      | inr here ↦
          rank_up (text_below x s) (text_below x t) (rank book s) (rank book t) (below_both x s t h) (rank_below book s t h (rw here at c))
    ]

rank_step : (b : Bool) (m n : ℕ) → m ≤ n → cond b (suc m) m ≤ suc n
rank_step true m n h = omega (arith, h)
rank_step false m n h = omega (arith, h)

-- a rank is at most the number of texts
pub rank_small : (book : Book) (w : List ℕ) → rank book w ≤ length book
rank_small [] w = omega arith
rank_small (t ∷ book) w = let e = rank_step (text_below t w) (rank book w) (length book) (rank_small book w) in omega (arith, e)

-- of a text that the book has, too, as far as a tag goes
some_by : (b : Bool) (n r : ℕ) → Some r ≡ cond b (Some n) None → r ≡ n
some_by true n r h = cc
some_by false n r h = cc

pub some_few : (book : Book) (w : List ℕ) (r : ℕ) → length book + 13 < 2 ^ 31 → Some r ≡ rank_if_any book w → r + 13 < 2 ^ 31
some_few book w r few h =
    let is = some_by (has book w) (rank book w) r h in
    let small = rank_small book w in
    omega (arith, is, small, few)
