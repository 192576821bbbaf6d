-- Where a table word is cut, and which words are bad.
use Rattle.std.proofs.Common.{◌≡◌, ℕ, ◌+◌, ◌<◌, Bool, true, false, List, [], ◌∷◌, length, refl, arith, not, cond, true≢false, drop_of_length-le, ◌||◌, Some, None, suc}
use Rattle.std.proofs.Math.Seq.{take-length}
use Rattle.std.specs.Prelude.{Option, MatchOption}
use Rattle.std.specs.Borrow.{Bor}
use Rattle.std.specs.List.{list_any, position_or_len}
use Rattle.std.proofs.lemmas.Str.Pattern.{IsSplitOnceResult, split_once_first}
use Rattle.au_words.specs.Words.{is_equal_sign, name_part, value_part}

none_step : (b : Bool) (n len : ℕ) (others : Bool) → (n ≡ len → others ≡ false) → cond (not b) (1 + n) 0 ≡ suc len → (b || others) ≡ false
none_step true n len others below at_end = absurd (omega arith)
none_step false n len others below at_end = below (omega arith)

some_step : (b : Bool) (n len : ℕ) (others : Bool) → (n < len → others ≡ true) → cond (not b) (1 + n) 0 < suc len → (b || others) ≡ true
some_step true n len others below within = refl
some_step false n len others below within = below (omega arith)

none_found : (p : ℕ → Bool) (xs : List ℕ) → position_or_len p xs ≡ length xs → list_any p xs ≡ false
none_found p [] at_end = refl
none_found p (x ∷ xs) at_end = none_step (p x) (position_or_len p xs) (length xs) (list_any p xs) (none_found p xs) at_end

some_found : (p : ℕ → Bool) (xs : List ℕ) → position_or_len p xs < length xs → list_any p xs ≡ true
some_found p [] within = absurd (omega arith)
some_found p (x ∷ xs) within = some_step (p x) (position_or_len p xs) (length xs) (list_any p xs) (some_found p xs) within

-- what `split_once` answers at `=`
pub cut_at_first : (word : List ℕ) (r : Option (Bor (List ℕ) × Bor (List ℕ))) → IsSplitOnceResult 61 word r
    → MatchOption r (list_any is_equal_sign word ≡ false)
    (λ parts. (list_any is_equal_sign word ≡ true) × (parts.0.now ≡ name_part word) × (parts.1.now ≡ value_part word))
cut_at_first word None split = none_found is_equal_sign word (split_once_first 61 word None split (omega arith))
cut_at_first word (Some parts) split = (
  some_found is_equal_sign word (split_once_first 61 word (Some parts) split (omega arith)).0,
  (split_once_first 61 word (Some parts) split (omega arith)).1,
  (split_once_first 61 word (Some parts) split (omega arith)).2,
)

-- a word without `=` is a name without a path
at_end : (word : List ℕ) → list_any is_equal_sign word ≡ false → position_or_len is_equal_sign word ≡ length word
at_end [] none = refl
at_end (b ∷ bs) none = end_step (is_equal_sign b) (position_or_len is_equal_sign bs) (length bs) (list_any is_equal_sign bs) (at_end bs) none
  where
    end_step : (b : Bool) (n len : ℕ) (others : Bool) → (others ≡ false → n ≡ len) → (b || others) ≡ false → cond (not b) (1 + n) 0 ≡ suc len
    end_step true n len others below none = absurd (true≢false none)
    end_step false n len others below none = omega (arith, below none)

pub name_alone : (word : List ℕ) → list_any is_equal_sign word ≡ false → (name_part word ≡ word) × (value_part word ≡ [])
name_alone word none =
    let e = at_end word none in
    (rw e (take-length word), rw e (drop_of_length-le word (omega arith)))
