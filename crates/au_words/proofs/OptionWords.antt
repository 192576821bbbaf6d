-- The words that may stand behind a command: positional words, and five options.
use Rattle.std.proofs.Common.{◌≡◌, ◌∙◌, ◌+◌, ◌<◌, ◌||◌, ◌==◌, ℕ, Bool, cond, true, false, not, refl, sym, ap, arith, eqb-true, List, [], ◌∷◌, ◌++◌, length, get_or, take, Some, None, codes, suc}
use Rattle.std.specs.List.{list_all, list_any, position_or_len}
use Rattle.std.specs.Str.{bytes_eq}
use Rattle.std.proofs.lemmas.Bool.{and_parts, true≢false}
use Rattle.std.proofs.lemmas.List.Sums.{split_at_first, prefix_len_stops}
use Rattle.std.proofs.lemmas.Slice.Eq.{bytes_eq-Decides}
use Rattle.au_value.specs.Texts.{Text}
use Rattle.au_words.specs.Words.{all_options, is_equal_sign, is_number, is_option, is_taken, is_written, name_part, options_of, value_part}
use Rattle.au_words.specs.declared.words.Command.TheVariants.{Answer, Direct, Guess, Ua, Rewrite, Explain}
use Rattle.au_words.specs.declared.words.form.Verb.{Verb}
use Rattle.au_words.specs.declared.words.form.Verb.TheVariants as verb

-- what a word may be
pub data Kind (word : Text) : Type 0 where
  positional : is_option word ≡ false → Kind word
  table : word ≡ codes "--table" → Kind word
  combine : word ≡ codes "--combine" → Kind word
  points : word ≡ codes "--points" → Kind word
  workers : (value : Text) → word ≡ codes "--workers=" ++ value → is_number 1 64 value ≡ true → Kind word
  compress : (value : Text) → word ≡ codes "--compress=" ++ value → is_number 1 1000 value ≡ true → Kind word

-- ---- a word that is cut

within_step : (b : Bool) (n len : ℕ) (others : Bool) → (others ≡ true → n < len) → (b || others) ≡ true → cond (not b) (1 + n) 0 < suc len
within_step true n len others below h = omega arith
within_step false n len others below h = omega (arith, below h)

within : (word : Text) → list_any is_equal_sign word ≡ true → position_or_len is_equal_sign word < length word
within [] h = absurd (true≢false (sym h))
within (b ∷ bs) h = within_step (is_equal_sign b) (position_or_len is_equal_sign bs) (length bs) (list_any is_equal_sign bs) (within bs) h

is_true : (b : Bool) → not b ≡ false → b ≡ true
is_true true h = refl
is_true false h = absurd (true≢false h)

-- a word with `=` is what stands before the first, it, and what stands behind it
cut_is : (word : Text) → list_any is_equal_sign word ≡ true → word ≡ name_part word ++ 61 ∷ value_part word
cut_is word h =
    let inside = within word h in
    let stops = prefix_len_stops (λ b. not (is_equal_sign b)) word 0 inside in
    let sign : get_or word (position_or_len is_equal_sign word) 0 ≡ 61 = eqb-true _ 61 (is_true (is_equal_sign (get_or word (position_or_len is_equal_sign word) 0)) stops) in
    split_at_first is_equal_sign word 0 inside ∙ ap (λ b. name_part word ++ b ∷ value_part word) sign

-- ---- the kind of a word that is taken

number_kind : (name : Text) (most : ℕ) (word : Text) → is_written (name, Some most) word ≡ true → (word ≡ name ++ 61 ∷ value_part word) × (is_number 1 most (value_part word) ≡ true)
number_kind name most word h =
    let parts = and_parts _ _ h in
    let front = and_parts _ _ parts.0 in
    let named : name_part word ≡ name = (bytes_eq-Decides (name_part word) name).0 front.1 in
    (cut_is word front.0 ∙ ap (λ n. n ++ 61 ∷ value_part word) named, parts.1)

any_kind : (word : Text) (a b p c d : Bool) → is_written (codes "--table", None) word ≡ a → is_written (codes "--combine", None) word ≡ b → is_written (codes "--points", None) word ≡ p
    → is_written (codes "--workers", Some 64) word ≡ c → is_written (codes "--compress", Some 1000) word ≡ d → (a || (b || (p || (c || (d || false))))) ≡ true → Kind word
any_kind word true b p c d e f i g h any = Kind.table ((bytes_eq-Decides word (codes "--table")).0 e)
any_kind word false true p c d e f i g h any = Kind.combine ((bytes_eq-Decides word (codes "--combine")).0 f)
any_kind word false false true c d e f i g h any = Kind.points ((bytes_eq-Decides word (codes "--points")).0 i)
any_kind word false false false true d e f i g h any = let n = number_kind (codes "--workers") 64 word g in Kind.workers (value_part word) n.0 n.1
any_kind word false false false false true e f i g h any = let n = number_kind (codes "--compress") 1000 word h in Kind.compress (value_part word) n.0 n.1
any_kind word false false false false false e f i g h any = absurd (true≢false (sym any))

kind_by : (word : Text) (b : Bool) → is_option word ≡ b → (not b || list_any (λ option. is_written option word) all_options) ≡ true → Kind word
kind_by word false e h = Kind.positional e
kind_by word true e h = any_kind word _ _ _ _ _ refl refl refl refl refl h

pub kind_of : (word : Text) → is_taken all_options word ≡ true → Kind word
kind_of word h = kind_by word (is_option word) refl h

-- ---- what a command takes is among all options

wider : (a b p c d o : Bool) → (not o || (a || (b || false))) ≡ true → (not o || (a || (b || (p || (c || (d || false)))))) ≡ true
wider a b p c d false h = refl
wider true b p c d true h = refl
wider false true p c d true h = refl
wider false false p c d true h = absurd (true≢false (sym h))

fourth : (a b p c d o : Bool) → (not o || (c || false)) ≡ true → (not o || (a || (b || (p || (c || (d || false)))))) ≡ true
fourth a b p c d false h = refl
fourth true b p c d true h = refl
fourth false true p c d true h = refl
fourth false false true c d true h = refl
fourth false false false true d true h = refl
fourth false false false false d true h = absurd (true≢false (sym h))

no_option : (b o : Bool) → (not o || false) ≡ true → (not o || b) ≡ true
no_option b false h = refl
no_option b true h = absurd (true≢false (sym h))

abbrev any : Text → Bool
any word = list_any (λ option. is_written option word) all_options

pub taken_widely : (v : Verb) (word : Text) → is_taken (options_of v) word ≡ true → is_taken all_options word ≡ true
taken_widely (verb.Query Answer) word h = h
taken_widely (verb.Query Direct) word h =
    wider (is_written (codes "--table", None) word) (is_written (codes "--combine", None) word) (is_written (codes "--points", None) word) (is_written (codes "--workers", Some 64) word) (is_written (codes "--compress", Some 1000) word) (is_option word) h
taken_widely (verb.Query Guess) word h = no_option (any word) (is_option word) h
taken_widely (verb.Query Ua) word h = no_option (any word) (is_option word) h
taken_widely (verb.Query Rewrite) word h = no_option (any word) (is_option word) h
taken_widely (verb.Query Explain) word h = no_option (any word) (is_option word) h
taken_widely verb.Demo word h =
    fourth (is_written (codes "--table", None) word) (is_written (codes "--combine", None) word) (is_written (codes "--points", None) word) (is_written (codes "--workers", Some 64) word) (is_written (codes "--compress", Some 1000) word) (is_option word) h
taken_widely verb.Encode word h = no_option (any word) (is_option word) h
taken_widely verb.Plain word h = no_option (any word) (is_option word) h

pub all_taken_widely : (v : Verb) (words : List Text) → list_all (is_taken (options_of v)) words ≡ true → list_all (is_taken all_options) words ≡ true
all_taken_widely v [] h = refl
all_taken_widely v (word ∷ words) h =
    let parts = and_parts _ _ h in
    rw (taken_widely v word parts.0, all_taken_widely v words parts.1) refl

-- ---- a positional word has the name of no option

first_step : (b : ℕ) (sign : Bool) (n : ℕ) (bs xs : Text) → (b == 45) ≡ false → bytes_eq (take (cond (not sign) (1 + n) 0) (b ∷ bs)) (45 ∷ xs) ≡ false
first_step b true n bs xs e = refl
first_step b false n bs xs e = let more : 1 + n ≡ suc n = omega arith in rw (more, e) refl

pub positional_named : (word xs : Text) → is_option word ≡ false → bytes_eq (name_part word) (45 ∷ xs) ≡ false
positional_named [] xs e = refl
positional_named (b ∷ bs) xs e = first_step b (is_equal_sign b) (position_or_len is_equal_sign bs) bs xs e

pub positional_differs : (word option : Text) → is_option option ≡ true → is_option word ≡ false → bytes_eq option word ≡ false
positional_differs word option is_one is_none = by_case (bytes_eq option word) refl
  where
    by_case : (b : Bool) → bytes_eq option word ≡ b → b ≡ false
    by_case true e = absurd (true≢false (sym is_one ∙ ap is_option ((bytes_eq-Decides option word).0 e) ∙ is_none))
    by_case false e = refl
