-- What words of a command's form ask for.
use Rattle.std.proofs.Common.{◌≡◌, ◌∙◌, ◌&&◌, ◌<◌, ◌==◌, ℕ, Bool, true, false, refl, arith, sym, ap, ap₂, subst, List, [], ◌∷◌, length, Option, Some, None, Result, Ok, Err, codes, drop}
use Rattle.std.specs.Prelude.{is_some, nat_lt, option_and_then, slice_get, slice_index_or, if◌then◌else◌, unwrap_or}
use Rattle.std.specs.List.{list_all}
use Rattle.std.specs.Str.Parse.{digits_value}
use Rattle.std.proofs.lemmas.Bool.{and_parts, true≢false}
use Rattle.au_value.specs.Texts.{Text}
use Rattle.au_words.specs.Words.{Asked, all_options, asked_by, asked_of, demo, demo_of, first_word, is_form, is_number, is_taken, number_of, positionals, unless, option_value, verb_of}
use Rattle.au_words.specs.CommandLine.{HasForm, IsUsage}
use Rattle.au_words.specs.declared.fault.UsageFault.{UsageFault}
use Rattle.au_words.specs.declared.fault.UsageFault.TheVariants.{Words}
use Rattle.au_words.specs.declared.words.form.Verb.{Verb}
use Rattle.au_words.specs.declared.words.form.Verb.TheVariants as verb
use Rattle.au_words.specs.declared.words.WordsFault.{WordsFault}
use Rattle.au_words.specs.declared.words.WordsFault.TheVariants.{NoMemory, Usage}
use Rattle.au_words.proofs.OptionWords.{Kind, all_taken_widely, kind_of, positional_named}

-- words of a command's form ask for what the command asks by them
pub asked_form : (v : Verb) (words : List Text) → HasForm v words → asked_of words ≡ asked_by v (drop 1 words)
asked_form v [] h = absurd h
asked_form v (word ∷ rest) h = rw (h.0, h.1) refl

-- ---- numbers behind options

-- the number of a text, if it is one
abbrev pub read : ℕ → Text → Option ℕ
read most text = if is_number 1 most text then Some (digits_value 10 text) else None

-- all that stands behind an option is a number that it takes
abbrev IsRead : Text → ℕ → List Text → Type 0
IsRead name most words = option_and_then (read most) (option_value name words) ≡ number_of name words

found_number : (most : ℕ) (value : Text) → is_number 1 most value ≡ true → read most value ≡ Some (digits_value 10 value)
found_number most value h = rw h refl

workers_step : (word : Text) (words : List Text) → Kind word → IsRead (codes "--workers") 64 words → IsRead (codes "--workers") 64 (word ∷ words)
workers_step word words (Kind.positional e) ih = let no = positional_named word (codes "-workers") e in rw no ih
workers_step word words (Kind.table e) ih = rw e ih
workers_step word words (Kind.combine e) ih = rw e ih
workers_step word words (Kind.points e) ih = rw e ih
workers_step word words (Kind.workers value e fits) ih = subst (λ w. IsRead (codes "--workers") 64 (w ∷ words)) (sym e) (found_number 64 value fits)
workers_step word words (Kind.compress value e fits) ih = subst (λ w. IsRead (codes "--workers") 64 (w ∷ words)) (sym e) ih

compress_step : (word : Text) (words : List Text) → Kind word → IsRead (codes "--compress") 1000 words → IsRead (codes "--compress") 1000 (word ∷ words)
compress_step word words (Kind.positional e) ih = let no = positional_named word (codes "-compress") e in rw no ih
compress_step word words (Kind.table e) ih = rw e ih
compress_step word words (Kind.combine e) ih = rw e ih
compress_step word words (Kind.points e) ih = rw e ih
compress_step word words (Kind.workers value e fits) ih = subst (λ w. IsRead (codes "--compress") 1000 (w ∷ words)) (sym e) ih
compress_step word words (Kind.compress value e fits) ih = subst (λ w. IsRead (codes "--compress") 1000 (w ∷ words)) (sym e) (found_number 1000 value fits)

workers_all : (words : List Text) → list_all (is_taken all_options) words ≡ true → IsRead (codes "--workers") 64 words
workers_all [] h = refl
workers_all (word ∷ words) h = let parts = and_parts _ _ h in workers_step word words (kind_of word parts.0) (workers_all words parts.1)

compress_all : (words : List Text) → list_all (is_taken all_options) words ≡ true → IsRead (codes "--compress") 1000 words
compress_all [] h = refl
compress_all (word ∷ words) h = let parts = and_parts _ _ h in compress_step word words (kind_of word parts.0) (compress_all words parts.1)

-- of words of a command's form
rest_taken : (v : Verb) (words : List Text) → HasForm v words → list_all (is_taken all_options) (drop 1 words) ≡ true
rest_taken v [] h = absurd h
rest_taken v (word ∷ rest) h = all_taken_widely v rest (and_parts _ _ (and_parts _ _ h.1).0).0

pub workers_read : (v : Verb) (words : List Text) → HasForm v words → IsRead (codes "--workers") 64 (drop 1 words)
workers_read v words h = workers_all (drop 1 words) (rest_taken v words h)

pub compress_read : (v : Verb) (words : List Text) → HasForm v words → IsRead (codes "--compress") 1000 (drop 1 words)
compress_read v words h = compress_all (drop 1 words) (rest_taken v words h)

-- ---- how many positional words there are

more_than_one : (n : ℕ) → nat_lt 1 n ≡ true → 1 < n
more_than_one n h = grind arith

just : (m n : ℕ) → (n == m) ≡ true → n ≡ m
just m n h = grind arith

abbrev Several : Verb → Type 0
Several v = (words : List Text) → HasForm v words → 1 < length (positionals (drop 1 words))

pub several_query : (command : _) → Several (verb.Query command)
several_query command [] h = absurd h
several_query command (word ∷ rest) h = more_than_one _ (and_parts _ _ h.1).1

pub several_plain : Several verb.Plain
several_plain [] h = absurd h
several_plain (word ∷ rest) h = more_than_one _ (and_parts _ _ h.1).1

pub two_words : Several verb.Demo
two_words [] h = absurd h
two_words (word ∷ rest) h = let two : length (positionals rest) ≡ 2 = just 2 (length (positionals rest)) (and_parts _ _ h.1).1 in omega (arith, two)

only : (words : List Text) → length words ≡ 1 → words ≡ slice_index_or words 0 [] ∷ []
only [] h = absurd (omega (arith, h))
only (word ∷ []) h = refl
only (word ∷ next ∷ words) h = absurd (omega (arith, h))

-- the only positional word
pub one_word : (words : List Text) → HasForm verb.Encode words → positionals (drop 1 words) ≡ first_word (drop 1 words) ∷ []
one_word [] h = absurd h
one_word (word ∷ rest) h = only (positionals rest) (just 1 _ (and_parts _ _ h.1).1)

-- the second of two or more
pub second : (words : List Text) → 1 < length words → slice_get (drop 1 words) 0 ≡ Some (slice_index_or (drop 1 words) 0 [])
second [] h = absurd (omega (arith, h))
second (word ∷ []) h = absurd (omega (arith, h))
second (word ∷ next ∷ words) h = refl

-- ---- what is asked

-- a wrong table word is what is wrong with the words
pub refused : (e : WordsFault) (fault_of : Option UsageFault) (asked : Asked) → IsUsage e (λ fault. fault_of ≡ Some fault) → IsUsage e (λ fault. unless fault_of asked ≡ Err fault)
refused (Usage fault) fault_of asked is = ap (λ wrong. unless wrong asked) is
refused NoMemory fault_of asked is = tt

-- the numbers of a demonstration
abbrev demo_by : Bool → Bool → ℕ → ℕ → ℕ → Result Asked UsageFault
demo_by p q v w n = if p && q then Ok (demo v w n) else Err Words

abbrev number : Bool → ℕ → Option ℕ
number p v = if p then Some v else None

some_is : (x y : ℕ) → Some x ≡ Some y → x ≡ y
some_is x y e = ap (λ o. unwrap_or o x) e

two_by : (p q : Bool) (v w s t n : ℕ) → Some s ≡ number p v → Some t ≡ number q w → demo_by p q v w n ≡ Ok (demo s t n)
two_by true true v w s t n e f = ap₂ (λ a b. Ok (demo a b n)) (some_is v s (sym e)) (some_is w t (sym f))
two_by true false v w s t n e f = absurd (true≢false (ap is_some f))
two_by false q v w s t n e f = absurd (true≢false (ap is_some e))

no_first_by : (p q : Bool) (v w n : ℕ) → None ≡ number p v → demo_by p q v w n ≡ Err Words
no_first_by true q v w n e = absurd (true≢false (sym (ap is_some e)))
no_first_by false q v w n e = refl

no_second_by : (p q : Bool) (v w n : ℕ) → None ≡ number q w → demo_by p q v w n ≡ Err Words
no_second_by true true v w n f = absurd (true≢false (sym (ap is_some f)))
no_second_by true false v w n f = refl
no_second_by false q v w n f = refl

abbrev pub start_of : Text → Option ℕ
start_of text = if is_number 0 4294967295 text then Some (digits_value 10 text) else None

abbrev pub blocks_of : Text → Option ℕ
blocks_of text = if is_number 1 100000 text then Some (digits_value 10 text) else None

pub two_numbers : (start blocks : Text) (s t n : ℕ) → Some s ≡ start_of start → Some t ≡ blocks_of blocks → demo_of n start blocks ≡ Ok (demo s t n)
two_numbers start blocks s t n = two_by (is_number 0 4294967295 start) (is_number 1 100000 blocks) (digits_value 10 start) (digits_value 10 blocks) s t n

pub no_start : (start blocks : Text) (n : ℕ) → None ≡ start_of start → demo_of n start blocks ≡ Err Words
no_start start blocks n = no_first_by (is_number 0 4294967295 start) (is_number 1 100000 blocks) (digits_value 10 start) (digits_value 10 blocks) n

pub no_blocks : (start blocks : Text) (n : ℕ) → None ≡ blocks_of blocks → demo_of n start blocks ≡ Err Words
no_blocks start blocks n = no_second_by (is_number 0 4294967295 start) (is_number 1 100000 blocks) (digits_value 10 start) (digits_value 10 blocks) n

-- a text that is there, and is the known one
pub text_is : (found : Option Text) (known text : Text) → found ≡ Some known → found ≡ Some text → text ≡ known
text_is found known text e f = ap (λ o. unwrap_or o known) (sym f ∙ e)

pub texts_are : (found : Option (List Text)) (known texts : List Text) → found ≡ Some known → found ≡ Some texts → texts ≡ known
texts_are found known texts e f = ap (λ o. unwrap_or o known) (sym f ∙ e)

-- ---- words of no form

pub no_verb : (word : Text) (rest : List Text) → verb_of word ≡ None → asked_of (word ∷ rest) ≡ Err Words
no_verb word rest e = rw e refl

pub no_form : (v : Verb) (word : Text) (rest : List Text) → verb_of word ≡ Some v → is_form v rest ≡ false → asked_of (word ∷ rest) ≡ Err Words
no_form v word rest e f = rw (e, f) refl
