-- The numbers of a command line lie in their ranges: the workers, the rows that are compressed to, and the blocks of a
-- demonstration.
use Rattle.std.proofs.Common.{◌≡◌, ◌≤◌, ◌&&◌, ℕ, Bool, true, false, List, [], ◌∷◌, drop, map, Option, Some, None, Ok, Err, arith, refl, subst, ◌∙◌, codes, if◌then◌else◌}
use Rattle.std.specs.Prelude.{nat_le, option_and_then, slice_index_or, unwrap_or}
use Rattle.std.specs.Str.Parse.{digits_value}
use Rattle.au_program.specs.Rules.{IsCompression}
use Rattle.au_words.specs.declared.fault.UsageFault.{UsageFault}
use Rattle.au_words.specs.declared.fault.UsageFault.TheVariants.{Words}
use Rattle.au_words.specs.declared.words.form.Verb.{Verb}
use Rattle.au_words.specs.declared.words.form.Verb.TheVariants as verb
use Rattle.au_words.specs.CommandLine.{HasForm}
use Rattle.au_words.specs.Words as words
use Rattle.au_value.specs.Texts.{Text}
use Rattle.au_words.specs.Words.{Asked, asked_by, asked_of, asked_of_verb, first_word, greatest_workers, is_form, is_number, is_plain, later_words, number_of, positionals, request_of, table_fault, named_path, unless, option_value, verb_of}
use Rattle.au_words.proofs.AskedWords.{compress_read, read, workers_read}

-- ---- a number that is read lies in its range

parts : (p : Bool) (least most n : ℕ) → (p && nat_le least n && nat_le n most) ≡ true → (least ≤ n) × (n ≤ most)
parts p least most n e = (grind arith, grind arith)

number_range : (least most : ℕ) (text : Text) → is_number least most text ≡ true → (least ≤ digits_value 10 text) × (digits_value 10 text ≤ most)
number_range least most text e = parts (is_plain text) least most (digits_value 10 text) e

read_range : (most : ℕ) (text : Text) (is : Bool) (n : ℕ) → is_number 1 most text ≡ is → (if is then Some (digits_value 10 text) else None) ≡ Some n → (1 ≤ n) × (n ≤ most)
read_range most text true n e h = let same : digits_value 10 text ≡ n = cc in subst (λ k. (1 ≤ k) × (k ≤ most)) same (number_range 1 most text e)
read_range most text false n e h = cc

found_range : (most : ℕ) (text : Option Text) (n : ℕ) → option_and_then (read most) text ≡ Some n → (1 ≤ n) × (n ≤ most)
found_range most None n h = cc
found_range most (Some text) n h = read_range most text (is_number 1 most text) n refl h

-- one where no number is given
or_one : (most : ℕ) (found : Option ℕ) → 1 ≤ most → ((n : ℕ) → found ≡ Some n → (1 ≤ n) × (n ≤ most)) → (1 ≤ unwrap_or found 1) × (unwrap_or found 1 ≤ most)
or_one most None some h = (omega arith, some)
or_one most (Some n) some h = h n refl

compressed : (found : Option ℕ) → ((n : ℕ) → found ≡ Some n → (1 ≤ n) × (n ≤ 1000)) → IsCompression found
compressed None h = tt
compressed (Some n) h = h n refl

-- ---- the options of words of a command's form

workers_range : (v : Verb) (all : List Text) → HasForm v all → (1 ≤ unwrap_or (number_of (codes "--workers") (drop 1 all)) 1) × (unwrap_or (number_of (codes "--workers") (drop 1 all)) 1 ≤ greatest_workers)
workers_range v all form =
    or_one greatest_workers (number_of (codes "--workers") (drop 1 all)) (omega arith) (λ n e. found_range greatest_workers (option_value (codes "--workers") (drop 1 all)) n (workers_read v all form ∙ e))

compress_range : (v : Verb) (all : List Text) → HasForm v all → IsCompression (number_of (codes "--compress") (drop 1 all))
compress_range v all form =
    compressed (number_of (codes "--compress") (drop 1 all)) (λ n e. found_range 1000 (option_value (codes "--compress") (drop 1 all)) n (compress_read v all form ∙ e))

-- ---- what is asked is asked by words of a command's form

abbrev Form : List Text → Asked → Type 0
Form all asked = (v : Verb) × HasForm v all × (asked_by v (drop 1 all) ≡ Ok asked)

by_form : (word : Text) (rest : List Text) (v : Verb) (form : Bool) (asked : Asked) → verb_of word ≡ Some v → is_form v rest ≡ form
    → (if form then asked_by v rest else Err Words) ≡ Ok asked → Form (word ∷ rest) asked
by_form word rest v true asked named e h = (v, (named, e), h)
by_form word rest v false asked named e h = cc

by_verb : (word : Text) (rest : List Text) (found : Option Verb) (asked : Asked) → verb_of word ≡ found → asked_of_verb found rest ≡ Ok asked → Form (word ∷ rest) asked
by_verb word rest None asked e h = cc
by_verb word rest (Some v) asked e h = by_form word rest v (is_form v rest) asked e refl h

has_form : (all : List Text) (asked : Asked) → asked_of all ≡ Ok asked → Form all asked
has_form [] asked h = cc
has_form (word ∷ rest) asked h = by_verb word rest (verb_of word) asked refl h

-- ---- each command

-- the numbers of what is asked lie in their ranges
abbrev pub AreInRange : Asked → Type 0
AreInRange (words.query r) = ((1 ≤ r.workers) × (r.workers ≤ greatest_workers)) × IsCompression r.compress
AreInRange (words.demo start blocks workers) = ((1 ≤ blocks) × (blocks ≤ 100000)) × (1 ≤ workers) × (workers ≤ greatest_workers)
AreInRange (words.encode table) = Unit {0}
AreInRange (words.plain plan tables) = Unit {0}

unless_is : (fault : Option UsageFault) (made asked : Asked) → unless fault made ≡ Ok asked → made ≡ asked
unless_is None made asked h = cc
unless_is (Some fault) made asked h = cc

second : (p q : Bool) → (p && q) ≡ true → q ≡ true
second true q e = e
second false q e = cc

chosen : (both : Bool) (made asked : Asked) → (both ≡ true → AreInRange made) → (if both then Ok made else Err Words) ≡ Ok asked → AreInRange asked
chosen true made asked range e = let same : made ≡ asked = cc in subst AreInRange same (range refl)
chosen false made asked range e = cc

ranges_by : (v : Verb) (all : List Text) (asked : Asked) → HasForm v all → asked_by v (drop 1 all) ≡ Ok asked → AreInRange asked
ranges_by (verb.Query command) all asked form h =
    subst AreInRange (unless_is (table_fault (later_words (drop 1 all))) (words.query (request_of command (drop 1 all))) asked h)
    (workers_range (verb.Query command) all form, compress_range (verb.Query command) all form)
ranges_by verb.Demo all asked form h =
    let start = first_word (drop 1 all) in
    let blocks = slice_index_or (later_words (drop 1 all)) 0 [] in
    let workers = workers_range verb.Demo all form in
    chosen (is_number 0 4294967295 start && is_number 1 100000 blocks)
    (words.demo (digits_value 10 start) (digits_value 10 blocks) (unwrap_or (number_of (codes "--workers") (drop 1 all)) 1)) asked
    (λ fine. (number_range 1 100000 blocks (second (is_number 0 4294967295 start) (is_number 1 100000 blocks) fine), workers.0, workers.1)) h
ranges_by verb.Encode all asked form h =
    subst AreInRange (unless_is (table_fault (positionals (drop 1 all))) (words.encode (named_path (first_word (drop 1 all)))) asked h) tt
ranges_by verb.Plain all asked form h =
    subst AreInRange (unless_is (table_fault (later_words (drop 1 all))) (words.plain (first_word (drop 1 all)) (map named_path (later_words (drop 1 all)))) asked h) tt

pub in_range : (all : List Text) (asked : Asked) → asked_of all ≡ Ok asked → AreInRange asked
in_range all asked h = let found = has_form all asked h in ranges_by found.0 all asked found.1 found.2
