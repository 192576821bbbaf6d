-- The words of a command line, without the program's name: a command, its options and its positional words.
-- A word that begins with `-` is an option. Options stand anywhere behind the command, each at most once.
use Rattle.std.specs.Prelude.{ℕ, ◌==◌, ◌&&◌, ◌||◌, not, Bool, true, false, List, [], ◌∷◌, ◌++◌, length, drop, map, Option, Some, None, Result, Ok, Err, if◌then◌else◌, codes, slice_index, slice_index_or, bytes_eq, nat_lt, nat_le, position, find, option_map, unwrap_or}
use Rattle.std.specs.Option.{option_or}
use Rattle.std.specs.Result.{result_err}
use Rattle.std.specs.List.{list_all, list_any, filter, before_first, after_first}
use Rattle.std.specs.Char.{is_ascii_digit}
use Rattle.std.specs.Str.{str_eq_ignore_ascii_case}
use Rattle.std.specs.Str.Parse.{digits_value}
use Rattle.au_value.specs.Texts.{Text}
use Rattle.au_words.specs.declared.fault.UsageFault.{UsageFault}
use Rattle.au_words.specs.declared.fault.UsageFault.TheVariants.{Words, BadTable, SameTable}
use Rattle.au_words.specs.declared.words.Command.{Command}
use Rattle.au_words.specs.declared.words.Command.TheVariants.{Answer, Direct, Guess, Ua, Rewrite, Explain}
use Rattle.au_words.specs.declared.answer_form.Form.{Form}
use Rattle.au_words.specs.declared.answer_form.Form.TheVariants.{Csv, Table}
use Rattle.au_words.specs.declared.words.form.Verb.{Verb}
use Rattle.au_words.specs.declared.words.form.Verb.TheVariants as verb

-- ---- words that are cut

-- a word is cut at its first `=` into a name and what stands behind it
abbrev pub is_equal_sign : ℕ → Bool
is_equal_sign b = b == 61

abbrev pub name_part : Text → Text
name_part word = before_first is_equal_sign word

abbrev pub value_part : Text → Text
value_part word = after_first is_equal_sign word

-- ---- numbers

-- whether a text is digits, without a leading zero unless it is `0`
abbrev pub is_plain : Text → Bool
is_plain text = not (length text == 0) && list_all is_ascii_digit text && (length text == 1 || not (slice_index text 0 == 48))

-- whether a text is a number from least to most
abbrev pub is_number : ℕ → ℕ → Text → Bool
is_number least most text = is_plain text && nat_le least (digits_value 10 text) && nat_le (digits_value 10 text) most

-- ---- options and positional words

abbrev pub is_option : Text → Bool
is_option word = slice_index word 0 == 45

abbrev pub positionals : List Text → List Text
positionals words = filter (λ word. not (is_option word)) words

-- the greatest number of workers
abbrev pub greatest_workers : ℕ
greatest_workers = 64

-- an option stands alone, or has a number from 1 on behind `=`: its name, and the greatest such number
abbrev pub OptionWord : Type 0
OptionWord = Text × Option ℕ

abbrev pub has_name : Text → Text → Bool
has_name name word = bytes_eq (name_part word) name

-- whether a word is this option
abbrev pub is_written : OptionWord → Text → Bool
is_written (name, None) word = bytes_eq word name
is_written (name, Some most) word = list_any is_equal_sign word && has_name name word && is_number 1 most (value_part word)

abbrev pub is_taken : List OptionWord → Text → Bool
is_taken taken word = not (is_option word) || list_any (λ option. is_written option word) taken

abbrev pub all_options : List OptionWord
all_options = (codes "--table", None) ∷ (codes "--combine", None) ∷ (codes "--points", None) ∷ (codes "--workers", Some greatest_workers) ∷ (codes "--compress", Some 1000) ∷ []

-- whether the options are among these, each at most once
abbrev pub are_options : List OptionWord → List Text → Bool
are_options taken words =
    list_all (is_taken taken) words
    && list_all (λ option. nat_le (length (filter (has_name option.0) words)) 1) all_options

-- what stands behind an option, where the option is there, and its number
abbrev pub option_value : Text → List Text → Option Text
option_value name words = option_map value_part (find (has_name name) words)

abbrev pub number_of : Text → List Text → Option ℕ
number_of name words = option_map (digits_value 10) (option_value name words)

-- ---- table words

-- a table word is a name and a path
abbrev pub named_path : Text → Text × Text
named_path word = (name_part word, value_part word)

-- whether a table word has no `=`, an empty name or an empty path
abbrev pub is_bad_table : Text → Bool
is_bad_table word = not (list_any is_equal_sign word) || (length (name_part word) == 0) || (length (value_part word) == 0)

-- the place of the first of these names that is equal to this one, ignoring ASCII case
abbrev pub same_name : List Text → Text → Option ℕ
same_name names name = position (λ other. str_eq_ignore_ascii_case other name) names

-- the first name that is equal to one before it, with the first such: the names behind those already seen
abbrev pub same_names : List Text → List Text → Option (ℕ × ℕ)
same_names seen [] = None
same_names seen (name ∷ names) =
    option_or (option_map (λ i. (i, length seen)) (same_name seen name)) (same_names (seen ++ name ∷ []) names)

-- what is wrong with the table words, if anything is
abbrev pub table_fault : List Text → Option UsageFault
table_fault words =
    option_or (option_map BadTable (position is_bad_table words))
    (option_map (λ p. SameTable p.0 p.1) (same_names [] (map name_part words)))

-- ---- what is asked

-- the form of a bounded answer, by whether a table is asked for
abbrev pub form_asked : Bool → Form
form_asked false = Csv
form_asked true = Table

-- the answer of a query over tables, each with a name and a path
pub record Request : Type 0 where
  pub command : Command
  pub form : Form
  pub combine : Bool
  pub points : Bool
  pub workers : ℕ
  pub compress : Option ℕ
  pub query : Text
  pub tables : List (Text × Text)

-- a query; a demonstration of so many blocks, by so many workers; a table with its rows encoded; or the rows of the plan
-- in a file, over tables
pub data Asked : Type 0 where
  query : Request → Asked
  demo : ℕ → ℕ → ℕ → Asked
  encode : Text × Text → Asked
  plain : Text → List (Text × Text) → Asked

-- the thing that is asked, unless something is wrong
abbrev pub unless : Option UsageFault → Asked → Result Asked UsageFault
unless None asked = Ok asked
unless (Some fault) asked = Err fault

-- ---- commands

-- what a command's word names
abbrev pub verb_of : Text → Option Verb
verb_of word =
    if bytes_eq word (codes "answer") then Some (verb.Query Answer)
    else if bytes_eq word (codes "direct") then Some (verb.Query Direct)
    else if bytes_eq word (codes "guess") then Some (verb.Query Guess)
    else if bytes_eq word (codes "ua") then Some (verb.Query Ua)
    else if bytes_eq word (codes "demo") then Some verb.Demo
    else if bytes_eq word (codes "rewrite") then Some (verb.Query Rewrite)
    else if bytes_eq word (codes "explain") then Some (verb.Query Explain)
    else if bytes_eq word (codes "encode") then Some verb.Encode
    else if bytes_eq word (codes "plain") then Some verb.Plain
    else None

abbrev pub options_of : Verb → List OptionWord
options_of (verb.Query Answer) = all_options
options_of (verb.Query Direct) = (codes "--table", None) ∷ (codes "--combine", None) ∷ []
options_of verb.Demo = (codes "--workers", Some greatest_workers) ∷ []
options_of _ = []

-- whether there are so many positional words as a command takes: two numbers, a table, or a first word and tables
abbrev pub is_count : Verb → ℕ → Bool
is_count verb.Demo n = n == 2
is_count verb.Encode n = n == 1
is_count _ n = nat_lt 1 n

abbrev pub is_form : Verb → List Text → Bool
is_form v words = are_options (options_of v) words && is_count v (length (positionals words))

abbrev pub first_word : List Text → Text
first_word words = slice_index_or (positionals words) 0 []

abbrev pub later_words : List Text → List Text
later_words words = drop 1 (positionals words)

abbrev pub request_of : Command → List Text → Request
request_of command words = record {
  command = command;
  form = form_asked (list_any (bytes_eq (codes "--table")) words);
  combine = list_any (bytes_eq (codes "--combine")) words;
  points = list_any (bytes_eq (codes "--points")) words;
  workers = unwrap_or (number_of (codes "--workers") words) 1;
  compress = number_of (codes "--compress") words;
  query = first_word words;
  tables = map named_path (later_words words);
}

-- a demonstration, where both texts are numbers that it takes
abbrev pub demo_of : ℕ → Text → Text → Result Asked UsageFault
demo_of workers start blocks =
    if is_number 0 4294967295 start && is_number 1 100000 blocks
    then Ok (demo (digits_value 10 start) (digits_value 10 blocks) workers) else Err Words

-- what the words behind a command ask for, where they are of its form
abbrev pub asked_by : Verb → List Text → Result Asked UsageFault
asked_by (verb.Query command) words = unless (table_fault (later_words words)) (query (request_of command words))
asked_by verb.Demo words =
    demo_of (unwrap_or (number_of (codes "--workers") words) 1) (first_word words) (slice_index_or (later_words words) 0 [])
asked_by verb.Encode words = unless (table_fault (positionals words)) (encode (named_path (first_word words)))
asked_by verb.Plain words = unless (table_fault (later_words words)) (plain (first_word words) (map named_path (later_words words)))

-- ---- all words

abbrev pub asked_of_verb : Option Verb → List Text → Result Asked UsageFault
asked_of_verb None words = Err Words
asked_of_verb (Some v) words = if is_form v words then asked_by v words else Err Words

-- what the words ask for, or what is wrong with them
abbrev pub asked_of : List Text → Result Asked UsageFault
asked_of [] = Err Words
asked_of (word ∷ words) = asked_of_verb (verb_of word) words

abbrev pub first_usage_fault : List Text → Option UsageFault
first_usage_fault words = result_err (asked_of words)
