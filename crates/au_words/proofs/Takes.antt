-- The command line takes the words of each command's form, and what it finds in them.
use Rattle.std.proofs.Common.{◌≡◌, ◌∙◌, ◌≤◌, ◌<◌, ℕ, Bool, true, false, refl, sym, ap, arith, List, [], ◌∷◌, ◌++◌, length, Some, None, codes, append_assoc, append-nil}
use Rattle.std.specs.Prelude.{fold, is_some, nat_le, nat_lt, ◌==◌, unwrap_or, if◌then◌else◌}
use Rattle.std.specs.List.{filter}
use Rattle.std.specs.Str.{bytes_eq}
use Rattle.std.proofs.lemmas.Slice.Eq.{bytes_eq-Decides}
use Rattle.std.proofs.lemmas.Bool.{and_parts, true≢false}
use Rattle.clap.specs.Walk.{Row, Names, Text, Walk, walked, nothing_held, rows_after}
use Rattle.clap.specs.Simple.{Shape, built, is_simple, names_of, subcommand_of}
use Rattle.clap.specs.Takes.{level_passes, takes, walk_passes}
use Rattle.clap.proofs.OnLiterals.{clap_on_literals}
use Rattle.au_words.specs.Words.{has_name, is_count, is_form, positionals, verb_of}
use Rattle.au_words.specs.CommandLine.{HasWords, audb}
use Rattle.au_words.specs.declared.words.Command.TheVariants.{Answer, Direct, Guess, Ua, Rewrite, Explain}
use Rattle.au_words.specs.declared.words.form.Verb.{Verb}
use Rattle.au_words.specs.declared.words.form.Verb.TheVariants as verb
use Rattle.au_words.proofs.OptionWords.{all_taken_widely}
use Rattle.au_words.proofs.WordSteps.{line, state}
use Rattle.au_words.proofs.WordsRows.{level_takes, words_rows}
use Rattle.au_words.proofs.WordsWalk.{Ends, Once, given_by, nothing, whole_walk}

-- ---- the walk above, which stops at the command

abbrev stopped : Text → List Text → Walk
stopped name words = record (state false 1 [] None) { stopped = Some (name, words) }

abbrev top : Shape
top = (built audb).top

abbrev names : Names
names = names_of (built audb)

-- the words behind the command are kept
keeps : (name : Text) (seen words : List Text) → fold (walked top.rules names) (stopped name seen) words ≡ stopped name (seen ++ words)
unfolding walked
keeps name seen [] = ap (stopped name) (sym (append-nil seen))
keeps name seen (word ∷ words) = keeps name (seen ++ word ∷ []) words ∙ ap (stopped name) (append_assoc seen (word ∷ []) words)

-- and none of them is judged there
kept_pass : (name : Text) (seen words : List Text) → walk_passes top names (stopped name seen) words ≡ true
unfolding walked walk_passes
kept_pass name seen [] = refl
kept_pass name seen (word ∷ words) = kept_pass name (seen ++ word ∷ []) words

pub simple : is_simple audb ≡ true
unfolding clap_on_literals
simple = refl

abbrev pub word_of : Verb → Text
word_of (verb.Query Answer) = codes "answer"
word_of (verb.Query Direct) = codes "direct"
word_of (verb.Query Guess) = codes "guess"
word_of (verb.Query Ua) = codes "ua"
word_of verb.Demo = codes "demo"
word_of (verb.Query Rewrite) = codes "rewrite"
word_of (verb.Query Explain) = codes "explain"
word_of verb.Encode = codes "encode"
word_of verb.Plain = codes "plain"

stops : (v : Verb) (rest : List Text) → fold (walked top.rules names) (state false 1 [] None) (word_of v ∷ rest) ≡ stopped (word_of v) rest
unfolding walked
stops (verb.Query Answer) rest = keeps (codes "answer") [] rest
stops (verb.Query Direct) rest = keeps (codes "direct") [] rest
stops (verb.Query Guess) rest = keeps (codes "guess") [] rest
stops (verb.Query Ua) rest = keeps (codes "ua") [] rest
stops verb.Demo rest = keeps (codes "demo") [] rest
stops (verb.Query Rewrite) rest = keeps (codes "rewrite") [] rest
stops (verb.Query Explain) rest = keeps (codes "explain") [] rest
stops verb.Encode rest = keeps (codes "encode") [] rest
stops verb.Plain rest = keeps (codes "plain") [] rest

passes_above : (v : Verb) (rest : List Text) → walk_passes top names (state false 1 [] None) (word_of v ∷ rest) ≡ true
unfolding walked walk_passes
passes_above (verb.Query Answer) rest = kept_pass (codes "answer") [] rest
passes_above (verb.Query Direct) rest = kept_pass (codes "direct") [] rest
passes_above (verb.Query Guess) rest = kept_pass (codes "guess") [] rest
passes_above (verb.Query Ua) rest = kept_pass (codes "ua") [] rest
passes_above verb.Demo rest = kept_pass (codes "demo") [] rest
passes_above (verb.Query Rewrite) rest = kept_pass (codes "rewrite") [] rest
passes_above (verb.Query Explain) rest = kept_pass (codes "explain") [] rest
passes_above verb.Encode rest = kept_pass (codes "encode") [] rest
passes_above verb.Plain rest = kept_pass (codes "plain") [] rest

-- ---- the form

at_most_one : (n : ℕ) → nat_le n 1 ≡ true → n ≤ 1
at_most_one n h = grind arith

more_than_one : (n : ℕ) → nat_lt 1 n ≡ true → 0 < n
more_than_one n h = grind arith

just : (m n : ℕ) → (n == m) ≡ true → n ≡ m
just m n h = grind arith

some_words : (v : Verb) (n : ℕ) → is_count v n ≡ true → 0 < n
some_words (verb.Query c) n h = more_than_one n h
some_words verb.Demo n h = omega (arith, just 2 n h)
some_words verb.Encode n h = omega (arith, just 1 n h)
some_words verb.Plain n h = more_than_one n h

-- the walk behind a command, over words of its form
pub form_walk : (v : Verb) (name : Text) (rest : List Text) → is_form v rest ≡ true → Ends name (state false 1 [] None) rest (given_by nothing rest) (positionals rest)
form_walk v name rest form =
    let options = and_parts _ _ (and_parts _ _ form).0 in
    let table = and_parts _ _ options.1 in
    let combine = and_parts _ _ table.1 in
    let points = and_parts _ _ combine.1 in
    let workers = and_parts _ _ points.1 in
    let compress = and_parts _ _ workers.1 in
    let once : Once nothing rest = record {
      table = (let few = at_most_one (length (filter (has_name (codes "--table")) rest)) table.0 in omega (arith, few));
      combine = (let few = at_most_one (length (filter (has_name (codes "--combine")) rest)) combine.0 in omega (arith, few));
      points = (let few = at_most_one (length (filter (has_name (codes "--points")) rest)) points.0 in omega (arith, few));
      workers = (let few = at_most_one (length (filter (has_name (codes "--workers")) rest)) workers.0 in omega (arith, few));
      compress = (let few = at_most_one (length (filter (has_name (codes "--compress")) rest)) compress.0 in omega (arith, few));
    } in
    whole_walk name rest (all_taken_widely v rest options.0) once

takes_by : (v : Verb) (rest : List Text) → level_passes (line (word_of v)) [] nothing_held rest false ≡ true → takes audb (word_of v ∷ rest) ≡ true
takes_by (verb.Query Answer) rest below = rw (simple, stops (verb.Query Answer) rest, passes_above (verb.Query Answer) rest, below) refl
takes_by (verb.Query Direct) rest below = rw (simple, stops (verb.Query Direct) rest, passes_above (verb.Query Direct) rest, below) refl
takes_by (verb.Query Guess) rest below = rw (simple, stops (verb.Query Guess) rest, passes_above (verb.Query Guess) rest, below) refl
takes_by (verb.Query Ua) rest below = rw (simple, stops (verb.Query Ua) rest, passes_above (verb.Query Ua) rest, below) refl
takes_by verb.Demo rest below = rw (simple, stops verb.Demo rest, passes_above verb.Demo rest, below) refl
takes_by (verb.Query Rewrite) rest below = rw (simple, stops (verb.Query Rewrite) rest, passes_above (verb.Query Rewrite) rest, below) refl
takes_by (verb.Query Explain) rest below = rw (simple, stops (verb.Query Explain) rest, passes_above (verb.Query Explain) rest, below) refl
takes_by verb.Encode rest below = rw (simple, stops verb.Encode rest, passes_above verb.Encode rest, below) refl
takes_by verb.Plain rest below = rw (simple, stops verb.Plain rest, passes_above verb.Plain rest, below) refl

-- words of the form are taken
pub form_takes : (v : Verb) (rest : List Text) → is_form v rest ≡ true → takes audb (word_of v ∷ rest) ≡ true
form_takes v rest form = takes_by v rest (level_takes (word_of v) rest _ _ (form_walk v (word_of v) rest form))

found_by : (v : Verb) (rest : List Text) → subcommand_of audb (word_of v ∷ rest) ≡ Some (word_of v, rows_after (line (word_of v)).rules [] rest)
found_by (verb.Query Answer) rest = rw (stops (verb.Query Answer) rest) refl
found_by (verb.Query Direct) rest = rw (stops (verb.Query Direct) rest) refl
found_by (verb.Query Guess) rest = rw (stops (verb.Query Guess) rest) refl
found_by (verb.Query Ua) rest = rw (stops (verb.Query Ua) rest) refl
found_by verb.Demo rest = rw (stops verb.Demo rest) refl
found_by (verb.Query Rewrite) rest = rw (stops (verb.Query Rewrite) rest) refl
found_by (verb.Query Explain) rest = rw (stops (verb.Query Explain) rest) refl
found_by verb.Encode rest = rw (stops verb.Encode rest) refl
found_by verb.Plain rest = rw (stops verb.Plain rest) refl

-- and so their matches are known
pub form_found : (v : Verb) (rest : List Text) → is_form v rest ≡ true
    → (rows : List Row) × (subcommand_of audb (word_of v ∷ rest) ≡ Some (word_of v, rows)) × HasWords rest rows
form_found v rest form = (
  rows_after (line (word_of v)).rules [] rest,
  found_by v rest,
  words_rows (word_of v) rest (some_words v (length (positionals rest)) (and_parts _ _ form).1) (form_walk v (word_of v) rest form),
)

-- ---- the word of a command

unwrapped : (x v : Verb) → Some x ≡ Some v → x ≡ v
unwrapped x v e = ap (λ o. unwrap_or o x) e

pub named : (word : Text) (v : Verb) → verb_of word ≡ Some v → word ≡ word_of v
named word v h =
    by_case (bytes_eq word (codes "answer")) (bytes_eq word (codes "direct")) (bytes_eq word (codes "guess")) (bytes_eq word (codes "ua")) (bytes_eq word (codes "demo")) (bytes_eq word (codes "rewrite")) (bytes_eq word (codes "explain")) (bytes_eq word (codes "encode")) (bytes_eq word (codes "plain"))
    refl refl refl refl refl refl refl refl refl h
  where
    by_case : (t1 t2 t3 t4 t5 t6 t7 t8 t9 : Bool) → bytes_eq word (codes "answer") ≡ t1 → bytes_eq word (codes "direct") ≡ t2 → bytes_eq word (codes "guess") ≡ t3 → bytes_eq word (codes "ua") ≡ t4 → bytes_eq word (codes "demo") ≡ t5 → bytes_eq word (codes "rewrite") ≡ t6 → bytes_eq word (codes "explain") ≡ t7 → bytes_eq word (codes "encode") ≡ t8 → bytes_eq word (codes "plain") ≡ t9
        → (if t1 then Some (verb.Query Answer) else if t2 then Some (verb.Query Direct) else if t3 then Some (verb.Query Guess) else if t4 then Some (verb.Query Ua) else if t5 then Some verb.Demo else if t6 then Some (verb.Query Rewrite) else if t7 then Some (verb.Query Explain) else if t8 then Some verb.Encode else if t9 then Some verb.Plain else None) ≡ Some v → word ≡ word_of v
    by_case true t2 t3 t4 t5 t6 t7 t8 t9 e1 e2 e3 e4 e5 e6 e7 e8 e9 e = (bytes_eq-Decides word (codes "answer")).0 e1 ∙ ap word_of (unwrapped (verb.Query Answer) v e)
    by_case false true t3 t4 t5 t6 t7 t8 t9 e1 e2 e3 e4 e5 e6 e7 e8 e9 e = (bytes_eq-Decides word (codes "direct")).0 e2 ∙ ap word_of (unwrapped (verb.Query Direct) v e)
    by_case false false true t4 t5 t6 t7 t8 t9 e1 e2 e3 e4 e5 e6 e7 e8 e9 e = (bytes_eq-Decides word (codes "guess")).0 e3 ∙ ap word_of (unwrapped (verb.Query Guess) v e)
    by_case false false false true t5 t6 t7 t8 t9 e1 e2 e3 e4 e5 e6 e7 e8 e9 e = (bytes_eq-Decides word (codes "ua")).0 e4 ∙ ap word_of (unwrapped (verb.Query Ua) v e)
    by_case false false false false true t6 t7 t8 t9 e1 e2 e3 e4 e5 e6 e7 e8 e9 e = (bytes_eq-Decides word (codes "demo")).0 e5 ∙ ap word_of (unwrapped verb.Demo v e)
    by_case false false false false false true t7 t8 t9 e1 e2 e3 e4 e5 e6 e7 e8 e9 e = (bytes_eq-Decides word (codes "rewrite")).0 e6 ∙ ap word_of (unwrapped (verb.Query Rewrite) v e)
    by_case false false false false false false true t8 t9 e1 e2 e3 e4 e5 e6 e7 e8 e9 e = (bytes_eq-Decides word (codes "explain")).0 e7 ∙ ap word_of (unwrapped (verb.Query Explain) v e)
    by_case false false false false false false false true t9 e1 e2 e3 e4 e5 e6 e7 e8 e9 e = (bytes_eq-Decides word (codes "encode")).0 e8 ∙ ap word_of (unwrapped verb.Encode v e)
    by_case false false false false false false false false true e1 e2 e3 e4 e5 e6 e7 e8 e9 e = (bytes_eq-Decides word (codes "plain")).0 e9 ∙ ap word_of (unwrapped verb.Plain v e)
    by_case false false false false false false false false false e1 e2 e3 e4 e5 e6 e7 e8 e9 e = absurd (true≢false (sym (ap is_some e)))
