-- The matches of the words behind a command.
use Rattle.std.proofs.Common.{◌≡◌, ◌∙◌, ◌<◌, Bool, true, false, refl, ap, arith, List, [], ◌∷◌, ◌++◌, length, drop, Option, Some, None, codes}
use Rattle.std.specs.Prelude.{is_some, option_map, option_and_then, slice_get, slice_index_or, if◌then◌else◌}
use Rattle.std.specs.Str.{bytes_eq}
use Rattle.clap.specs.Walk.{Row, Text, more_values, nothing_held, row_text, rows_after, has_row, settled_rows, with_default}
use Rattle.clap.specs.Takes.{level_passes}
use Rattle.clap.specs.Values.{bool_text}
use Rattle.clap.specs.declared.parser.matches.ValueSource.TheVariants.{DefaultValue}
use Rattle.clap.specs.declared.builder.value_parser.Reading.TheVariants.{AsWritten}
use Rattle.au_words.specs.Words.{positionals, option_value}
use Rattle.au_words.specs.CommandLine.{HasWords}
use Rattle.au_words.proofs.RowsById.{added, has_row-at, put_at_end, row_at, row_for}
use Rattle.au_words.proofs.WordSteps.{combine, line, points, rules, state, table}
use Rattle.au_words.proofs.ReadRows.{Given, Reads, first_found, flag_found, later_found, missing, other, value_found}
use Rattle.au_words.proofs.WordsWalk.{Ends, given_by, nothing}

-- ---- defaults

abbrev default_row : Text → Row
default_row name = record { id = name; values = codes "false" ∷ []; count = None; source = Some DefaultValue; reading = AsWritten }

abbrev flag_row : Text → Bool → Row
flag_row name true = row_for name (codes "true" ∷ [])
flag_row name false = default_row name

same_both : (b : Bool) (rows : List Row) → (if b then rows else rows) ≡ rows
same_both true rows = refl
same_both false rows = refl

-- the rows of the words and of the options with a value
record Beside (rows : List Row) (g : Given) (words : List Text) : Type 0 where
  workers_row : row_at (codes "workers") rows ≡ value_found (codes "workers") g.workers
  compress_row : row_at (codes "compress") rows ≡ value_found (codes "compress") g.compress
  first_row : row_at (codes "FIRST") rows ≡ first_found words
  later_row : row_at (codes "LATER") rows ≡ later_found words

-- one row more of another id
beside_more : (rows : List Row) (last : Row) (g : Given) (words : List Text) → bytes_eq last.id (codes "workers") ≡ false → bytes_eq last.id (codes "compress") ≡ false
    → bytes_eq last.id (codes "FIRST") ≡ false → bytes_eq last.id (codes "LATER") ≡ false → Beside rows g words → Beside (rows ++ last ∷ []) g words
beside_more rows last g words a b c d r = record {
  workers_row = other (codes "workers") rows last _ a r.workers_row;
  compress_row = other (codes "compress") rows last _ b r.compress_row;
  first_row = other (codes "FIRST") rows last _ c r.first_row;
  later_row = other (codes "LATER") rows last _ d r.later_row;
}

-- the rows where the first flag has its default, where the first two have, and where all three have
record First (rows : List Row) (t k p : Bool) (g : Given) (words : List Text) : Type 0 where
  table_row : row_at (codes "table") rows ≡ Some (flag_row (codes "table") t)
  combine_row : row_at (codes "combine") rows ≡ flag_found (codes "combine") k
  points_row : row_at (codes "points") rows ≡ flag_found (codes "points") p
  beside : Beside rows g words

record Both (rows : List Row) (t k p : Bool) (g : Given) (words : List Text) : Type 0 where
  table_row : row_at (codes "table") rows ≡ Some (flag_row (codes "table") t)
  combine_row : row_at (codes "combine") rows ≡ Some (flag_row (codes "combine") k)
  points_row : row_at (codes "points") rows ≡ flag_found (codes "points") p
  beside : Beside rows g words

record Flags (rows : List Row) (t k p : Bool) (g : Given) (words : List Text) : Type 0 where
  table_row : row_at (codes "table") rows ≡ Some (flag_row (codes "table") t)
  combine_row : row_at (codes "combine") rows ≡ Some (flag_row (codes "combine") k)
  points_row : row_at (codes "points") rows ≡ Some (flag_row (codes "points") p)
  beside : Beside rows g words

read_beside : (rows : List Row) (g : Given) (words : List Text) → Reads rows g words → Beside rows g words
read_beside rows g words r = record { workers_row = r.workers_row; compress_row = r.compress_row; first_row = r.first_row; later_row = r.later_row }

first_default : (t : Bool) (rows : List Row) (g : Given) (words : List Text) → g.table ≡ t → Reads rows g words → First (with_default rows table) t g.combine g.points g words
first_default true rows g words e r =
    let here = r.table_row ∙ ap (flag_found (codes "table")) e in
    let there : has_row (codes "table") rows ≡ true = has_row-at (codes "table") rows ∙ ap is_some here in
    let is : with_default rows table ≡ rows = rw there refl in
    rw is (record { table_row = here; combine_row = r.combine_row; points_row = r.points_row; beside = read_beside rows g words r })
first_default false rows g words e r =
    let last = default_row (codes "table") in
    let here = r.table_row ∙ ap (flag_found (codes "table")) e in
    let gone : has_row (codes "table") rows ≡ false = missing (codes "table") rows here in
    let is : with_default rows table ≡ rows ++ last ∷ [] = rw gone (put_at_end (codes "table") (more_values DefaultValue (codes "false" ∷ [])) (last ∷ []) rows here) in
    rw is (record {
      table_row = added (codes "table") rows last None here;
      combine_row = other (codes "combine") rows last _ refl r.combine_row;
      points_row = other (codes "points") rows last _ refl r.points_row;
      beside = beside_more rows last g words refl refl refl refl (read_beside rows g words r);
    })

both_defaults : (t k p : Bool) (rows : List Row) (g : Given) (words : List Text) → First rows t k p g words → Both (with_default rows combine) t k p g words
both_defaults t true p rows g words r =
    let there : has_row (codes "combine") rows ≡ true = has_row-at (codes "combine") rows ∙ ap is_some r.combine_row in
    let is : with_default rows combine ≡ rows = rw there refl in
    rw is (record { table_row = r.table_row; combine_row = r.combine_row; points_row = r.points_row; beside = r.beside })
both_defaults t false p rows g words r =
    let last = default_row (codes "combine") in
    let gone : has_row (codes "combine") rows ≡ false = missing (codes "combine") rows r.combine_row in
    let is : with_default rows combine ≡ rows ++ last ∷ [] = rw gone (put_at_end (codes "combine") (more_values DefaultValue (codes "false" ∷ [])) (last ∷ []) rows r.combine_row) in
    rw is (record {
      table_row = other (codes "table") rows last _ refl r.table_row;
      combine_row = added (codes "combine") rows last None r.combine_row;
      points_row = other (codes "points") rows last _ refl r.points_row;
      beside = beside_more rows last g words refl refl refl refl r.beside;
    })

all_defaults : (t k p : Bool) (rows : List Row) (g : Given) (words : List Text) → Both rows t k p g words → Flags (with_default rows points) t k p g words
all_defaults t k true rows g words r =
    let there : has_row (codes "points") rows ≡ true = has_row-at (codes "points") rows ∙ ap is_some r.points_row in
    let is : with_default rows points ≡ rows = rw there refl in
    rw is (record { table_row = r.table_row; combine_row = r.combine_row; points_row = r.points_row; beside = r.beside })
all_defaults t k false rows g words r =
    let last = default_row (codes "points") in
    let gone : has_row (codes "points") rows ≡ false = missing (codes "points") rows r.points_row in
    let is : with_default rows points ≡ rows ++ last ∷ [] = rw gone (put_at_end (codes "points") (more_values DefaultValue (codes "false" ∷ [])) (last ∷ []) rows r.points_row) in
    rw is (record {
      table_row = other (codes "table") rows last _ refl r.table_row;
      combine_row = other (codes "combine") rows last _ refl r.combine_row;
      points_row = added (codes "points") rows last None r.points_row;
      beside = beside_more rows last g words refl refl refl refl r.beside;
    })

-- ---- what is found

flag_read : (name : Text) (given : Bool) → row_text (flag_row name given) ≡ Some (bool_text given)
flag_read name true = refl
flag_read name false = refl

value_read : (name : Text) (o : Option Text) → option_and_then (λ (r : Row). slice_get r.values 0) (value_found name o) ≡ o
value_read name None = refl
value_read name (Some v) = refl

first_read : (words : List Text) → 0 < length words → option_and_then (λ (r : Row). slice_get r.values 0) (first_found words) ≡ Some (slice_index_or words 0 [])
first_read [] h = absurd (omega arith)
first_read (word ∷ words) h = refl

later_read : (words : List Text) → 1 < length words → option_map (λ (r : Row). r.values) (later_found words) ≡ Some (drop 1 words)
later_read [] h = absurd (omega arith)
later_read (word ∷ []) h = absurd (omega arith)
later_read (word ∷ next ∷ words) h = refl

pub level_takes : (name : Text) (words : List Text) (g : Given) (read : List Text) → Ends name (state false 1 [] None) words g read
    → level_passes (line name) [] nothing_held words false ≡ true
level_takes name words g read e = rw (e.passes, e.ends, e.stands.settles) refl

with_defaults : (name : Text) (words : List Text) (g : Given) (read : List Text) (e : Ends name (state false 1 [] None) words g read)
    → Flags (rows_after (line name).rules [] words) g.table g.combine g.points g read
with_defaults name words g read e =
    let rows = settled_rows rules e.pending e.rows in
    let both = both_defaults g.table g.combine g.points (with_default rows table) g read (first_default g.table rows g read refl e.stands.reads) in
    let flags = all_defaults g.table g.combine g.points (with_default (with_default rows table) combine) g read both in
    let all = with_default (with_default (with_default rows table) combine) points in
    let w = same_both (has_row (codes "workers") all) all in
    let c = same_both (has_row (codes "compress") all) all in
    let q = same_both (has_row (codes "FIRST") all) all in
    let s = same_both (has_row (codes "LATER") all) all in
    rw (e.ends, w, c, q, s) flags

-- the rows of the words
pub words_rows : (name : Text) (words : List Text) → 0 < length (positionals words) → Ends name (state false 1 [] None) words (given_by nothing words) (positionals words)
    → HasWords words (rows_after (line name).rules [] words)
words_rows name words some e =
    let g = given_by nothing words in
    let flags = with_defaults name words g (positionals words) e in
    record {
      table = ap (option_and_then row_text) flags.table_row ∙ flag_read (codes "table") g.table;
      combine = ap (option_and_then row_text) flags.combine_row ∙ flag_read (codes "combine") g.combine;
      points = ap (option_and_then row_text) flags.points_row ∙ flag_read (codes "points") g.points;
      workers = ap (option_and_then (λ (r : Row). slice_get r.values 0)) flags.beside.workers_row ∙ value_read (codes "workers") (option_value (codes "--workers") words);
      compress = ap (option_and_then (λ (r : Row). slice_get r.values 0)) flags.beside.compress_row ∙ value_read (codes "compress") (option_value (codes "--compress") words);
      first = ap (option_and_then (λ (r : Row). slice_get r.values 0)) flags.beside.first_row ∙ first_read (positionals words) some;
      later = λ several. ap (option_map (λ (r : Row). r.values)) flags.beside.later_row ∙ later_read (positionals words) several;
    }
