-- What the code holds of a command line, and the command line of the program as `clap` sees it.
-- The second part is for the proofs alone.
use Rattle.std.specs.Prelude.{◌≡◌, ◌<◌, ⊤, ◌∷◌, Bool, true, false, List, [], length, map, Option, Some, codes}
use Rattle.std.specs.Borrow.{Bor}
use Rattle.std.specs.List.{list_any}
use Rattle.std.specs.Str.{bytes_eq}
use Rattle.clap.specs.Walk.{Row, Rule, all_of, first_of, one_of}
use Rattle.clap.specs.Simple.{App, Shape, new_app, new_rule, on_top, with_rule, with_subcommand}
use Rattle.clap.specs.declared.builder.command.Command.TheViews.{out-Command}
use Rattle.clap.specs.declared.builder.command.Command.{Command as Line}
use Rattle.clap.specs.Values.{bool_text}
use Rattle.clap.specs.declared.builder.action.ArgAction.TheVariants.{SetTrue, Append}
use Rattle.au_value.specs.Texts.{Text}
use Rattle.au_words.specs.Words.{first_word, is_form, later_words, positionals, option_value, verb_of}
use Rattle.au_words.specs.Words as words
use Rattle.au_words.specs.declared.fault.UsageFault.{UsageFault}
use Rattle.au_words.specs.declared.words.Asked.{Asked}
use Rattle.au_words.specs.declared.words.Asked.TheVariants.{Query, Demo, Encode, Plain}
use Rattle.au_words.specs.declared.words.Request.{Request}
use Rattle.au_words.specs.declared.words.TableWord.{TableWord}
use Rattle.au_words.specs.declared.words.WordsFault.{WordsFault}
use Rattle.au_words.specs.declared.words.WordsFault.TheVariants.{Usage, NoMemory}
use Rattle.au_words.specs.declared.words.form.Verb.{Verb}

-- the texts behind references
abbrev pub texts : List (Bor Text) → List Text
texts = map (λ word. word.now)

abbrev pub name_of : TableWord → Text
name_of table = table.name.now

abbrev pub seen_table : TableWord → Text × Text
seen_table table = (table.name.now, table.path.now)

abbrev pub seen_request : Request → words.Request
seen_request r = record {
  command = r.command;
  form = r.form;
  combine = r.combine;
  points = r.points;
  workers = r.workers;
  compress = r.compress;
  query = r.query.now;
  tables = map seen_table r.tables.items;
}

-- what is asked, as a plain value
abbrev pub seen : Asked → words.Asked
seen (Query r) = words.query (seen_request r)
seen (Demo start blocks workers) = words.demo start blocks workers
seen (Encode table) = words.encode (seen_table table)
seen (Plain plan tables) = words.plain plan.now (map seen_table tables.items)

-- want of memory, or a fault of the words of which this holds
abbrev pub IsUsage : WordsFault → (UsageFault → Type 0) → Type 0
IsUsage (Usage fault) holds = holds fault
IsUsage NoMemory holds = ⊤

-- ---- the form of the words

-- a command's words, of its form
abbrev pub HasForm : Verb → List Text → Type 0
HasForm v [] = ⊥
HasForm v (word ∷ rest) = (verb_of word ≡ Some v) × (is_form v rest ≡ true)

-- ---- the command line of the program, before `clap` builds it

-- an option that stands alone
abbrev pub flag : Text → Rule
flag name = record (new_rule name) { long = Some name; action = Some SetTrue }

-- an option with a value
abbrev pub valued : Text → Rule
valued name = record (new_rule name) { long = Some name }

abbrev pub first_rule : Rule
first_rule = new_rule (codes "FIRST")

-- a positional word, as often as it stands
abbrev pub repeated : Text → Rule
repeated name = record (new_rule name) { action = Some Append }

abbrev pub later_rule : Rule
later_rule = repeated (codes "LATER")

-- the words of each command: all options, and positional words
abbrev pub command_line : Text → App
command_line name =
    let flags = with_rule (with_rule (with_rule (new_app name) (flag (codes "table"))) (flag (codes "combine"))) (flag (codes "points")) in
    let options = with_rule (with_rule flags (valued (codes "workers"))) (valued (codes "compress")) in
    with_rule (with_rule options first_rule) later_rule

-- no help, and no name of the program before the words
abbrev pub bare : Shape → Shape
bare s = record s { no_binary_name = true; disable_help_flag = true; disable_help_subcommand = true }

abbrev pub with_commands : List Text → App → App
with_commands [] line = line
with_commands (name ∷ names) line = with_commands names (with_subcommand line (command_line name).top)

abbrev pub command_names : List Text
command_names =
    codes "answer" ∷ codes "direct" ∷ codes "guess" ∷ codes "ua" ∷ codes "demo" ∷ codes "rewrite" ∷ codes "explain" ∷ codes "encode" ∷ codes "plain" ∷ []

abbrev pub audb : App
audb = with_commands command_names (on_top bare (new_app (codes "audb")))

abbrev pub HasNoGlobals : Line → Type 0
HasNoGlobals line = (out-Command line).has_globals ≡ false

-- ---- what `clap` finds

-- a flag's text is that of whether it is given
abbrev pub IsFlag : Option Text → Bool → Type 0
IsFlag text given = text ≡ Some (bool_text given)

-- the matches of the words behind a command
pub record HasWords (rest : List Text) (rows : List Row) : Type 0 where
  pub table : IsFlag (one_of (codes "table") rows) (list_any (bytes_eq (codes "--table")) rest)
  pub combine : IsFlag (one_of (codes "combine") rows) (list_any (bytes_eq (codes "--combine")) rest)
  pub points : IsFlag (one_of (codes "points") rows) (list_any (bytes_eq (codes "--points")) rest)
  pub workers : first_of (codes "workers") rows ≡ option_value (codes "--workers") rest
  pub compress : first_of (codes "compress") rows ≡ option_value (codes "--compress") rest
  pub first : first_of (codes "FIRST") rows ≡ Some (first_word rest)
  pub later : 1 < length (positionals rest) → all_of (codes "LATER") rows ≡ Some (later_words rest)
