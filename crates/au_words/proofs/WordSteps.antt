-- One word behind a command, as `clap` walks over it.
use Rattle.std.proofs.Common.{◌≡◌, ◌&&◌, ◌++◌, ℕ, Bool, true, false, refl, List, [], ◌∷◌, Option, Some, None, codes}
use Rattle.std.specs.Str.{bytes_eq}
use Rattle.clap.specs.Lexer.{long_of, short_of}
use Rattle.clap.specs.Walk.{Held, Row, Rule, Text, Waiting, Walk, idle, positional, has_row, settled_rows, used, walked}
use Rattle.clap.specs.Simple.{Shape, filled, with_index, built_leaf, inherited}
use Rattle.clap.specs.Takes.{settle_passes, turn_passes}
use Rattle.au_words.specs.Words.{is_option}
use Rattle.au_words.specs.CommandLine.{audb, command_line, first_rule, flag, later_rule, valued}

-- ---- the command line as it is built

abbrev pub line : Text → Shape
line name = built_leaf (inherited audb.top (command_line name).top)

abbrev pub table : Rule
table = filled (flag (codes "table"))

abbrev pub combine : Rule
combine = filled (flag (codes "combine"))

abbrev pub points : Rule
points = filled (flag (codes "points"))

abbrev pub workers : Rule
workers = filled (valued (codes "workers"))

abbrev pub compress : Rule
compress = filled (valued (codes "compress"))

abbrev pub first : Rule
first = with_index 1 (filled first_rule)

abbrev pub later : Rule
later = with_index 2 (filled later_rule)

abbrev pub rules : List Rule
rules = table ∷ combine ∷ points ∷ workers ∷ compress ∷ first ∷ later ∷ []

pub line_rules : (name : Text) → (line name).rules ≡ rules
line_rules name = refl

-- ---- words that are no options

pub record IsPlain (word : Text) : Type 0 where
  pub long : long_of word ≡ None
  pub short : short_of word ≡ None
  pub dashes : bytes_eq word (45 ∷ 45 ∷ []) ≡ false

pub plain : (word : Text) → is_option word ≡ false → IsPlain word
plain [] e = record { long = refl; short = refl; dashes = refl }
plain (b ∷ bs) e = record { long = rw e refl; short = rw e refl; dashes = rw e refl }

-- ---- where the walk stands

abbrev pub waiting_at : Bool → Waiting
waiting_at true = positional
waiting_at false = idle

abbrev pub state : Bool → ℕ → List Row → Option (Text × List Text) → Walk
state several position rows pending = record {
  held = record { rows = rows; pending = pending; skip = 0 };
  waiting = waiting_at several;
  position = position;
  is_trailing = false;
  stopped = None;
}

and_false : (b : Bool) → (b && false) ≡ false
and_false true = refl
and_false false = refl

-- a positional word goes to the first, and then to the later ones
pub walks_first : (several : Bool) (rows : List Row) (pending : Option (Text × List Text)) (word : Text) → is_option word ≡ false
    → walked rules [] (state several 1 rows pending) word ≡ state false 2 (settled_rows rules pending rows) (Some (codes "FIRST", word ∷ []))
unfolding walked
walks_first true rows pending word e = let p = plain word e in rw (p.dashes, p.long, p.short, and_false) refl
walks_first false rows pending word e = let p = plain word e in rw (p.dashes, p.long, p.short, and_false) refl

pub walks_later : (several : Bool) (rows : List Row) (pending : Option (Text × List Text)) (word : Text) → is_option word ≡ false
    → walked rules [] (state several 2 rows pending) word ≡ state true 2 (settled_rows rules pending rows) (Some (codes "LATER", word ∷ []))
unfolding walked
walks_later true rows pending word e = let p = plain word e in rw (p.dashes, p.long, p.short, and_false) refl
walks_later false rows pending word e = let p = plain word e in rw (p.dashes, p.long, p.short, and_false) refl

-- an option is used at once
pub walks_table : (several : Bool) (position : ℕ) (rows : List Row) (pending : Option (Text × List Text))
    → walked rules [] (state several position rows pending) (codes "--table") ≡ state false position (used table [] (settled_rows rules pending rows)) None
unfolding walked
walks_table true position rows pending = refl
walks_table false position rows pending = refl

pub walks_combine : (several : Bool) (position : ℕ) (rows : List Row) (pending : Option (Text × List Text))
    → walked rules [] (state several position rows pending) (codes "--combine") ≡ state false position (used combine [] (settled_rows rules pending rows)) None
unfolding walked
walks_combine true position rows pending = refl
walks_combine false position rows pending = refl

pub walks_points : (several : Bool) (position : ℕ) (rows : List Row) (pending : Option (Text × List Text))
    → walked rules [] (state several position rows pending) (codes "--points") ≡ state false position (used points [] (settled_rows rules pending rows)) None
unfolding walked
walks_points true position rows pending = refl
walks_points false position rows pending = refl

pub walks_workers : (several : Bool) (position : ℕ) (rows : List Row) (pending : Option (Text × List Text)) (value : Text)
    → walked rules [] (state several position rows pending) (codes "--workers=" ++ value) ≡ state false position (used workers (value ∷ []) (settled_rows rules pending rows)) None
unfolding walked
walks_workers true position rows pending value = refl
walks_workers false position rows pending value = refl

pub walks_compress : (several : Bool) (position : ℕ) (rows : List Row) (pending : Option (Text × List Text)) (value : Text)
    → walked rules [] (state several position rows pending) (codes "--compress=" ++ value) ≡ state false position (used compress (value ∷ []) (settled_rows rules pending rows)) None
unfolding walked
walks_compress true position rows pending value = refl
walks_compress false position rows pending value = refl

-- ---- each word passes

abbrev pub held : List Row → Option (Text × List Text) → Held
held rows pending = record { rows = rows; pending = pending; skip = 0 }

pub passes_first : (several : Bool) (name : Text) (rows : List Row) (pending : Option (Text × List Text)) (word : Text) → is_option word ≡ false
    → turn_passes (line name) [] (state several 1 rows pending) word ≡ settle_passes rules false (held rows pending)
passes_first true name rows pending word e = let p = plain word e in rw (p.dashes, p.long, p.short, and_false) refl
passes_first false name rows pending word e = let p = plain word e in rw (p.dashes, p.long, p.short, and_false) refl

pub passes_later : (several : Bool) (name : Text) (rows : List Row) (pending : Option (Text × List Text)) (word : Text) → is_option word ≡ false
    → turn_passes (line name) [] (state several 2 rows pending) word ≡ settle_passes rules false (held rows pending)
passes_later true name rows pending word e = let p = plain word e in rw (p.dashes, p.long, p.short, and_false) refl
passes_later false name rows pending word e = let p = plain word e in rw (p.dashes, p.long, p.short, and_false) refl

pub passes_table : (several : Bool) (position : ℕ) (name : Text) (rows : List Row) (pending : Option (Text × List Text))
    → settle_passes rules false (held rows pending) ≡ true → has_row (codes "table") (settled_rows rules pending rows) ≡ false
    → turn_passes (line name) [] (state several position rows pending) (codes "--table") ≡ true
passes_table true position name rows pending e f = rw (e, f) refl
passes_table false position name rows pending e f = rw (e, f) refl

pub passes_combine : (several : Bool) (position : ℕ) (name : Text) (rows : List Row) (pending : Option (Text × List Text))
    → settle_passes rules false (held rows pending) ≡ true → has_row (codes "combine") (settled_rows rules pending rows) ≡ false
    → turn_passes (line name) [] (state several position rows pending) (codes "--combine") ≡ true
passes_combine true position name rows pending e f = rw (e, f) refl
passes_combine false position name rows pending e f = rw (e, f) refl

pub passes_points : (several : Bool) (position : ℕ) (name : Text) (rows : List Row) (pending : Option (Text × List Text))
    → settle_passes rules false (held rows pending) ≡ true → has_row (codes "points") (settled_rows rules pending rows) ≡ false
    → turn_passes (line name) [] (state several position rows pending) (codes "--points") ≡ true
passes_points true position name rows pending e f = rw (e, f) refl
passes_points false position name rows pending e f = rw (e, f) refl

pub passes_workers : (several : Bool) (position : ℕ) (name : Text) (rows : List Row) (pending : Option (Text × List Text)) (value : Text)
    → settle_passes rules false (held rows pending) ≡ true → has_row (codes "workers") (settled_rows rules pending rows) ≡ false
    → turn_passes (line name) [] (state several position rows pending) (codes "--workers=" ++ value) ≡ true
passes_workers true position name rows pending value e f = rw (e, f) refl
passes_workers false position name rows pending value e f = rw (e, f) refl

pub passes_compress : (several : Bool) (position : ℕ) (name : Text) (rows : List Row) (pending : Option (Text × List Text)) (value : Text)
    → settle_passes rules false (held rows pending) ≡ true → has_row (codes "compress") (settled_rows rules pending rows) ≡ false
    → turn_passes (line name) [] (state several position rows pending) (codes "--compress=" ++ value) ≡ true
passes_compress true position name rows pending value e f = rw (e, f) refl
passes_compress false position name rows pending value e f = rw (e, f) refl

-- what is pending passes when it is used
pub settles_first : (rows : List Row) (word : Text) → has_row (codes "FIRST") rows ≡ false
    → settle_passes rules false (held rows (Some (codes "FIRST", word ∷ []))) ≡ true
settles_first rows word e = rw e refl

pub settles_later : (rows : List Row) (word : Text) → settle_passes rules false (held rows (Some (codes "LATER", word ∷ []))) ≡ true
settles_later rows word = refl

pub settled_first : (rows : List Row) (word : Text) → settled_rows rules (Some (codes "FIRST", word ∷ [])) rows ≡ used first (word ∷ []) rows
settled_first rows word = refl

pub settled_later : (rows : List Row) (word : Text) → settled_rows rules (Some (codes "LATER", word ∷ [])) rows ≡ used later (word ∷ []) rows
settled_later rows word = refl
