-- The walk of `clap` over all words behind a command.
use Rattle.std.proofs.Common.{◌≡◌, ◌∙◌, ◌≤◌, ◌+◌, ◌||◌, ℕ, Bool, cond, true, false, refl, sym, ap, subst, arith, List, [], ◌∷◌, ◌++◌, length, Option, Some, None, codes, append_assoc, append-nil, suc}
use Rattle.std.specs.Prelude.{fold, is_some}
use Rattle.std.specs.Option.{option_or}
use Rattle.std.specs.List.{filter, list_all, list_any}
use Rattle.std.specs.Str.{bytes_eq}
use Rattle.std.proofs.lemmas.Bool.{and_parts}
use Rattle.clap.specs.Walk.{Row, Text, Walk, settled_rows, used, walked}
use Rattle.clap.specs.Takes.{settle_passes, turn_passes, walk_passes}
use Rattle.au_words.specs.Words.{all_options, has_name, is_option, is_taken, positionals, option_value}
use Rattle.au_words.proofs.OptionWords.{Kind, kind_of, positional_differs, positional_named}
use Rattle.au_words.proofs.WordSteps.{combine, compress, held, line, line_rules, passes_combine, passes_compress, passes_first, passes_later, passes_points, passes_table, passes_workers, points, rules, settled_first, settled_later, settles_first, settles_later, state, table, walks_combine, walks_compress, walks_first, walks_later, walks_points, walks_table, walks_workers, workers}
use Rattle.au_words.proofs.ReadRows.{Given, Reads, flag_found, missing, reads_combine, reads_compress, reads_first, reads_later, reads_points, reads_table, reads_workers, value_found}

-- ---- where the walk stands after some words

abbrev pub place_of : List Text → ℕ
place_of [] = 1
place_of (word ∷ words) = 2

pub record Stands (rows : List Row) (pending : Option (Text × List Text)) (g : Given) (words : List Text) : Type 0 where
  pub settles : settle_passes rules false (held rows pending) ≡ true
  pub reads : Reads (settled_rows rules pending rows) g words

-- the walk over the words passes, and ends so
pub record Ends (name : Text) (from : Walk) (words : List Text) (g : Given) (read : List Text) : Type 0 where
  pub passes : walk_passes (line name) [] from words ≡ true
  pub several : Bool
  pub rows : List Row
  pub pending : Option (Text × List Text)
  pub ends : fold (walked rules []) from words ≡ state several (place_of read) rows pending
  pub stands : Stands rows pending g read

-- one word more in front
in_front : (name : Text) (from next : Walk) (word : Text) (words : List Text) (g : Given) (read : List Text)
    → turn_passes (line name) [] from word ≡ true → walked rules [] from word ≡ next → Ends name next words g read
    → Ends name from (word ∷ words) g read
unfolding walk_passes
in_front name from next word words g read passes is e = record {
  passes = rw (passes, line_rules name, is) e.passes;
  several = e.several;
  rows = e.rows;
  pending = e.pending;
  ends = ap (λ w. fold (walked rules []) w words) is ∙ e.ends;
  stands = e.stands;
}

-- at the end
at_end : (several : Bool) (name : Text) (rows : List Row) (pending : Option (Text × List Text)) (g : Given) (read : List Text)
    → Stands rows pending g read → Ends name (state several (place_of read) rows pending) [] g read
unfolding walk_passes
at_end several name rows pending g read s = record { passes = refl; several = several; rows = rows; pending = pending; ends = refl; stands = s }

-- ---- one step

after_first : (rows : List Row) (pending : Option (Text × List Text)) (g : Given) (word : Text)
    → Stands rows pending g [] → Stands (settled_rows rules pending rows) (Some (codes "FIRST", word ∷ [])) g (word ∷ [])
after_first rows pending g word s =
    let now = settled_rows rules pending rows in
    record {
      settles = settles_first now word (missing (codes "FIRST") now s.reads.first_row);
      reads = rw (settled_first now word) (reads_first now g word s.reads);
    }

after_later : (rows : List Row) (pending : Option (Text × List Text)) (g : Given) (front : Text) (read : List Text) (word : Text)
    → Stands rows pending g (front ∷ read) → Stands (settled_rows rules pending rows) (Some (codes "LATER", word ∷ [])) g (front ∷ (read ++ word ∷ []))
after_later rows pending g front read word s =
    let now = settled_rows rules pending rows in
    record {
      settles = settles_later now word;
      reads = rw (settled_later now word) (reads_later now g front read word s.reads);
    }

-- ---- all words

-- how often an option was given, with the times that it still will be
abbrev once : Bool → Text → List Text → Type 0
once seen name words = cond seen 1 0 + length (filter (has_name name) words) ≤ 1

pub record Once (g : Given) (words : List Text) : Type 0 where
  pub table : once g.table (codes "--table") words
  pub combine : once g.combine (codes "--combine") words
  pub points : once g.points (codes "--points") words
  pub workers : once (is_some g.workers) (codes "--workers") words
  pub compress : once (is_some g.compress) (codes "--compress") words

-- what is given in the end
abbrev pub given_by : Given → List Text → Given
given_by g words = record {
  table = g.table || list_any (bytes_eq (codes "--table")) words;
  combine = g.combine || list_any (bytes_eq (codes "--combine")) words;
  points = g.points || list_any (bytes_eq (codes "--points")) words;
  workers = option_or g.workers (option_value (codes "--workers") words);
  compress = option_or g.compress (option_value (codes "--compress") words);
}

abbrev Walks : Text → List Text → Type 0
Walks name words = (several : Bool) (rows : List Row) (pending : Option (Text × List Text)) (g : Given) (read : List Text)
    → Stands rows pending g read → Once g words
    → Ends name (state several (place_of read) rows pending) words (given_by g words) (read ++ positionals words)

-- a positional word in front
module _ (name word : Text) (words : List Text) (e : is_option word ≡ false) (ih : Walks name words) where
  -- it is none of the options
  others_once : (g : Given) → Once g (word ∷ words) → Once g words
  others_once g o =
      let table = positional_named word (codes "-table") e in
      let combine = positional_named word (codes "-combine") e in
      let points = positional_named word (codes "-points") e in
      let workers = positional_named word (codes "-workers") e in
      let compress = positional_named word (codes "-compress") e in
      record { table = rw table at o.table; combine = rw combine at o.combine; points = rw points at o.points; workers = rw workers at o.workers; compress = rw compress at o.compress }

  others_given : (g : Given) → given_by g (word ∷ words) ≡ given_by g words
  others_given g =
      let table = positional_differs word (codes "--table") refl e in
      let combine = positional_differs word (codes "--combine") refl e in
      let points = positional_differs word (codes "--points") refl e in
      let workers = positional_named word (codes "-workers") e in
      let compress = positional_named word (codes "-compress") e in
      rw (table, combine, points, workers, compress) refl

  positional_in_front : Walks name (word ∷ words)
  positional_in_front several rows pending g [] s o =
      let next = ih false (settled_rows rules pending rows) (Some (codes "FIRST", word ∷ [])) g (word ∷ []) (after_first rows pending g word s) (others_once g o) in
      rw (e, others_given g) (in_front name _ _ word words _ _ (passes_first several name rows pending word e ∙ s.settles) (walks_first several rows pending word e) next)
  positional_in_front several rows pending g (front ∷ read) s o =
      let next = ih true (settled_rows rules pending rows) (Some (codes "LATER", word ∷ [])) g (front ∷ (read ++ word ∷ [])) (after_later rows pending g front read word s) (others_once g o) in
      let moved = rw (append_assoc read (word ∷ []) (positionals words)) at next in
      rw (e, others_given g) (in_front name _ _ word words _ _ (passes_later several name rows pending word e ∙ s.settles) (walks_later several rows pending word e) moved)

-- an option in front
new_flag : (b : Bool) (n : ℕ) → cond b 1 0 + suc n ≤ 1 → (b ≡ false) × (n ≤ 0)
new_flag true n h = absurd (omega (arith, h))
new_flag false n h = (refl, omega (arith, h))

new_value : (o : Option Text) (n : ℕ) → cond (is_some o) 1 0 + suc n ≤ 1 → (o ≡ None) × (n ≤ 0)
new_value (Some v) n h = absurd (omega (arith, h))
new_value None n h = (refl, omega (arith, h))

module _ (name : Text) (words : List Text) (ih : Walks name words) where
  table_in_front : Walks name (codes "--table" ∷ words)
  table_in_front several rows pending g read s o =
      let now = settled_rows rules pending rows in
      let new = new_flag g.table (length (filter (has_name (codes "--table")) words)) o.table in
      let with_it : Given = record g { table = true } in
      let stands : Stands (used table [] now) None with_it read = record { settles = refl; reads = reads_table now g read new.0 s.reads } in
      let next = ih false (used table [] now) None with_it read stands (record { table = omega (arith, new.1); combine = o.combine; points = o.points; workers = o.workers; compress = o.compress }) in
      let same : given_by g (codes "--table" ∷ words) ≡ given_by with_it words = rw new.0 refl in
      rw same (in_front name _ _ (codes "--table") words _ _ (passes_table several (place_of read) name rows pending s.settles (missing (codes "table") now (s.reads.table_row ∙ ap (flag_found (codes "table")) new.0))) (walks_table several (place_of read) rows pending) next)

  combine_in_front : Walks name (codes "--combine" ∷ words)
  combine_in_front several rows pending g read s o =
      let now = settled_rows rules pending rows in
      let new = new_flag g.combine (length (filter (has_name (codes "--combine")) words)) o.combine in
      let with_it : Given = record g { combine = true } in
      let stands : Stands (used combine [] now) None with_it read = record { settles = refl; reads = reads_combine now g read new.0 s.reads } in
      let next = ih false (used combine [] now) None with_it read stands (record { table = o.table; combine = omega (arith, new.1); points = o.points; workers = o.workers; compress = o.compress }) in
      let same : given_by g (codes "--combine" ∷ words) ≡ given_by with_it words = rw new.0 refl in
      rw same (in_front name _ _ (codes "--combine") words _ _ (passes_combine several (place_of read) name rows pending s.settles (missing (codes "combine") now (s.reads.combine_row ∙ ap (flag_found (codes "combine")) new.0))) (walks_combine several (place_of read) rows pending) next)

  points_in_front : Walks name (codes "--points" ∷ words)
  points_in_front several rows pending g read s o =
      let now = settled_rows rules pending rows in
      let new = new_flag g.points (length (filter (has_name (codes "--points")) words)) o.points in
      let with_it : Given = record g { points = true } in
      let stands : Stands (used points [] now) None with_it read = record { settles = refl; reads = reads_points now g read new.0 s.reads } in
      let next = ih false (used points [] now) None with_it read stands (record { table = o.table; combine = o.combine; points = omega (arith, new.1); workers = o.workers; compress = o.compress }) in
      let same : given_by g (codes "--points" ∷ words) ≡ given_by with_it words = rw new.0 refl in
      rw same (in_front name _ _ (codes "--points") words _ _ (passes_points several (place_of read) name rows pending s.settles (missing (codes "points") now (s.reads.points_row ∙ ap (flag_found (codes "points")) new.0))) (walks_points several (place_of read) rows pending) next)

  workers_in_front : (value : Text) → Walks name ((codes "--workers=" ++ value) ∷ words)
  workers_in_front value several rows pending g read s o =
      let now = settled_rows rules pending rows in
      let new = new_value g.workers (length (filter (has_name (codes "--workers")) words)) o.workers in
      let with_it : Given = record g { workers = Some value } in
      let stands : Stands (used workers (value ∷ []) now) None with_it read = record { settles = refl; reads = reads_workers now g read value new.0 s.reads } in
      let next = ih false (used workers (value ∷ []) now) None with_it read stands (record { table = o.table; combine = o.combine; points = o.points; workers = omega (arith, new.1); compress = o.compress }) in
      let same : given_by g ((codes "--workers=" ++ value) ∷ words) ≡ given_by with_it words = rw new.0 refl in
      rw same (in_front name _ _ (codes "--workers=" ++ value) words _ _ (passes_workers several (place_of read) name rows pending value s.settles (missing (codes "workers") now (s.reads.workers_row ∙ ap (value_found (codes "workers")) new.0))) (walks_workers several (place_of read) rows pending value) next)

  compress_in_front : (value : Text) → Walks name ((codes "--compress=" ++ value) ∷ words)
  compress_in_front value several rows pending g read s o =
      let now = settled_rows rules pending rows in
      let new = new_value g.compress (length (filter (has_name (codes "--compress")) words)) o.compress in
      let with_it : Given = record g { compress = Some value } in
      let stands : Stands (used compress (value ∷ []) now) None with_it read = record { settles = refl; reads = reads_compress now g read value new.0 s.reads } in
      let next = ih false (used compress (value ∷ []) now) None with_it read stands (record { table = o.table; combine = o.combine; points = o.points; workers = o.workers; compress = omega (arith, new.1) }) in
      let same : given_by g ((codes "--compress=" ++ value) ∷ words) ≡ given_by with_it words = rw new.0 refl in
      rw same (in_front name _ _ (codes "--compress=" ++ value) words _ _ (passes_compress several (place_of read) name rows pending value s.settles (missing (codes "compress") now (s.reads.compress_row ∙ ap (value_found (codes "compress")) new.0))) (walks_compress several (place_of read) rows pending value) next)

word_in_front : (name : Text) (word : Text) (words : List Text) → Kind word → Walks name words → Walks name (word ∷ words)
word_in_front name word words (Kind.positional e) ih = positional_in_front name word words e ih
word_in_front name word words (Kind.table e) ih = subst (λ x. Walks name (x ∷ words)) (sym e) (table_in_front name words ih)
word_in_front name word words (Kind.combine e) ih = subst (λ x. Walks name (x ∷ words)) (sym e) (combine_in_front name words ih)
word_in_front name word words (Kind.points e) ih = subst (λ x. Walks name (x ∷ words)) (sym e) (points_in_front name words ih)
word_in_front name word words (Kind.workers value e fits) ih = subst (λ x. Walks name (x ∷ words)) (sym e) (workers_in_front name words ih value)
word_in_front name word words (Kind.compress value e fits) ih = subst (λ x. Walks name (x ∷ words)) (sym e) (compress_in_front name words ih value)

or_false : (b : Bool) → (b || false) ≡ b
or_false true = refl
or_false false = refl

or_none : (o : Option Text) → option_or o None ≡ o
or_none None = refl
or_none (Some v) = refl

no_words : (name : Text) → Walks name []
no_words name several rows pending g read s o =
    let same : given_by g [] ≡ g = rw (or_false g.table, or_false g.combine, or_false g.points, or_none g.workers, or_none g.compress) refl in
    rw (same, append-nil read) (at_end several name rows pending g read s)

pub walks : (name : Text) (words : List Text) → list_all (is_taken all_options) words ≡ true → Walks name words
walks name [] all = no_words name
walks name (word ∷ words) all = let parts = and_parts _ _ all in word_in_front name word words (kind_of word parts.0) (walks name words parts.1)

-- nothing is given before the words
abbrev pub nothing : Given
nothing = record { table = false; combine = false; points = false; workers = None; compress = None }

-- from the start
pub whole_walk : (name : Text) (words : List Text) → list_all (is_taken all_options) words ≡ true → Once nothing words
    → Ends name (state false 1 [] None) words (given_by nothing words) (positionals words)
whole_walk name words all o =
    walks name words all false [] None nothing []
    (record { settles = refl; reads = record { table_row = refl; combine_row = refl; points_row = refl; workers_row = refl; compress_row = refl; first_row = refl; later_row = refl } }) o
