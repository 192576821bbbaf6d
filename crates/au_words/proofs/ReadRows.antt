-- What the rows tell of the words so far.
use Rattle.std.proofs.Common.{◌≡◌, ◌∙◌, Bool, true, false, refl, ap, List, [], ◌∷◌, ◌++◌, Option, Some, None, codes}
use Rattle.std.specs.Prelude.{is_some, option_map}
use Rattle.std.specs.Option.{option_or}
use Rattle.std.specs.Str.{bytes_eq}
use Rattle.clap.specs.Walk.{Row, Text, has_row, more_values, used}
use Rattle.clap.specs.declared.parser.matches.ValueSource.TheVariants.{CommandLine}
use Rattle.au_words.proofs.RowsById.{added, has_row-at, more_here, more_other, put_at_end, row_at, row_for, set_once, with_more}
use Rattle.au_words.proofs.WordSteps.{combine, compress, first, later, points, table, workers}

abbrev pub flag_found : Text → Bool → Option Row
flag_found name false = None
flag_found name true = Some (row_for name (codes "true" ∷ []))

abbrev pub value_found : Text → Option Text → Option Row
value_found name None = None
value_found name (Some value) = Some (row_for name (value ∷ []))

abbrev pub first_found : List Text → Option Row
first_found [] = None
first_found (word ∷ words) = Some (row_for (codes "FIRST") (word ∷ []))

abbrev pub later_found : List Text → Option Row
later_found [] = None
later_found (word ∷ []) = None
later_found (word ∷ other ∷ words) = Some (row_for (codes "LATER") (other ∷ words))

-- which options were given so far: the three that stand alone, and the values of the two others
pub record Given : Type 0 where
  pub table : Bool
  pub combine : Bool
  pub points : Bool
  pub workers : Option Text
  pub compress : Option Text

-- the options that were given, and the positional words
pub record Reads (rows : List Row) (g : Given) (words : List Text) : Type 0 where
  pub table_row : row_at (codes "table") rows ≡ flag_found (codes "table") g.table
  pub combine_row : row_at (codes "combine") rows ≡ flag_found (codes "combine") g.combine
  pub points_row : row_at (codes "points") rows ≡ flag_found (codes "points") g.points
  pub workers_row : row_at (codes "workers") rows ≡ value_found (codes "workers") g.workers
  pub compress_row : row_at (codes "compress") rows ≡ value_found (codes "compress") g.compress
  pub first_row : row_at (codes "FIRST") rows ≡ first_found words
  pub later_row : row_at (codes "LATER") rows ≡ later_found words

or_none : (o : Option Row) → option_or o None ≡ o
or_none None = refl
or_none (Some r) = refl

-- a row of another id at the end
pub other : (id : Text) (rows : List Row) (last : Row) (known : Option Row) → bytes_eq last.id id ≡ false → row_at id rows ≡ known → row_at id (rows ++ last ∷ []) ≡ known
other id rows last known differ e = added id rows last known e ∙ rw differ (or_none known)

pub missing : (id : Text) (rows : List Row) → row_at id rows ≡ None → has_row id rows ≡ false
missing id rows e = has_row-at id rows ∙ ap is_some e

-- an option is read
pub reads_table : (rows : List Row) (g : Given) (words : List Text) → g.table ≡ false → Reads rows g words → Reads (used table [] rows) (record g { table = true }) words
reads_table rows g words new r =
    let last = row_for (codes "table") (codes "true" ∷ []) in
    let gone = r.table_row ∙ ap (flag_found (codes "table")) new in
    let is : used table [] rows ≡ rows ++ last ∷ [] = set_once (codes "table") (codes "true" ∷ []) rows gone in
    rw is (record {
      table_row = added (codes "table") rows last None gone;
      combine_row = other (codes "combine") rows last _ refl r.combine_row;
      points_row = other (codes "points") rows last _ refl r.points_row;
      workers_row = other (codes "workers") rows last _ refl r.workers_row;
      compress_row = other (codes "compress") rows last _ refl r.compress_row;
      first_row = other (codes "FIRST") rows last _ refl r.first_row;
      later_row = other (codes "LATER") rows last _ refl r.later_row;
    })

pub reads_combine : (rows : List Row) (g : Given) (words : List Text) → g.combine ≡ false → Reads rows g words → Reads (used combine [] rows) (record g { combine = true }) words
reads_combine rows g words new r =
    let last = row_for (codes "combine") (codes "true" ∷ []) in
    let gone = r.combine_row ∙ ap (flag_found (codes "combine")) new in
    let is : used combine [] rows ≡ rows ++ last ∷ [] = set_once (codes "combine") (codes "true" ∷ []) rows gone in
    rw is (record {
      table_row = other (codes "table") rows last _ refl r.table_row;
      combine_row = added (codes "combine") rows last None gone;
      points_row = other (codes "points") rows last _ refl r.points_row;
      workers_row = other (codes "workers") rows last _ refl r.workers_row;
      compress_row = other (codes "compress") rows last _ refl r.compress_row;
      first_row = other (codes "FIRST") rows last _ refl r.first_row;
      later_row = other (codes "LATER") rows last _ refl r.later_row;
    })

pub reads_points : (rows : List Row) (g : Given) (words : List Text) → g.points ≡ false → Reads rows g words → Reads (used points [] rows) (record g { points = true }) words
reads_points rows g words new r =
    let last = row_for (codes "points") (codes "true" ∷ []) in
    let gone = r.points_row ∙ ap (flag_found (codes "points")) new in
    let is : used points [] rows ≡ rows ++ last ∷ [] = set_once (codes "points") (codes "true" ∷ []) rows gone in
    rw is (record {
      table_row = other (codes "table") rows last _ refl r.table_row;
      combine_row = other (codes "combine") rows last _ refl r.combine_row;
      points_row = added (codes "points") rows last None gone;
      workers_row = other (codes "workers") rows last _ refl r.workers_row;
      compress_row = other (codes "compress") rows last _ refl r.compress_row;
      first_row = other (codes "FIRST") rows last _ refl r.first_row;
      later_row = other (codes "LATER") rows last _ refl r.later_row;
    })

pub reads_workers : (rows : List Row) (g : Given) (words : List Text) (value : Text) → g.workers ≡ None → Reads rows g words → Reads (used workers (value ∷ []) rows) (record g { workers = Some value }) words
reads_workers rows g words value new r =
    let last = row_for (codes "workers") (value ∷ []) in
    let gone = r.workers_row ∙ ap (value_found (codes "workers")) new in
    let is : used workers (value ∷ []) rows ≡ rows ++ last ∷ [] = set_once (codes "workers") (value ∷ []) rows gone in
    rw is (record {
      table_row = other (codes "table") rows last _ refl r.table_row;
      combine_row = other (codes "combine") rows last _ refl r.combine_row;
      points_row = other (codes "points") rows last _ refl r.points_row;
      workers_row = added (codes "workers") rows last None gone;
      compress_row = other (codes "compress") rows last _ refl r.compress_row;
      first_row = other (codes "FIRST") rows last _ refl r.first_row;
      later_row = other (codes "LATER") rows last _ refl r.later_row;
    })

pub reads_compress : (rows : List Row) (g : Given) (words : List Text) (value : Text) → g.compress ≡ None → Reads rows g words → Reads (used compress (value ∷ []) rows) (record g { compress = Some value }) words
reads_compress rows g words value new r =
    let last = row_for (codes "compress") (value ∷ []) in
    let gone = r.compress_row ∙ ap (value_found (codes "compress")) new in
    let is : used compress (value ∷ []) rows ≡ rows ++ last ∷ [] = set_once (codes "compress") (value ∷ []) rows gone in
    rw is (record {
      table_row = other (codes "table") rows last _ refl r.table_row;
      combine_row = other (codes "combine") rows last _ refl r.combine_row;
      points_row = other (codes "points") rows last _ refl r.points_row;
      workers_row = other (codes "workers") rows last _ refl r.workers_row;
      compress_row = added (codes "compress") rows last None gone;
      first_row = other (codes "FIRST") rows last _ refl r.first_row;
      later_row = other (codes "LATER") rows last _ refl r.later_row;
    })

-- the first positional word is read
pub reads_first : (rows : List Row) (g : Given) (word : Text) → Reads rows g [] → Reads (used first (word ∷ []) rows) g (word ∷ [])
reads_first rows g word r =
    let last = row_for (codes "FIRST") (word ∷ []) in
    let is : used first (word ∷ []) rows ≡ rows ++ last ∷ [] = set_once (codes "FIRST") (word ∷ []) rows r.first_row in
    rw is (record {
      table_row = other (codes "table") rows last _ refl r.table_row;
      combine_row = other (codes "combine") rows last _ refl r.combine_row;
      points_row = other (codes "points") rows last _ refl r.points_row;
      workers_row = other (codes "workers") rows last _ refl r.workers_row;
      compress_row = other (codes "compress") rows last _ refl r.compress_row;
      first_row = added (codes "FIRST") rows last None r.first_row;
      later_row = other (codes "LATER") rows last _ refl r.later_row;
    })

-- a later one is read
pub reads_later : (rows : List Row) (g : Given) (front : Text) (words : List Text) (word : Text) → Reads rows g (front ∷ words)
    → Reads (used later (word ∷ []) rows) g (front ∷ (words ++ word ∷ []))
reads_later rows g front [] word r =
    let last = row_for (codes "LATER") (word ∷ []) in
    let is : used later (word ∷ []) rows ≡ rows ++ last ∷ [] = put_at_end (codes "LATER") (more_values CommandLine (word ∷ [])) (last ∷ []) rows r.later_row in
    rw is (record {
      table_row = other (codes "table") rows last _ refl r.table_row;
      combine_row = other (codes "combine") rows last _ refl r.combine_row;
      points_row = other (codes "points") rows last _ refl r.points_row;
      workers_row = other (codes "workers") rows last _ refl r.workers_row;
      compress_row = other (codes "compress") rows last _ refl r.compress_row;
      first_row = other (codes "FIRST") rows last _ refl r.first_row;
      later_row = added (codes "LATER") rows last None r.later_row;
    })
reads_later rows g front (next ∷ words) word r =
    let last = row_for (codes "LATER") (word ∷ []) in
    let there : is_some (row_at (codes "LATER") rows) ≡ true = ap is_some r.later_row in
    record {
      table_row = more_other (codes "LATER") (codes "table") (word ∷ []) (last ∷ []) rows refl there ∙ r.table_row;
      combine_row = more_other (codes "LATER") (codes "combine") (word ∷ []) (last ∷ []) rows refl there ∙ r.combine_row;
      points_row = more_other (codes "LATER") (codes "points") (word ∷ []) (last ∷ []) rows refl there ∙ r.points_row;
      workers_row = more_other (codes "LATER") (codes "workers") (word ∷ []) (last ∷ []) rows refl there ∙ r.workers_row;
      compress_row = more_other (codes "LATER") (codes "compress") (word ∷ []) (last ∷ []) rows refl there ∙ r.compress_row;
      first_row = more_other (codes "LATER") (codes "FIRST") (word ∷ []) (last ∷ []) rows refl there ∙ r.first_row;
      later_row = more_here (codes "LATER") (word ∷ []) (last ∷ []) rows there ∙ ap (option_map (with_more (word ∷ []))) r.later_row;
    }
