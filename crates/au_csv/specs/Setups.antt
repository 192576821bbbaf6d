-- How the reader of a text is set up.
use Rattle.std.specs.Prelude.{◌&&◌, ◌||◌, not, Bool, true, false, is_none, is_some}
use Rattle.csv.specs.declared.reader.Reader.{Reader}
use Rattle.csv.specs.declared.reader.Trim.{Trim}
use Rattle.csv.specs.declared.reader.Trim.TheVariants as trim

-- whether nothing is trimmed
abbrev pub trims_nothing : Trim → Bool
trims_nothing trim.None = true
trims_nothing trim.Headers = false
trims_nothing trim.Fields = false
trims_nothing trim.All = false

-- whether the next read is of one record
abbrev pub is_ready : {R : Type 0} → Reader R → Bool
is_ready r = r.first || r.has_headers && is_some r.headers || not r.has_headers && is_none r.headers

-- whether a reader failed, or else gives records of any length as they stand
abbrev pub is_set_up : {R : Type 0} → Reader R → Bool
is_set_up r = r.failed || trims_nothing r.trim && r.flexible && is_ready r
