-- The errors of a reader.
use Rattle.std.specs.Prelude.{Bool, true, false}
use Rattle.csv.specs.declared.error.ErrorKind.{ErrorKind}
use Rattle.csv.specs.declared.error.ErrorKind.TheVariants as kind

-- whether an error is of a record that isn't text
abbrev pub is_not_text : ErrorKind → Bool
is_not_text (kind.Io e) = false
is_not_text (kind.UnequalLengths pos expected len) = false
is_not_text (kind.Utf8 pos err) = true
is_not_text kind.OutOfMemory = false
is_not_text (kind.Serialize what) = false
is_not_text (kind.Deserialize pos err) = false
