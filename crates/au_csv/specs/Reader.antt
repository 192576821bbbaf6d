-- Readers that give the records of a text one after the other: which they gave, and that they go on with the next one.
use Rattle.std.specs.Prelude.{ℕ, ◌<◌, ◌^◌, ◌≡◌, true, List, Some, length}
use Rattle.std.specs.List.{list_all}
use Rattle.csv.specs.Reading.{Reached, Ready, default_config, source_of, strip_bom}
use Rattle.csv.specs.Records.{fields_of}
use Rattle.csv.specs.declared.parser.State.TheVariants as st
use Rattle.csv.specs.declared.reader.Trim.TheVariants as trim
use Rattle.au_csv.specs.declared.reader.RecordReader.{RecordReader}
use Rattle.au_csv.specs.Texts.{Record, is_text}

-- the record that was read last
abbrev pub last_record : RecordReader → Record
last_record r = fields_of r.row

-- these are the first records of a text, each of them is text, and the bytes behind them are left; the next one's number is
-- how many they are
pub record HasRead (bytes : List ℕ) (rows : List Record) (r : RecordReader) : Type 0 where
  pub trim : r.reader.trim ≡ trim.None
  pub ready : Ready r.reader
  pub config : r.reader.config ≡ default_config
  pub flexible : r.reader.flexible ≡ true
  pub short : length bytes < 2 ^ 64
  pub number : length rows < 2 ^ 64 → r.number ≡ length rows
  pub text : list_all is_text rows ≡ true
  pub left : List ℕ
  pub source : source_of (λ s. Some s.now) r.reader ≡ Some left
  pub reached : Reached default_config st.StartRecord (strip_bom bytes) rows r.reader.state left
