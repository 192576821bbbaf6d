-- What a writer has written, while a text is made.
use Rattle.std.specs.Prelude.{◌≡◌, ℕ, ◌++◌, false, List}
use Rattle.csv.specs.Writing.{writer_setup, fields_written, has_written, writer_under, writer_pending, default_writer}
use Rattle.csv.specs.declared.writer.Writer.{Writer}

-- a writer with the defaults, and no record is begun
pub record IsReady {W : Type 0} (w : Writer W) : Type 0 where
  pub setup : writer_setup w ≡ default_writer
  pub fields : fields_written w ≡ 0
  pub fresh : has_written w ≡ false

-- what lies under a writer, and behind it what waits
abbrev pub written : {W : Type 0} → Writer W → (W → List ℕ) → List ℕ
written w bytes = bytes (writer_under w) ++ writer_pending w
