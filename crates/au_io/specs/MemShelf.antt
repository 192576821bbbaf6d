-- What a clause reads of a shelf in memory: its files, which calls fail, and how far it has come.
-- Each is a function of the shelf, since its fields are its own.
use Rattle.std.specs.Prelude.{ℕ, Bool, List, Option}
use Rattle.au_io.specs.declared.mem_shelf.MemShelf.{MemShelf}
use Rattle.au_io.specs.Files.{File, files_told, left_behind}

-- the files, each path with its bytes
abbrev pub shelf_files : MemShelf → List File
shelf_files s = files_told s.files.items

-- the numbers of the calls that fail
abbrev pub shelf_failing : MemShelf → List ℕ
shelf_failing s = s.failing.items

-- the number of the next call
abbrev pub shelf_calls : MemShelf → ℕ
shelf_calls s = s.calls

-- whether a file is started
abbrev pub shelf_started : MemShelf → Bool
shelf_started s = s.started

-- the bytes left of the started file, if there is one
abbrev pub shelf_left : MemShelf → Option (List ℕ)
shelf_left s = left_behind s.started s.bytes.items s.at

-- how many calls failed
abbrev pub shelf_faults : MemShelf → ℕ
shelf_faults s = s.faults

-- how many files were absent
abbrev pub shelf_absences : MemShelf → ℕ
shelf_absences s = s.absences
