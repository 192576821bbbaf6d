-- The told bytes of a shelf's files, and what a call does to them.
use Rattle.std.specs.Prelude.{ℕ, ◌≡◌, ◌-◌, ◌^◌, ◌<◌, ◌≤◌, ◌↔◌, Bool, List, [], length, take, drop, Option, Some, None, option_map, unwrap_or, IfSome, IsSome, find, bytes_eq, not, ◌&&◌, map, Vec, if◌then◌else◌, ◌==◌}
use Rattle.std.specs.List.{list_any}
use Rattle.std.specs.declared.alloc.Global.{Global}
use Rattle.std.specs.Io.KnownBytes.{Appends}

-- a path, and the bytes of its file
abbrev pub File : Type 0
File = List ℕ × List ℕ

-- the bytes at a path: those of the first file with it
abbrev pub bytes_at : List File → List ℕ → Option (List ℕ)
bytes_at files path = option_map (λ file. file.1) (find (λ file. bytes_eq file.0 path) files)

-- told files have the path, and the bytes left are the file's
abbrev pub Opens : Option (List File) → List ℕ → Option (List ℕ) → Type 0
Opens told path left = IfSome told (λ files. (left ≡ bytes_at files path) × IsSome left)

-- told files lack the path
abbrev pub Lacks : Option (List File) → List ℕ → Type 0
Lacks told path = IfSome told (λ files. bytes_at files path ≡ None)

-- the first n bytes are the next n of those left, where these are told
abbrev pub TakesNext : Option (List ℕ) → Option (List ℕ) → List ℕ → ℕ → Type 0
TakesNext old new into n = (n ≤ length into) × IfSome old (λ bytes. (take n into ≡ take n bytes) × (n ≤ length bytes) × (new ≡ Some (drop n bytes)))

-- with room, n is 0 exactly where no told byte was left
abbrev pub EndsWith : Option (List ℕ) → List ℕ → ℕ → Type 0
EndsWith old into n = IfSome old (λ bytes. 0 < length into → ((n ≡ 0) ↔ (bytes ≡ [])))

-- a front of the piece was appended
abbrev pub AppendsFront : Option (List ℕ) → Option (List ℕ) → List ℕ → Type 0
AppendsFront old new piece = (n : ℕ) × (n ≤ length piece) × Appends old new (take n piece)

-- how many bytes the put of a number takes before it fails, if it is listed: the first entry counts, and the last number is never listed
abbrev pub front_listed : List (ℕ × ℕ) → ℕ → Option ℕ
front_listed failing number = if number == 2 ^ 64 - 1 then None else option_map (λ entry. entry.1) (find (λ entry. entry.0 == number) failing)

-- what the put of a number takes of a piece: a front of it if it is listed, else all
abbrev pub front_put : List (ℕ × ℕ) → ℕ → List ℕ → List ℕ
front_put failing number piece = unwrap_or (option_map (λ k. take k piece) (front_listed failing number)) piece

-- files as they are kept, each path with its bytes
abbrev pub files_told : List (List ℕ × Vec ℕ Global) → List File
files_told files = map (λ file. (file.0, file.1.items)) files

-- what is left of a started file's bytes from a place on
abbrev pub left_behind : Bool → List ℕ → ℕ → Option (List ℕ)
left_behind started bytes at = if started then Some (drop at bytes) else None

-- whether a call fails: its number is listed, and is not the last
abbrev pub is_listed : List ℕ → ℕ → Bool
is_listed failing number = not (number == 2 ^ 64 - 1) && list_any (λ n. n == number) failing
