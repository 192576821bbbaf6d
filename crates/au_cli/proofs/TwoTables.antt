-- The tables of two files, of which each is made by itself.
use Rattle.std.proofs.Common.{◌≡◌, ◌<◌, ◌≤◌, ◌+◌, ⊎_elim, ℕ, List, [], ◌∷◌, Option, Some, Result, Ok, Err, Vec, Global, length, arith, refl, sym, ap, subst}
use Rattle.std.specs.Prelude.{IfErr, IfOk}
use Rattle.au_blocks.specs.Read.{table_of}
use Rattle.au_blocks.specs.Tables.{BlockTable}
use Rattle.au_io.specs.Files.{File}
use Rattle.au_engine.specs.Answers.{Named}
use Rattle.au_cli.specs.declared.files.Purpose.TheVariants as purpose
use Rattle.au_cli.specs.declared.outcome.Outcome.{Outcome}
use Rattle.au_cli.specs.declared.outcome.Outcome.TheVariants as outcome
use Rattle.au_value.specs.Texts.{Text}
use Rattle.au_cli.specs.Files.{FileFound, FilesFound, IsFoundAt, file_bytes, file_table, size_of, table_or_defect, tables_from}
use Rattle.au_cli.specs.FileCauses.{BytesCause, FileCause, FilesCause, ReadCause}
use Rattle.au_cli.specs.TwoFiles.{BothTables, NamesRead, NamesTable}
use Rattle.au_cli.proofs.FileTables.{bytes_cause, read_cause, table_read}
use Rattle.au_cli.proofs.TablesRead.{ReadSoFar, files_cause, read_all, read_none, read_one}

module _ (told : Option (List File)) (u w : Text × Text) where
  abbrev both : List (Text × Text)
  both = u ∷ w ∷ []

  -- why the first file gives no table
  pub first_cause : (f fn a an : ℕ) (o : Outcome) → FileCause told purpose.Query u.1 0 0 f fn a an o → FilesCause told purpose.Query 0 0 both f fn a an o
  first_cause f fn a an o cause =
      files_cause told purpose.Query 0 0 both [] 0 0 f f fn a a an u (w ∷ []) o (read_none told purpose.Query 0 0 both) (omega arith) (omega arith) (omega arith) cause

  module _ (bytes : List ℕ) (read : IsFoundAt told u.1 (Some bytes)) (first : file_bytes 0 0 (Some bytes) ≡ Ok bytes) where
    -- the first table
    so_far : (t : BlockTable) → table_or_defect purpose.Query 0 (table_of bytes) ≡ Ok t → ReadSoFar told purpose.Query 0 0 both ((u.0, t) ∷ []) 1 (0 + length bytes) (w ∷ [])
    so_far t is =
        read_one told purpose.Query 0 0 both [] 0 0 (length bytes) u t (w ∷ []) (read_none told purpose.Query 0 0 both) (Some bytes, read, (table_read purpose.Query 0 0 bytes t first is, refl))

    -- a fact of the second file holds behind the bytes of the first
    behind : (P : ℕ → Type 0) → P (length bytes) → P (0 + length bytes)
    behind P p = let e : length bytes ≡ 0 + length bytes = omega arith in subst P e p

    second_refused : (t : BlockTable) → table_or_defect purpose.Query 0 (table_of bytes) ≡ Ok t → (f f1 fn a a1 an : ℕ) → f ≤ f1 → a ≤ a1 → (o : Outcome)
        → FileCause told purpose.Query w.1 1 (length bytes) f1 fn a1 an o → FilesCause told purpose.Query 0 0 both f fn a an o
    second_refused t is f f1 fn a a1 an ff aa o cause =
        files_cause told purpose.Query 0 0 both ((u.0, t) ∷ []) 1 (0 + length bytes) f f1 fn a a1 an w [] o (so_far t is) (omega arith) ff aa (behind (λ n. FileCause told purpose.Query w.1 1 n f1 fn a1 an o) cause)

    both_made : (t s : BlockTable) → table_or_defect purpose.Query 0 (table_of bytes) ≡ Ok t → (n : ℕ)
        → FileFound told w.1 (λ found. (file_table purpose.Query 1 (length bytes) found ≡ Ok s) × (size_of found ≡ n))
        → FilesFound told both (λ found. tables_from purpose.Query 0 0 found ≡ Ok ((u.0, t) ∷ (w.0, s) ∷ []))
    both_made t s is n also =
        read_all told purpose.Query 0 0 both ((u.0, t) ∷ (w.0, s) ∷ []) 2 (0 + length bytes + n)
        (read_one told purpose.Query 0 0 both ((u.0, t) ∷ []) 1 (0 + length bytes) n w s [] (so_far t is)
        (behind (λ m. FileFound told w.1 (λ found. (file_table purpose.Query 1 m found ≡ Ok s) × (size_of found ≡ n))) also))

    module _ (f1 fn a1 an : ℕ) where
      -- what is known of the second file's bytes
      abbrev IsThere : Result (Vec ℕ Global) Outcome → Type 0
      IsThere more = IfOk more (λ b. IsFoundAt told w.1 (Some b.items))

      abbrev IsWithin : Result (Vec ℕ Global) Outcome → Type 0
      IsWithin more = IfOk more (λ b. file_bytes 1 (length bytes) (Some b.items) ≡ Ok b.items)

      abbrev IsRefused : Result (Vec ℕ Global) Outcome → Type 0
      IsRefused more = IfErr more (ReadCause told w.1 1 (length bytes) f1 fn a1 an)

      second_cause : (more : Result (Vec ℕ Global) Outcome) (o : Outcome) → IsThere more → IsWithin more → IsRefused more → NamesRead purpose.Query 1 w.0 more (Err o)
          → FileCause told purpose.Query w.1 1 (length bytes) f1 fn a1 an o
      second_cause (Ok b) o there within refused cause = bytes_cause told purpose.Query w.1 1 (length bytes) f1 fn a1 an b.items o there within cause
      second_cause (Err p) o there within refused is =
          let same : p ≡ o = cc in
          subst (λ q. FileCause told purpose.Query w.1 1 (length bytes) f1 fn a1 an q) same (read_cause told purpose.Query w.1 1 (length bytes) f1 fn a1 an p refused)

      second_made : (more : Result (Vec ℕ Global) Outcome) (t : BlockTable) (s : Named) → table_or_defect purpose.Query 0 (table_of bytes) ≡ Ok t → IsThere more → IsWithin more → NamesRead purpose.Query 1 w.0 more (Ok s)
          → FilesFound told both (λ found. tables_from purpose.Query 0 0 found ≡ Ok ((u.0, t) ∷ s ∷ []))
      second_made (Ok b) t s is there within names =
          let name : (w.0, s.1) ≡ s = ap (λ n. (n, s.1)) (sym names.0) in
          subst (λ (q : Named). FilesFound told both (λ found. tables_from purpose.Query 0 0 found ≡ Ok ((u.0, t) ∷ q ∷ []))) name
          (both_made t s.1 is (length b.items) (Some b.items, there, (table_read purpose.Query 1 (length bytes) b.items s.1 within names.1, refl)))
      second_made (Err p) t s is there within names = absurd (let e : Ok s ≡ Err p = names in cc)

      module _ (more : Result (Vec ℕ Global) Outcome) (one other : Result Named Outcome) (there : IsThere more) (within : IsWithin more) (refused : IsRefused more)
          (made : NamesTable purpose.Query 0 u.0 bytes one) (also : NamesRead purpose.Query 1 w.0 more other) where
        pub two_made : (result : Result (Vec Named Global) Outcome) → BothTables one other result → IfOk result (λ v. FilesFound told both (λ found. tables_from purpose.Query 0 0 found ≡ Ok v.items))
        two_made (Ok v) given =
            let t = given.0 in
            let s = given.1 in
            let names = subst (NamesTable purpose.Query 0 u.0 bytes) given.2 made in
            let name : (u.0, t.1) ≡ t = ap (λ n. (n, t.1)) (sym names.0) in
            let all = second_made more t.1 s names.1 there within (subst (NamesRead purpose.Query 1 w.0 more) given.3 also) in
            subst (λ (ts : List Named). FilesFound told both (λ found. tables_from purpose.Query 0 0 found ≡ Ok ts)) (sym given.4)
            (subst (λ (q : Named). FilesFound told both (λ found. tables_from purpose.Query 0 0 found ≡ Ok (q ∷ s ∷ []))) name all)
        two_made (Err o) given = tt

        pub two_refused : (f a : ℕ) → f ≤ f1 → a ≤ a1 → f1 ≤ fn → a1 ≤ an → (result : Result (Vec Named Global) Outcome) → BothTables one other result → IfErr result (FilesCause told purpose.Query 0 0 both f fn a an)
        two_refused f a ff aa fl al (Ok v) given = tt
        two_refused f a ff aa fl al (Err o) given =
            ⊎_elim
            (λ none. subst (FilesCause told purpose.Query 0 0 both f fn a an) (sym none) tt)
            (λ some. ⊎_elim
            (λ left. first_cause f fn a an o (bytes_cause told purpose.Query u.1 0 0 f fn a an bytes o read first (subst (NamesTable purpose.Query 0 u.0 bytes) left made)))
            (λ right.
            let names = subst (NamesTable purpose.Query 0 u.0 bytes) right.1 made in
            second_refused right.0.1 names.1 f f1 fn a a1 an ff aa o (second_cause more o there within refused (subst (NamesRead purpose.Query 1 w.0 more) right.2 also)))
            some)
            given
