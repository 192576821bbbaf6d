-- The texts that `encode` and `rewrite` print, as the files over which `plain` runs.
use Rattle.std.specs.Prelude.{◌≡◌, ℕ, ◌+◌, ◌≤◌, true, false, List, [], ◌∷◌, length, Some, Ok, ⊤}
use Rattle.std.specs.List.{AllZip}
use Rattle.au_io.specs.Files.{File, bytes_at}
use Rattle.au_parse.specs.Tree.{QueryTree}
use Rattle.au_sqltext.specs.Brackets.{is_deep}
use Rattle.au_engine.specs.Answers.{Named, answer_fits}
use Rattle.au_engine.specs.EncodedTables.{encoded_answer}
use Rattle.au_words.specs.Words.{Request}
use Rattle.au_words.specs.Words as words
use Rattle.au_words.specs.declared.words.Command.TheVariants.{Rewrite}
use Rattle.au_cli.specs.Causes.{IsAskedText}
use Rattle.au_value.specs.Texts.{Text}
use Rattle.au_cli.specs.Files.{found_in, greatest_size, greatest_total, size_of}
use Rattle.au_cli.specs.Requests.{given_of}
use Rattle.au_cli.specs.Run.{CanAnswer}

-- what `encode` prints for a word over told files is the file of another word
abbrev pub IsEncodedFile : List File → List File → Text × Text → Text × Text → Type 0
IsEncodedFile files outputs word other = (text : Text) × IsAskedText (Ok (words.encode word)) (Some files) text × (bytes_at outputs other.1 ≡ Some text)

-- the sizes of the files of words, behind so many bytes, are within the limits
abbrev pub AreWithin : List File → ℕ → List (Text × Text) → Type 0
AreWithin files before [] = ⊤
AreWithin files before (word ∷ words) =
    (size_of (bytes_at files word.1) ≤ greatest_size)
    × (before + size_of (bytes_at files word.1) ≤ greatest_total)
    × AreWithin files (before + size_of (bytes_at files word.1)) words

-- Told files give tables and a statement to a request for its plan, and the numbers of its bounded answer lie in 128 bits.
-- Among the outputs are what `encode` prints for each table, and at a path what `rewrite` prints. This isn't deep, and their
-- sizes are within the limits.
pub record AreOutputs (files outputs : List File) (r : Request) (path : Text) (others : List (Text × Text)) (ts : List Named) (s : QueryTree) : Type 0 where
  pub command : r.command ≡ Rewrite
  pub given : given_of r (found_in files r.tables) ≡ Ok (ts, s)
  pub fits : answer_fits false ts s ≡ true
  pub encoded : AllZip (IsEncodedFile files outputs) r.tables others
  pub line : Text
  pub rewritten : IsAskedText (Ok (words.query r)) (Some files) line
  pub file : bytes_at outputs path ≡ Some line
  pub flat : is_deep line ≡ false
  pub size : length line ≤ greatest_size
  pub within : AreWithin outputs (length line) others

-- Then `plain` can run the plan over these outputs, and what it prints are the encoded rows of the statement's bounded
-- relation, ordered by their values.
pub record AnswersOutputs (outputs : List File) (path : Text) (others : List (Text × Text)) (ts : List Named) (s : QueryTree) : Type 0 where
  pub runs : CanAnswer (Ok (words.plain path others)) outputs
  pub prints : (text : Text) → IsAskedText (Ok (words.plain path others)) (Some outputs) text → text ≡ encoded_answer ts s

abbrev pub OutputsAreAnswered : Type 0
OutputsAreAnswered =
    (files outputs : List File) (r : Request) (path : Text) (others : List (Text × Text)) (ts : List Named) (s : QueryTree) →
    AreOutputs files outputs r path others ts s → AnswersOutputs outputs path others ts s
