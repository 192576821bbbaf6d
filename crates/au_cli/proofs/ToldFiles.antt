-- What is found of told files is what they hold.
use Rattle.std.proofs.Common.{◌≡◌, ℕ, List, [], ◌∷◌, Option, Some, refl, sym, subst}
use Rattle.std.specs.List.{AllZip}
use Rattle.au_io.specs.Files.{File, bytes_at}
use Rattle.au_value.specs.Texts.{Text}
use Rattle.au_cli.specs.PlanCauses.{PlanFound}
use Rattle.au_cli.specs.Files.{FileFound, FilesFound, Found, IsFound, found_in, held_by}

one_found : (files : List File) (word : Text × Text) (one : Found) → IsFound (Some files) word one → one ≡ held_by files word
one_found files word one is = λ i. (is.0 i, sym is.1 i)

all_found : (files : List File) (words : List (Text × Text)) (found : List Found) → AllZip (IsFound (Some files)) words found → found ≡ found_in files words
all_found files [] [] is = refl
all_found files [] (one ∷ found) is = elim is [ ]
all_found files (word ∷ words) [] is = elim is [ ]
all_found files (word ∷ words) (one ∷ found) is = λ i. one_found files word one is.0 i ∷ all_found files words found is.1 i

-- what holds of what is found holds of what the files hold
pub told_file : (files : List File) (path : Text) (Holds : Option (List ℕ) → Type 0) → FileFound (Some files) path Holds → Holds (bytes_at files path)
told_file files path Holds h = subst Holds (sym h.1) h.2

pub told_files : (files : List File) (words : List (Text × Text)) (Holds : List Found → Type 0) → FilesFound (Some files) words Holds → Holds (found_in files words)
told_files files words Holds h = subst Holds (all_found files words h.0 h.1) h.2

pub told_plan : (files : List File) (path : Text) (words : List (Text × Text)) (Holds : Option (List ℕ) → List Found → Type 0) → PlanFound (Some files) path words Holds
    → Holds (bytes_at files path) (found_in files words)
told_plan files path words Holds h =
    told_files files words (Holds (bytes_at files path)) (told_file files path (λ plan. FilesFound (Some files) words (Holds plan)) h)
