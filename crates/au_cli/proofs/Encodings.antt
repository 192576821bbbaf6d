-- What an encoding ends in over told files.
use Rattle.std.proofs.Common.{◌≡◌, ◌⊎◌, inl, inr, ℕ, List, Option, Some, None, IfSome, Result, Ok, Err, refl, sym, ◌∙◌}
use Rattle.std.specs.Prelude.{option_map}
use Rattle.std.specs.Result.{result_err}
use Rattle.au_blocks.specs.Tables.{BlockTable}
use Rattle.au_io.specs.Counts.{Rose}
use Rattle.au_io.specs.Files.{File, bytes_at}
use Rattle.au_cli.specs.declared.files.Purpose.{Purpose}
use Rattle.au_cli.specs.declared.files.Purpose.TheVariants as purpose
use Rattle.au_cli.specs.declared.outcome.Outcome.{Outcome}
use Rattle.au_cli.specs.declared.outcome.Outcome.TheVariants as outcome
use Rattle.au_cli.specs.Causes.{GivesTable}
use Rattle.au_cli.specs.FileCauses.{FileCause, FileRefused}
use Rattle.au_value.specs.Texts.{Text}
use Rattle.au_cli.specs.Files.{FileFound, file_table, size_of}
use Rattle.au_cli.specs.Requests.{IsRefusal, Refusal}
use Rattle.au_cli.specs.Requests.Refusal.{exactly}
use Rattle.au_cli.proofs.Refusals.{err_comes, ok_comes}
use Rattle.au_cli.proofs.ToldFiles.{told_file}

refused : (files : List File) (aim : Purpose) (path : Text) (file before : ℕ) (o : Outcome) → FileRefused (Some files) aim path file before o → file_table aim file before (bytes_at files path) ≡ Err o
refused files aim path file before o h = told_file files path (λ found. file_table aim file before found ≡ Err o) h

-- an outcome is want of memory, or what the told file refuses
pub file_decides : (files : List File) (aim : Purpose) (path : Text) (file before f fn a an : ℕ) (o : Outcome) → FileCause (Some files) aim path file before f fn a an o → ¬ Rose f fn
    → (o ≡ outcome.NoMemory) ⊎ (file_table aim file before (bytes_at files path) ≡ Err o)
file_decides files aim path file before f fn a an outcome.NoMemory h calm = inl refl
file_decides files aim path file before f fn a an (outcome.ReadFault i) h calm = absurd (calm h.1)
file_decides files aim path file before f fn a an (outcome.NoFile i) h calm = inr (refused files aim path file before (outcome.NoFile i) h.2)
file_decides files aim path file before f fn a an (outcome.Table i fault) h calm = inr (refused files aim path file before (outcome.Table i fault) h.1)
file_decides files aim path file before f fn a an (outcome.Limit fault) h calm = inr (refused files aim path file before (outcome.Limit fault) h.1)
file_decides files aim path file before f fn a an _ h calm = elim h [ ]

pub file_comes : (found : Result BlockTable Outcome) (refusal : Refusal) (o : Outcome) → (o ≡ outcome.NoMemory) ⊎ (found ≡ Err o) → option_map exactly (result_err found) ≡ Some refusal
    → IsRefusal refusal o ⊎ (o ≡ outcome.NoMemory)
file_comes found refusal o h k = elim h [ inl e ↦ inr e | inr e ↦ inl (err_comes found o refusal e k) ]

pub encoded_comes : (P : BlockTable → Type 0) (files : List File) (path : Text) (refusal : Refusal) (o : Outcome) → GivesTable (Some files) path P
    → option_map exactly (result_err (file_table purpose.Encode 0 0 (bytes_at files path))) ≡ Some refusal → IsRefusal refusal o ⊎ (o ≡ outcome.NoMemory)
encoded_comes P files path refusal o h k =
    let is = told_file files path (λ found. (t : BlockTable) × (file_table purpose.Encode 0 0 found ≡ Ok t) × P t) h in
    inl (ok_comes (file_table purpose.Encode 0 0 (bytes_at files path)) is.0 refusal o is.1 k)

pub file_memory : (found : Result BlockTable Outcome) (o : Outcome) (t : BlockTable) → (o ≡ outcome.NoMemory) ⊎ (found ≡ Err o) → found ≡ Ok t → o ≡ outcome.NoMemory
file_memory found o t h is = elim h [ inl e ↦ e | inr e ↦ (let both : Err o ≡ Ok t = sym e ∙ is in cc) ]

-- the table that is found is encoded
pub encodes : (P : BlockTable → Type 0) (told : Option (List File)) (path : Text) (t : BlockTable) (size : ℕ)
    → FileFound told path (λ found. (file_table purpose.Encode 0 0 found ≡ Ok t) × (size_of found ≡ size)) → P t → GivesTable told path P
encodes P told path t size h is = (h.0, h.1, (t, h.2.0, is))
