-- The tables of two files, of which each is made by itself.
use Rattle.std.specs.Prelude.{◌≡◌, ◌⊎◌, ℕ, List, [], ◌∷◌, Result, Ok, Err, MatchResult, Vec}
use Rattle.std.specs.declared.alloc.Global.{Global}
use Rattle.au_blocks.specs.Read.{table_of}
use Rattle.au_engine.specs.Answers.{Named}
use Rattle.au_cli.specs.declared.files.Purpose.{Purpose}
use Rattle.au_cli.specs.declared.outcome.Outcome.{Outcome}
use Rattle.au_cli.specs.declared.outcome.Outcome.TheVariants as outcome
use Rattle.au_cli.specs.FileCauses.{BytesCause}
use Rattle.au_value.specs.Texts.{Text}
use Rattle.au_cli.specs.Files.{table_or_defect}

-- the table of a file's bytes under its name, or why there is none
abbrev pub NamesTable : Purpose → ℕ → Text → List ℕ → Result Named Outcome → Type 0
NamesTable aim file name bytes result = MatchResult result (λ t. (t.0 ≡ name) × (table_or_defect aim file (table_of bytes) ≡ Ok t.1)) (BytesCause aim file bytes)

-- the same of bytes that may not have been read
abbrev pub NamesRead : Purpose → ℕ → Text → Result (Vec ℕ Global) Outcome → Result Named Outcome → Type 0
NamesRead aim file name bytes result = MatchResult bytes (λ b. NamesTable aim file name b.items result) (λ o. result ≡ Err o)

-- both, or the first refusal, or want of memory
abbrev pub BothTables : Result Named Outcome → Result Named Outcome → Result (Vec Named Global) Outcome → Type 0
BothTables one other result =
    MatchResult result (λ v. (a b : Named) × (one ≡ Ok a) × (other ≡ Ok b) × (v.items ≡ a ∷ b ∷ []))
    (λ o. (o ≡ outcome.NoMemory) ⊎ (one ≡ Err o) ⊎ ((a : Named) × (one ≡ Ok a) × (other ≡ Err o)))
