-- The kind of a column by its fields, from a test of each record.
use Rattle.std.proofs.Common.{◌≡◌, ℕ, Bool, true, false, ◌&&◌, ◌||◌, List, [], ◌∷◌, map, Option, Some, None, refl, ap, ◌∙◌}
use Rattle.std.specs.Prelude.{not, option_map}
use Rattle.std.specs.List.{list_all, list_any, cons_option}
use Rattle.au_csv.specs.Texts.{Record}
use Rattle.au_blocks.specs.declared.format.Format.{Format}
use Rattle.au_blocks.specs.declared.role.Role.{Role}
use Rattle.au_blocks.specs.declared.role.Role.TheVariants as role
use Rattle.au_blocks.specs.Blocks.{Copies}
use Rattle.au_blocks.specs.Headers.{cells_of}
use Rattle.au_blocks.specs.Entries.{BlockEntry, block_entry, field, role_of, copies_in, alternatives, entries_of}
use Rattle.au_blocks.specs.Inferring.{is_numeral, inferred, inferred_kind, offers_row, is_alternative, holds_numeral}

-- the fields of a column in the alternatives
abbrev texts : ℕ → List BlockEntry → List (List ℕ)
texts k entries = map (λ e. field k e.cells) (alternatives entries)

abbrev nonempty : List (List ℕ) → Bool
nonempty [] = false
nonempty (x ∷ xs) = true

-- one record more in front
all-cons : (k : ℕ) (copies : Copies) (cells : Record) (o : Option Role) (rest : List BlockEntry)
    → list_all is_numeral (texts k (cons_option (option_map (λ x. block_entry x copies cells) o) rest)) ≡ ((not (offers_row o) || is_numeral (field k cells)) && list_all is_numeral (texts k rest))
all-cons k copies cells None rest = refl
all-cons k copies cells (Some role.Guess) rest = refl
all-cons k copies cells (Some role.Alternative) rest = refl
all-cons k copies cells (Some role.Absent) rest = refl
all-cons k copies cells (Some role.AbsentGuess) rest = refl

any-cons : (k : ℕ) (copies : Copies) (cells : Record) (o : Option Role) (rest : List BlockEntry)
    → nonempty (texts k (cons_option (option_map (λ x. block_entry x copies cells) o) rest)) ≡ (offers_row o || nonempty (texts k rest))
any-cons k copies cells None rest = refl
any-cons k copies cells (Some role.Guess) rest = refl
any-cons k copies cells (Some role.Alternative) rest = refl
any-cons k copies cells (Some role.Absent) rest = refl
any-cons k copies cells (Some role.AbsentGuess) rest = refl

all-rows : (f : Format) (k : ℕ) (rows : List Record) → list_all is_numeral (texts k (entries_of f rows)) ≡ list_all (holds_numeral f k) rows
all-rows f k [] = refl
all-rows f k (r ∷ rows) =
    all-cons k (copies_in f r) (cells_of f r) (role_of f r) (entries_of f rows) ∙ ap (λ b. holds_numeral f k r && b) (all-rows f k rows)

any-rows : (f : Format) (k : ℕ) (rows : List Record) → nonempty (texts k (entries_of f rows)) ≡ list_any (is_alternative f) rows
any-rows f k [] = refl
any-rows f k (r ∷ rows) =
    any-cons k (copies_in f r) (cells_of f r) (role_of f r) (entries_of f rows) ∙ ap (λ b. is_alternative f r || b) (any-rows f k rows)

by-tests : (xs : List (List ℕ)) → inferred_kind xs ≡ inferred (nonempty xs && list_all is_numeral xs)
by-tests [] = refl
by-tests (x ∷ xs) = refl

pub inferred_kind-rows : (f : Format) (k : ℕ) (rows : List Record)
    → inferred_kind (map (λ e. field k e.cells) (alternatives (entries_of f rows))) ≡ inferred (list_any (is_alternative f) rows && list_all (holds_numeral f k) rows)
inferred_kind-rows f k rows = by-tests (texts k (entries_of f rows)) ∙ rw (any-rows f k rows, all-rows f k rows) refl
