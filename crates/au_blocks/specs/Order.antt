-- The records that are alternatives, in the order in which they lie in a table: block behind block.
use Rattle.std.specs.Prelude.{ℕ, ◌==◌, ◌≤◌, ⊤, List, [], ◌∷◌, map, filter, flat_map, if◌then◌else◌, bytes_eq}
use Rattle.std.specs.Borrow.{Bor}
use Rattle.std.specs.List.{position_or_len, range_with_len}
use Rattle.au_value.specs.Lists.{distinct}
use Rattle.au_csv.specs.Texts.{Record}
use Rattle.au_blocks.specs.declared.format.Format.{Format}
use Rattle.au_blocks.specs.Headers.{has_blocks}
use Rattle.au_blocks.specs.Entries.{label_of}
use Rattle.au_blocks.specs.Inferring.{is_alternative}
use Rattle.au_blocks.specs.Runs.{by_labels}

-- records that are lent
abbrev pub lent_records : List (Bor Record) → List Record
lent_records rows = map (λ r. r.now) rows

-- the records of each block
abbrev pub record_blocks : Format → List Record → List (List Record)
record_blocks f rows = if has_blocks f then by_labels rows else map (λ r. r ∷ []) rows

-- those that are alternatives
abbrev pub chosen : Format → List Record → List Record
chosen f rows = flat_map (λ block. filter (is_alternative f) block) (record_blocks f rows)

-- the labels, in the order in which they come first
abbrev pub labels : List Record → List (List ℕ)
labels rows = distinct bytes_eq (map label_of rows)

-- a record behind the number of its label
abbrev pub number_of : List (List ℕ) → Record → ℕ × Record
number_of known r = (position_or_len (bytes_eq (label_of r)) known, r)

-- the alternatives behind the numbers of their blocks, as they stand in the file
abbrev pub numbered : Format → List Record → List (ℕ × Record)
numbered f rows = map (number_of (labels rows)) (filter (is_alternative f) rows)

-- numbered records that are lent
abbrev pub lent_numbered : List (ℕ × Bor Record) → List (ℕ × Record)
lent_numbered ps = map (λ p. (p.0, p.1.now)) ps

-- what has a number, and the records with it
abbrev pub of_number : {X : Type 0} → ℕ → List (ℕ × X) → List (ℕ × X)
of_number k ps = filter (λ p. p.0 == k) ps

abbrev pub with_number : ℕ → List (ℕ × Record) → List Record
with_number k ps = map (λ p. p.1) (of_number k ps)

-- the records by their numbers, which are below n
abbrev pub by_numbers : ℕ → List (ℕ × Record) → List Record
by_numbers n ps = flat_map (λ k. with_number k ps) (range_with_len 0 n)

-- the numbers never fall
abbrev pub AreFrom : {X : Type 0} → ℕ → List (ℕ × X) → Type 0
AreFrom n [] = ⊤
AreFrom n (p ∷ ps) = (n ≤ p.0) × AreFrom p.0 ps

abbrev pub Rise : {X : Type 0} → List (ℕ × X) → Type 0
Rise ps = AreFrom 0 ps
