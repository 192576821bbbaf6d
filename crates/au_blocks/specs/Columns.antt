-- The alternatives of records, made a column at a time.
use Rattle.std.specs.Prelude.{ℕ, ◌+◌, Bool, List, [], ◌∷◌, length, map, if◌then◌else◌, nat_le}
use Rattle.std.specs.Borrow.{Bor}
use Rattle.au_value.specs.declared.kinds.Kind.{Kind}
use Rattle.au_value.specs.Ranges.{Span}
use Rattle.au_csv.specs.Texts.{Record}
use Rattle.au_blocks.specs.declared.format.Format.{Format}
use Rattle.au_blocks.specs.declared.rows.Place.{Place}
use Rattle.au_blocks.specs.Blocks.{Candidate, Copies, candidate}
use Rattle.au_blocks.specs.Headers.{cells_of, has_copies}
use Rattle.au_blocks.specs.Entries.{copies_in, field}
use Rattle.au_blocks.specs.Read.{cell, row}

-- the texts of the column at a place
abbrev pub column_texts : Format → ℕ → List (Bor Record) → List (List ℕ)
column_texts f i rows = map (λ r. field i (cells_of f r.now)) rows

-- its cells, where it has this kind
abbrev pub column_cells : Format → Kind → ℕ → List (Bor Record) → List Span
column_cells f k i rows = map (λ r. cell (k, field i (cells_of f r.now))) rows

-- the cells of columns
abbrev pub all_cells : Format → List (Bor Record) → List Place → List (List Span)
all_cells f rows places = map (λ p. column_cells f p.kind p.place rows) places

-- columns of these kinds, from a place on
abbrev pub places_from : ℕ → List Kind → List Place
places_from i [] = []
places_from i (k ∷ kinds) = record { place = i; kind = k } ∷ places_from (i + 1) kinds

-- the numbers of copies of records, and none where each stands once
abbrev pub all_copies : Format → List (Bor Record) → List Copies
all_copies f rows = if has_copies f then map (λ r. copies_in f r.now) rows else []

-- the alternative of a record
abbrev pub alternative_of : Format → List Kind → Record → Candidate
alternative_of f kinds r = candidate (row kinds (cells_of f r)) (copies_in f r)

abbrev pub alternatives_of : Format → List Kind → List Record → List Candidate
alternatives_of f kinds rows = map (alternative_of f kinds) rows

-- whether a record has so many cells
abbrev pub is_wide : Format → ℕ → Record → Bool
is_wide f n r = nat_le n (length (cells_of f r))
