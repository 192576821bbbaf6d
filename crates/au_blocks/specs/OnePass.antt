-- A table file that is read in one pass, of whose records none is kept: what is held of those that were read, a column at a
-- time, which records can be read so, and which kinds are supposed for their columns.
use Rattle.std.specs.Prelude.{ℕ, ◌≡◌, ◌⊎◌, ◌+◌, ◌==◌, ◌&&◌, not, ⊤, Bool, true, false, List, [], ◌∷◌, ◌++◌, length, drop, map, Option, Some, None, is_some, if◌then◌else◌, nat_lt}
use Rattle.std.specs.List.{list_all, list_any}
use Rattle.au_value.specs.declared.kinds.Kind.{Kind}
use Rattle.au_value.specs.declared.kinds.Kind.TheVariants as kind
use Rattle.au_value.specs.Ranges.{Span}
use Rattle.au_csv.specs.Texts.{Record}
use Rattle.au_blocks.specs.declared.format.Format.{Format}
use Rattle.au_blocks.specs.declared.role.Role.{Role}
use Rattle.au_blocks.specs.Headers.{cells_of}
use Rattle.au_blocks.specs.Entries.{field, is_absent, role_of}
use Rattle.au_blocks.specs.Inferring.{holds_numeral}
use Rattle.au_blocks.specs.Read.{cell}
use Rattle.au_blocks.specs.Spellings.{value_written}

-- the kind of a column and its cells so far
pub record Filled : Type 0 where
  pub kind : Kind
  pub cells : List Span

abbrev pub filled : Kind → List Span → Filled
filled k cells = record { kind = k; cells = cells }

-- columns from a place on, with the cells of a record behind those that they have
abbrev pub with_row : Format → Record → ℕ → List Filled → List Filled
with_row f r i [] = []
with_row f r i (c ∷ columns) = filled c.kind (c.cells ++ cell (c.kind, field i (cells_of f r)) ∷ []) ∷ with_row f r (i + 1) columns

-- the columns of these kinds from a place on, over some alternatives
abbrev pub columns_over : Format → List Record → ℕ → List Kind → List Filled
columns_over f rows i [] = []
columns_over f rows i (k ∷ kinds) = filled k (map (λ r. cell (k, field i (cells_of f r))) rows) ∷ columns_over f rows (i + 1) kinds

-- whether each cell of a record from a place on is a value of its column's kind
abbrev pub are_values : Format → Record → ℕ → List Kind → Bool
are_values f r i [] = true
are_values f r i (k ∷ kinds) = is_some (value_written k (field i (cells_of f r))) && are_values f r (i + 1) kinds

-- whether nothing stands behind the label and the role
abbrev pub is_bare : Record → Bool
is_bare r = not (list_any (λ text. nat_lt 0 (length text)) (drop 2 r))

-- whether a record of this role has values of these kinds, or none where it is absent
abbrev pub fits_role : Format → List Kind → Record → Option Role → Bool
fits_role f kinds r None = false
fits_role f kinds r (Some x) = if is_absent x then is_bare r else are_values f r 0 kinds

-- whether a record has this width, a role, and values of these kinds if it is an alternative
abbrev pub is_fitting : Format → ℕ → List Kind → Record → Bool
is_fitting f width kinds r = (length r == width) && fits_role f kinds r (role_of f r)

-- whether the column at a place with this written kind, or none, may be of a kind over some records: of the written one, or
-- else of numbers, or of texts where an alternative has no numeral there
abbrev pub IsSupposed : Format → List Record → ℕ → Option Kind → Kind → Type 0
IsSupposed f rows i None k = (k ≡ kind.Int) ⊎ ((k ≡ kind.Text) × (list_all (holds_numeral f i) rows ≡ false))
IsSupposed f rows i (Some w) k = k ≡ w

-- whether the columns from a place on with these written kinds may be of these kinds
abbrev pub AreSupposed : Format → List Record → ℕ → List (Option Kind) → List Kind → Type 0
AreSupposed f rows i [] [] = ⊤
AreSupposed f rows i [] (k ∷ kinds) = ⊥
AreSupposed f rows i (w ∷ written) [] = ⊥
AreSupposed f rows i (w ∷ written) (k ∷ kinds) = IsSupposed f rows i w k × AreSupposed f rows (i + 1) written kinds
