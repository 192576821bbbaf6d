-- Rows of ranges with a triple as plain rows: lo, sg and hi of each column, then least, guess and most.
-- Besides, what such a row reads back to.
use Rattle.std.specs.Prelude.{◌≡◌, ◌≤◌, ℕ, zero, suc, List, [], ◌∷◌, ◌++◌, length, map, pos, nat_abs}
use Rattle.std.specs.List.{AllByRecursion}
use Rattle.au_value.specs.declared.kinds.Kind.{Kind}
use Rattle.au_value.specs.declared.kinds.Kind.TheVariants as kind
use Rattle.au_value.specs.declared.value.Value.{Value}
use Rattle.au_value.specs.declared.value.Value.TheVariants.{Int}
use Rattle.au_value.specs.Ranges.{Span, IsRange, range}
use Rattle.au_annot.specs.Triples.{Counts, counts}
use Rattle.au_expr.specs.Ordinary.{number}
use Rattle.au_algebra.specs.Entries.{entry}
use Rattle.au_algebra.specs.Bounded.{RangeRow, Bounded}
use Rattle.au_algebra.specs.Laws.{IsRangeRow}

-- lo, sg and hi of each range
abbrev pub encode_cells : List Span → List Value
encode_cells [] = []
encode_cells (r ∷ rs) = r.lo ∷ r.sg ∷ r.hi ∷ encode_cells rs

abbrev pub encode_counts : Counts → List Value
encode_counts t = Int (pos t.least) ∷ Int (pos t.guess) ∷ Int (pos t.most) ∷ []

abbrev pub encode_row : RangeRow → List Value
encode_row r = encode_cells r.cells ++ encode_counts r.annot

abbrev pub encode : Bounded → List (List Value)
encode rows = map encode_row rows

-- the kinds of encoded rows: each kind three times, then three of whole numbers
abbrev pub triple_kinds : List Kind → List Kind
triple_kinds [] = []
triple_kinds (k ∷ ks) = k ∷ k ∷ k ∷ triple_kinds ks

abbrev pub encoded_kinds : List Kind → List Kind
encoded_kinds ks = triple_kinds ks ++ kind.Int ∷ kind.Int ∷ kind.Int ∷ []

-- the count of a value
abbrev pub value_count : Value → ℕ
value_count v = nat_abs (number v)

-- the triple of the first three values
abbrev pub decode_counts : List Value → Counts
decode_counts (l ∷ g ∷ m ∷ vs) = counts (value_count l) (value_count g) (value_count m)
decode_counts _ = counts 0 0 0

-- so many ranges from the front, then a triple
abbrev pub decode_cells : ℕ → List Value → List Span
decode_cells (suc c) (l ∷ s ∷ h ∷ vs) = range l s h ∷ decode_cells c vs
decode_cells _ _ = []

abbrev pub decode_annot : ℕ → List Value → Counts
decode_annot zero vs = decode_counts vs
decode_annot (suc c) (l ∷ s ∷ h ∷ vs) = decode_annot c vs
decode_annot _ _ = counts 0 0 0

abbrev pub decode_row : ℕ → List Value → RangeRow
decode_row c vs = entry (decode_cells c vs) (decode_annot c vs)

abbrev pub decode : ℕ → List (List Value) → Bounded
decode c rows = map (decode_row c) rows

-- least, guess and most in order, and a copy is possible
abbrev pub AreCounts : List Value → Type 0
AreCounts (Int (pos l) ∷ Int (pos g) ∷ Int (pos m) ∷ []) = (l ≤ g) × (g ≤ m) × (1 ≤ m)
AreCounts _ = ⊥

-- a plain row is an encoding with so many columns
abbrev pub IsEncoded : ℕ → List Value → Type 0
IsEncoded zero vs = AreCounts vs
IsEncoded (suc c) (l ∷ s ∷ h ∷ vs) = IsRange (range l s h) × IsEncoded c vs
IsEncoded _ _ = ⊥

-- each row is one
abbrev pub AreEncoded : ℕ → List (List Value) → Type 0
AreEncoded c rows = AllByRecursion (IsEncoded c) rows

-- each row has so many ranges
abbrev pub HaveColumns : ℕ → Bounded → Type 0
HaveColumns c rows = AllByRecursion (λ r. length r.cells ≡ c) rows

-- a plain row encodes a row of ranges of these kinds, of which a copy is possible
pub record IsEncoding (ks : List Kind) (row : List Value) : Type 0 where
  pub source : RangeRow
  pub valid : IsRangeRow ks source
  pub encoded : row ≡ encode_row source

-- each row is one
abbrev pub AreEncodings : List Kind → List (List Value) → Type 0
AreEncodings ks rows = AllByRecursion (IsEncoding ks) rows
