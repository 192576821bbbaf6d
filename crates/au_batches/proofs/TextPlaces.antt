-- Where no text stands, none is added.
use Rattle.std.specs.Prelude.{◌≡◌, ◌<◌, ◌≤◌, ◌+◌, ◌*◌, ◌/◌, ◌%◌, ℕ, zero, suc, true, false, List, [], ◌∷◌, length, map, get_or}
use Rattle.std.proofs.Common.{refl, sym, ap, ◌∙◌, arith}
use Rattle.au_value.specs.declared.kinds.Kind.{Kind}
use Rattle.au_value.specs.declared.kinds.Kind.TheVariants as kind
use Rattle.au_value.specs.declared.value.Value.{Value}
use Rattle.au_value.specs.declared.value.Value.TheVariants.{Int, Text, Flag}
use Rattle.au_value.specs.Order.{data_kind, kind_eq, kind_of}
use Rattle.au_blocks.specs.declared.column.Column.{Column}
use Rattle.au_blocks.specs.Tables.{column_kinds, table}
use Rattle.au_algebra.specs.Lists.{value_at}
use Rattle.au_algebra.specs.Ordinary.{Rows}
use Rattle.au_plain.specs.PlanKinds.{HaveKinds}
use Rattle.au_encode.specs.Encode.{encoded_kinds}
use Rattle.au_codes.specs.Books.{Book}
use Rattle.au_codes.specs.Gathering.{with_row, with_value}
use Rattle.au_batches.specs.TextPlaces.{is_text_at}

-- a value that is no text adds none
AddsNone : Value → Type 0
AddsNone v = (texts : Book) → with_value texts v ≡ texts

no_text : (v : Value) (k : Kind) → kind_of v ≡ k → kind_eq kind.Text k ≡ false → AddsNone v
unfolding AddsNone
no_text (Int n) k e h = λ texts. refl
no_text (Text w) k e h = let never : true ≡ false = ap (kind_eq kind.Text) e ∙ h in cc
no_text (Flag b) k e h = λ texts. refl

-- the counts, and what is past them
count_place : (row : List Value) (n : ℕ) → map kind_of row ≡ kind.Int ∷ kind.Int ∷ kind.Int ∷ [] → AddsNone (value_at row n)
unfolding AddsNone
count_place [] n e = λ texts. refl
count_place (a ∷ []) n e = cc
count_place (a ∷ b ∷ []) n e = cc
count_place (a ∷ b ∷ d ∷ x ∷ row) n e = cc
count_place (a ∷ b ∷ d ∷ []) zero e = let is : kind_of a ≡ kind.Int = cc in no_text a kind.Int is refl
count_place (a ∷ b ∷ d ∷ []) (suc zero) e = let is : kind_of b ≡ kind.Int = cc in no_text b kind.Int is refl
count_place (a ∷ b ∷ d ∷ []) (suc (suc zero)) e = let is : kind_of d ≡ kind.Int = cc in no_text d kind.Int is refl
count_place (a ∷ b ∷ d ∷ []) (suc (suc (suc n))) e = λ texts. refl

-- the values of a column
value_place : (ks : List Kind) (row : List Value) (n at k : ℕ) → n ≡ 3 * at + k → k < 3 → map kind_of row ≡ encoded_kinds ks → is_text_at ks at ≡ false → AddsNone (value_at row n)
value_place [] row n at k place part e h = count_place row n e
value_place (j ∷ ks) (a ∷ b ∷ d ∷ row) zero zero k place part e h = let is : kind_of a ≡ j = cc in no_text a j is h
value_place (j ∷ ks) (a ∷ b ∷ d ∷ row) (suc zero) zero k place part e h = let is : kind_of b ≡ j = cc in no_text b j is h
value_place (j ∷ ks) (a ∷ b ∷ d ∷ row) (suc (suc zero)) zero k place part e h = let is : kind_of d ≡ j = cc in no_text d j is h
value_place (j ∷ ks) (a ∷ b ∷ d ∷ row) (suc (suc (suc n))) zero k place part e h = let never : ⊥ = omega (arith, place, part) in absurd never
value_place (j ∷ ks) (a ∷ b ∷ d ∷ row) (suc (suc (suc n))) (suc at) k place part e h =
    let rest : map kind_of row ≡ encoded_kinds ks = cc in
    value_place ks row n at k (omega (arith, place)) part rest h
value_place (j ∷ ks) (a ∷ b ∷ d ∷ row) zero (suc at) k place part e h = let never : ⊥ = omega (arith, place) in absurd never
value_place (j ∷ ks) (a ∷ b ∷ d ∷ row) (suc zero) (suc at) k place part e h = let never : ⊥ = omega (arith, place) in absurd never
value_place (j ∷ ks) (a ∷ b ∷ d ∷ row) (suc (suc zero)) (suc at) k place part e h = let never : ⊥ = omega (arith, place) in absurd never
value_place (j ∷ ks) [] n at k place part e h = cc
value_place (j ∷ ks) (a ∷ []) n at k place part e h = cc
value_place (j ∷ ks) (a ∷ b ∷ []) n at k place part e h = cc

-- rows in whose place no text stands
pub none_added : (ks : List Kind) (rows : Rows) (p : ℕ) → HaveKinds (encoded_kinds ks) rows → is_text_at ks (p / 3) ≡ false → (texts : Book) → texts ≡ with_row texts (map (λ row. value_at row p) rows)
unfolding AddsNone
none_added ks [] p have h texts = refl
none_added ks (row ∷ rows) p have h texts =
    none_added ks rows p have.1 h texts
    ∙ sym (ap (λ t. with_row t (map (λ r. value_at r p) rows)) (value_place ks row p (p / 3) (p % 3) (omega arith) (omega arith) have.0 h texts))

-- the kind of a column, and none past the last
pub text_column : (columns : List Column) (at : ℕ) (d : Column) → at < length columns → kind_eq kind.Text (data_kind (get_or columns at d).kind) ≡ is_text_at (column_kinds (table columns [])) at
text_column [] at d below = let never : ⊥ = omega (arith, below) in absurd never
text_column (x ∷ columns) zero d below = refl
text_column (x ∷ columns) (suc at) d below = text_column columns at d (omega (arith, below))

pub past_columns : (columns : List Column) (at : ℕ) → length columns ≤ at → false ≡ is_text_at (column_kinds (table columns [])) at
past_columns [] at past = refl
past_columns (x ∷ columns) zero past = let never : ⊥ = omega (arith, past) in absurd never
past_columns (x ∷ columns) (suc at) past = past_columns columns at (omega (arith, past))
