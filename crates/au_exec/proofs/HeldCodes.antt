-- Rows that are held as codes: where a book has no text they have no long one, and what a run gives are such rows.
use Rattle.std.specs.Prelude.{◌≡◌, ◌<◌, ◌||◌, Bool, true, false, List, [], ◌∷◌, length, map, None, Some, slice_get}
use Rattle.std.proofs.Common.{refl, sym, ap, subst, arith, ◌∙◌}
use Rattle.au_value.specs.declared.kinds.Kind.{Kind}
use Rattle.au_value.specs.declared.value.Value.{Value}
use Rattle.au_value.specs.declared.value.Value.TheVariants.{Int, Text, Flag}
use Rattle.au_algebra.specs.Ordinary.{Rows}
use Rattle.au_plain.specs.PlanKinds.{HaveKinds}
use Rattle.au_physical.specs.PhysicalMeaning.{physical_rows}
use Rattle.au_physical.specs.Physicals.{PhysicalTree}
use Rattle.au_codes.specs.Books.{Book, has}
use Rattle.au_codes.specs.Codes.{CellRows, Knows, KnowsRow, KnowsRows, coded_rows}
use Rattle.au_codes.specs.Decoding.{decoded_row}
use Rattle.au_codes.specs.Gathering.{with_row, with_rows, with_value}
use Rattle.au_codes.specs.TextCodes.{knows_text, text_code}
use Rattle.au_exec.specs.KnownKinds.{first_kinds}
use Rattle.au_exec.specs.Ready.{IsReady, ReadyPlansStand}
use Rattle.au_settled.specs.Coded.{IsCoded}

first_suffices : (b c : Bool) → (b || false) ≡ true → (b || c) ≡ true
first_suffices true c h = refl
first_suffices false c h = cc

value_adds : (texts : Book) (v : Value) → Knows (text_code []) v → with_value texts v ≡ texts
value_adds texts (Int n) k = refl
value_adds texts (Text w) k = let e : knows_text texts w ≡ true = first_suffices _ (has texts w) k in rw e
value_adds texts (Flag b) k = refl

row_adds : (texts : Book) (row : List Value) → KnowsRow (text_code []) row → with_row texts row ≡ texts
row_adds texts [] k = refl
row_adds texts (v ∷ row) k = ap (λ t. with_row t row) (value_adds texts v k.0) ∙ row_adds texts row k.1

rows_add : (texts : Book) (rows : Rows) → KnowsRows (text_code []) rows → with_rows texts rows ≡ texts
rows_add texts [] k = refl
rows_add texts (row ∷ rows) k = ap (λ t. with_rows t rows) (row_adds texts row k.0) ∙ rows_add texts rows k.1

-- a book that has no first text has none
pub no_first : (book : Book) → None ≡ slice_get book 0 → book ≡ []
no_first [] h = refl
no_first (w ∷ ws) h = cc

-- rows that a book without texts knows add nothing
pub nothing_added : (book texts : Book) (rows : Rows) → book ≡ [] → KnowsRows (text_code book) rows → texts ≡ with_rows texts rows
nothing_added book texts rows none k = sym (rows_add texts rows (subst (λ b. KnowsRows (text_code b) rows) none k))

-- the kinds of the first row
pub kinds_of_first : (kinds : List Kind) (rows : Rows) → HaveKinds kinds rows → 0 < length rows → Some kinds ≡ first_kinds rows
kinds_of_first kinds [] h some = absurd (omega (arith, some))
kinds_of_first kinds (row ∷ rows) h some = ap Some (sym h.0)

-- the codes of a plan's rows are such
module _ (book : Book) (kinds : List Kind) (p : PhysicalTree) (ts : List Rows) (cells : CellRows) (laws : ReadyPlansStand) (ready : IsReady book kinds p ts) (is : cells ≡ coded_rows (text_code book) (physical_rows p ts)) where
  pub given_rows : map (decoded_row book kinds) cells ≡ physical_rows p ts
  given_rows = ap (map (decoded_row book kinds)) is ∙ laws.rows book kinds p ts ready

  pub given_codes : IsCoded book kinds cells
  given_codes = record {
    is_book = ready.is_book;
    are_codes = is ∙ ap (coded_rows (text_code book)) (sym given_rows);
    knows = subst (KnowsRows (text_code book)) (sym given_rows) (laws.knows book kinds p ts ready);
    have_kinds = subst (HaveKinds kinds) (sym given_rows) ready.have_kinds;
  }
