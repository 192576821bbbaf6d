-- The tables' rows with pairs have the columns' kinds, and so the answer of a typed positive tree has those of the tree.
use Rattle.std.specs.Prelude.{◌≡◌, ℕ, suc, Bool, true, false, List, [], ◌∷◌, length, map, Some, is_some}
use Rattle.std.specs.List.{AllByRecursion, AllZip}
use Rattle.std.proofs.Common.{refl, sym, ◌∙◌, ap, subst}
use Rattle.std.proofs.lemmas.Bool.{true≢false}
use Rattle.std.proofs.lemmas.List.{length-map}
use Rattle.au_value.specs.declared.kinds.Kind.{Kind}
use Rattle.au_value.specs.declared.value.Value.{Value}
use Rattle.au_value.specs.Order.{data_kind}
use Rattle.au_annot.specs.Pairs.{IsPair}
use Rattle.au_expr.specs.Ordinary.{IsKind}
use Rattle.au_algebra.specs.Positive.{is_positive}
use Rattle.au_algebra.specs.Trees.{Tree}
use Rattle.au_algebra.specs.Typing.{kinds_of}
use Rattle.au_blocks.specs.Tables.{BlockTable, IsBlockTable, column_kinds}
use Rattle.au_blocks.specs.declared.column.Column.{Column}
use Rattle.au_keval.specs.Evaluation.{HasRows}
use Rattle.au_keval.specs.Reading.{IsPositiveOver, IsRelationOver}
use Rattle.au_ua.specs.Relations.{PairRow}
use Rattle.au_ua.specs.UaTables.{ua_table}
use Rattle.au_ua.proofs.BlockRows.{table_relation}

abbrev ArePairs : List Kind → List PairRow → Type 0
ArePairs ks rows = IsRelationOver IsKind IsPair ks rows

tables_kinds : (ts : List BlockTable) → AllByRecursion IsBlockTable ts → AllZip ArePairs (map column_kinds ts) (map ua_table ts)
tables_kinds [] ok = tt
tables_kinds (t ∷ ts) ok = (table_relation t ok.0.table ok.0.blocks, tables_kinds ts ok.1)

held : (ts : List BlockTable) (rows : List (List PairRow)) → rows ≡ map ua_table ts → AllByRecursion IsBlockTable ts → AllZip ArePairs (map column_kinds ts) rows
held ts rows e ok = subst (AllZip ArePairs (map column_kinds ts)) (sym e) (tables_kinds ts ok)

-- a typed positive tree may be answered over them
pub can_pair : (ts : List BlockTable) (q : Tree) (ks : List Kind) (rows : List (List PairRow)) → kinds_of (map column_kinds ts) q ≡ Some ks → is_positive q ≡ true
    → rows ≡ map ua_table ts → AllByRecursion IsBlockTable ts → IsPositiveOver IsKind IsPair q rows
can_pair ts q ks rows typed p e ok = record { kinds = map column_kinds ts; tables = held ts rows e ok; typed = ap is_some typed; positive = p }

-- ---- widths

pub same_length : (ks : List Kind) (row : List Value) → AllZip IsKind ks row → length row ≡ length ks
same_length [] [] h = refl
same_length [] (v ∷ row) h = elim h [ ]
same_length (k ∷ ks) [] h = elim h [ ]
same_length (k ∷ ks) (v ∷ row) h = ap suc (same_length ks row h.1)

widths : (ks : List Kind) (n : ℕ) (rows : List PairRow) → length ks ≡ n → ArePairs ks rows → AllByRecursion (λ r. length r.cells ≡ n) rows
widths ks n [] e h = tt
widths ks n (r ∷ rows) e h = (same_length ks r.cells h.0.cells ∙ e, widths ks n rows e h.1)

pub pair_widths : (ts : List BlockTable) (q : Tree) (kinds : List Kind) (given : List (List PairRow)) (found : List PairRow)
    → kinds_of (map column_kinds ts) q ≡ Some (map data_kind kinds) → given ≡ map ua_table ts → AllByRecursion IsBlockTable ts → HasRows IsKind IsPair q given found
    → AllByRecursion (λ r. length r.cells ≡ length kinds) found
pair_widths ts q kinds given found typed e ok has =
    widths (map data_kind kinds) (length kinds) found (length-map kinds data_kind) (has (map column_kinds ts) (map data_kind kinds) (held ts given e ok) typed)

-- as many values as the columns have names
pub pairs_named : (names : List (List ℕ)) (kinds : List Kind) (columns : List Column) (found : List PairRow)
    → names ≡ map (λ c. c.name) columns → kinds ≡ map (λ c. c.kind) columns
    → AllByRecursion (λ r. length r.cells ≡ length kinds) found → AllByRecursion (λ r. length r.cells ≡ length names) found
pairs_named names kinds columns found named are h =
    let wide : length kinds ≡ length names = ap length are ∙ length-map columns (λ c. c.kind) ∙ sym (ap length named ∙ length-map columns (λ c. c.name)) in
    subst (λ n. AllByRecursion (λ (r : PairRow). length r.cells ≡ n) found) wide h

-- ---- numbers

-- what fits where another does leaves the range only where that does
pub left_behind : (a b : Bool) → (a ≡ true → b ≡ true) → b ≡ false → a ≡ false
left_behind true b along e = absurd (true≢false (sym (along refl) ∙ e))
left_behind false b along e = refl
