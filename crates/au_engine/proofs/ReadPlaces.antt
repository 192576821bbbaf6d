-- Places that are counted up, three more at a time, and what the encoded rows of a table are in the places that are read.
use Rattle.std.specs.Prelude.{◌≡◌, ◌+◌, ◌*◌, ℕ, List, [], ◌∷◌, ◌++◌, length, map, Option, Some, None, Vec}
use Rattle.std.specs.List.{range_with_len}
use Rattle.std.specs.declared.alloc.Global.{Global}
use Rattle.std.proofs.Common.{ap, arith, refl, sym, subst, ◌∙◌}
use Rattle.std.proofs.lemmas.List.{length-map}
use Rattle.std.proofs.lemmas.List.FromFn.{length-range_with_len}
use Rattle.au_value.specs.declared.kinds.Kind.{Kind}
use Rattle.au_value.specs.Order.{data_kind, kind_of}
use Rattle.au_algebra.specs.Ordinary.{Rows}
use Rattle.au_blocks.specs.declared.column.Column.{Column}
use Rattle.au_blocks.specs.Blocks.{Choices}
use Rattle.au_blocks.specs.Tables.{IsBlockTable, column_kinds, table}
use Rattle.au_translate.specs.Translate.{bounded_blocks, bounded_table}
use Rattle.au_translate.proofs.BlockRelation.{table_relation}
use Rattle.au_plain.specs.PlanKinds.{HaveKinds}
use Rattle.au_plain.proofs.Widths.{Wide}
use Rattle.au_passes.proofs.MarkLaws.{one_more}
use Rattle.au_passes.proofs.Narrowing.{all_itself}
use Rattle.au_encode.specs.Encode.{encode, encoded_kinds}
use Rattle.au_encode.proofs.EncodedKinds.{rows_have_kinds}
use Rattle.au_batches.specs.BlockRows.{block_rows}
use Rattle.au_program.specs.KeptRows.{kept_rows}
use Rattle.au_engine.specs.ReadPlaces.{places_in}
use Rattle.au_engine.proofs.WritableRows.{encoded_long}

-- ---- places

place_more : (n : ℕ) (old new : List ℕ) → old ≡ range_with_len 0 n → new ≡ old ++ length old ∷ [] → new ≡ range_with_len 0 (n + 1)
place_more n old new is put =
    put ∙ (λ i. is i ++ length (is i) ∷ []) ∙ ap (λ m. range_with_len 0 n ++ m ∷ []) (length-range_with_len 0 n) ∙ sym (one_more n)

pub three_more : (n : ℕ) (a b c d : List ℕ) → b ≡ a ++ length a ∷ [] → c ≡ b ++ length b ∷ [] → d ≡ c ++ length c ∷ [] → a ≡ range_with_len 0 n → d ≡ range_with_len 0 (n + 3)
three_more n a b c d first second third is =
    let all : d ≡ range_with_len 0 (n + 1 + 1 + 1) = place_more (n + 1 + 1) c d (place_more (n + 1) b c (place_more n a b is first) second) third in
    let count : n + 1 + 1 + 1 ≡ n + 3 = omega arith in
    subst (λ k. d ≡ range_with_len 0 k) count all

-- ---- rows

wide_by : (ks : List Kind) (rows : Rows) (n : ℕ) → length ks ≡ n → HaveKinds ks rows → Wide n rows
wide_by ks [] n long h = tt
wide_by ks (row ∷ rows) n long h = (sym (length-map row kind_of) ∙ (ap length h.0 ∙ long), wide_by ks rows n long h.1)

-- in all places the rows are as they were
pub all_read : (columns : List Column) (blocks : List Choices) (kept : Option (Vec ℕ Global)) → IsBlockTable (table columns blocks) → block_rows (places_in (length columns) kept) blocks ≡ kept_rows kept (encode (bounded_blocks blocks))
all_read columns blocks (Some places) ok = refl
all_read columns blocks None ok =
    let t = table columns blocks in
    let ks = column_kinds t in
    let long : length ks ≡ length columns = length-map columns (λ (c : Column). data_kind c.kind) in
    all_itself (3 * length columns + 3) (encode (bounded_blocks blocks))
    (wide_by (encoded_kinds ks) (encode (bounded_blocks blocks)) (3 * length columns + 3) (encoded_long ks ∙ ap (λ n. 3 * n + 3) long)
    (rows_have_kinds ks (bounded_table t) (table_relation t ok.table ok.blocks)))
