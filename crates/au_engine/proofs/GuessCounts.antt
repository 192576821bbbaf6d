-- How many guess rows a table has, and that the text of rows is at least as long as their values are many.
use Rattle.std.proofs.Common.{◌≡◌, ℕ, zero, suc, ◌+◌, ◌*◌, ◌<◌, ◌≤◌, List, [], ◌∷◌, ◌++◌, length, map, Option, Some, None, refl, ap, sym, ◌∙◌, arith}
use Rattle.std.specs.Prelude.{if◌then◌else◌, replicate, slice_get, sum, option_and_then, option_map, unwrap_or}
use Rattle.std.specs.List.{AllByRecursion, flat_map}
use Rattle.std.proofs.lemmas.List.{length-append, length-map}
use Rattle.std.proofs.lemmas.List.Sums.{sum_by-cons}
use Rattle.csv.specs.Writing.{default_writer, field_text, fields_text, is_blank, row_body}
use Rattle.au_value.specs.declared.kinds.Kind.{Kind}
use Rattle.au_value.specs.declared.value.Value.{Value}
use Rattle.au_value.specs.Order.{data_kind, kind_of}
use Rattle.au_value.specs.Ranges.{guesses}
use Rattle.au_blocks.specs.declared.column.Column.{Column}
use Rattle.au_blocks.specs.Blocks.{Choices, IsBlock, MayMark, candidate, once}
use Rattle.au_blocks.specs.Tables.{BlockTable, IsBlockTable, column_kinds}
use Rattle.au_blocks.specs.Worlds.{chosen, guess_choice, rows_in, taken}
use Rattle.au_algebra.specs.Ordinary.{Rows}
use Rattle.au_translate.specs.Translate.{bounded_table, guessed_copies}
use Rattle.au_translate.proofs.BlockRelation.{place_within}
use Rattle.au_plain.specs.PlanKinds.{HaveKinds}
use Rattle.au_sqltext.specs.Records.{cell_field, header_from, record_text, rows_text}
use Rattle.au_encode.specs.Encode.{encode, encoded_kinds}
use Rattle.au_engine.specs.Exchange.{encoded_text, guess_row_count, plain_size}
use Rattle.au_engine.specs.EncodedTables.{AreWritable, IsEncodedTable, IsTableOf, IsWritableTable}
use Rattle.au_engine.proofs.ReadValues.{read_good}
use Rattle.au_engine.proofs.WritableRows.{encoded_writable, kinds_again}

-- ---- the guess rows of a table are as many as are guessed

long_replicate : (n : ℕ) (row : List Value) → length (replicate n row) ≡ n
long_replicate zero row = refl
long_replicate (suc n) row = ap suc (long_replicate n row)

marked_count : (b : Choices) (o : Option ℕ) → MayMark b o
    → length (chosen (option_and_then (λ i. option_map (λ a. taken i (guesses a.cells) a.copies.guess) (slice_get b.alternatives i)) o))
    ≡ unwrap_or (option_map (λ (i : ℕ). (unwrap_or (slice_get b.alternatives (unwrap_or o 0)) (candidate [] once)).copies.guess) o) 0
marked_count b None h = refl
marked_count b (Some i) h =
    let a = unwrap_or (slice_get b.alternatives i) (candidate [] once) in
    ap (λ c. length (chosen (option_map (λ x. taken i (guesses x.cells) x.copies.guess) c))) (place_within b.alternatives (candidate [] once) i h)
    ∙ long_replicate a.copies.guess (guesses a.cells)

pub counted : (bs : List Choices) → AllByRecursion IsBlock bs → length (rows_in bs (map guess_choice bs)) ≡ sum (map guessed_copies bs)
counted [] ok = refl
counted (b ∷ bs) ok =
    let own = marked_count b b.guess ok.0.guess in
    let more = counted bs ok.1 in
    length-append (chosen (guess_choice b)) (rows_in bs (map guess_choice bs))
    ∙ omega (arith, own, more, sum_by-cons (λ (n : ℕ). n) (guessed_copies b) (map guessed_copies bs))

-- ---- the length of a text of rows

behind_long : (fields : List (List ℕ)) → length fields ≤ length (fields_text default_writer fields)
unfolding fields_text
behind_long [] = omega arith
behind_long (f ∷ fs) =
    let more = behind_long fs in
    let both = length-append (field_text default_writer f) (fields_text default_writer fs) in
    omega (arith, more, both)

text_long : (body middle : List ℕ) → length body + 1 ≤ length (body ++ (middle ++ 10 ∷ []))
text_long body middle = omega (arith, length-append body (middle ++ 10 ∷ []), length-append middle (10 ∷ []))

record_long : (f : List ℕ) (fs : List (List ℕ)) → length (f ∷ fs) ≤ length (record_text (f ∷ fs))
unfolding record_text
record_long f fs =
    let more = behind_long fs in
    let body = length-append (field_text default_writer f) (fields_text default_writer fs) in
    let whole = text_long (row_body default_writer (f ∷ fs)) (if is_blank default_writer (f ∷ fs) then 34 ∷ 34 ∷ [] else []) in
    omega (arith, more, body, whole)

row_long : (row : List Value) → 0 < length row → length row ≤ length (record_text (map cell_field row))
row_long [] some = absurd (omega arith)
row_long (v ∷ row) some = let own = record_long (cell_field v) (map cell_field row) in omega (arith, own, length-map row cell_field)

rows_long : (ks : List Kind) (rows : Rows) → 0 < length ks → HaveKinds ks rows
    → length rows * (length ks + 1) ≤ 2 * length (flat_map (λ row. record_text (map cell_field row)) rows)
rows_long ks [] some h = omega arith
rows_long ks (row ∷ rows) some h =
    let wide : length row ≡ length ks = sym (length-map row kind_of) ∙ ap length h.0 in
    let own = row_long row (omega (arith, wide)) in
    let more = rows_long ks rows some h.1 in
    let both = length-append (record_text (map cell_field row)) (flat_map (λ r. record_text (map cell_field r)) rows) in
    omega (arith, wide, own, more, both)

pub size_small : (ks : List Kind) (rows : Rows) (t : BlockTable) → AreWritable ks rows → IsTableOf ks rows t → plain_size t ≤ 2 * length (rows_text ks rows)
size_small ks rows t h is =
    let ok = (read_good (rows_text ks rows) t is.reads).0 in
    let count : guess_row_count t ≡ length rows = sym (counted t.blocks ok.blocks) ∙ ap length is.guesses in
    let wide : length t.columns ≡ length ks = sym (length-map t.columns (λ (c : Column). data_kind c.kind)) ∙ ap length is.columns ∙ length-map ks data_kind in
    let long = rows_long ks rows h.some h.kinds in
    let whole = length-append (record_text (header_from 0 ks)) (flat_map (λ row. record_text (map cell_field row)) rows) in
    rw (count, wide) (omega (arith, long, whole))

pub encoded_size : (t u : BlockTable) → IsBlockTable t → IsWritableTable t → length t.columns ≤ 20 → IsEncodedTable t u → plain_size u ≤ 2 * length (encoded_text t)
encoded_size t u ok h few is =
    size_small (encoded_kinds (column_kinds t)) (encode (bounded_table t)) u (encoded_writable t ok h few)
    (record { reads = is.reads; columns = is.columns ∙ sym (kinds_again t.columns); guesses = is.guesses })
