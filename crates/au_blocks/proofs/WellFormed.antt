-- The table of records without a defect is well-formed.
use Rattle.std.proofs.Common.{◌≡◌, ℕ, zero, suc, ◌+◌, ◌-◌, ◌^◌, ◌<◌, ◌≤◌, Bool, true, false, cond, ◌||◌, ◌&&◌, ℤ, List, [], ◌∷◌, ◌++◌, length, map, get_or, Option, Some, None, inl, inr, refl, sym, ap, ◌∙◌, arith, subst, eqb, ltb}
use Rattle.std.specs.Prelude.{not, filter, flat_map, zip, count_by, position, is_some, is_none, unwrap_or, option_map, option_and_then, IfSome, bytes_eq, codes, nat_le}
use Rattle.std.specs.List.{list_any, list_all, enumerate_from, cons_option, AllByRecursion}
use Rattle.std.specs.Option.{option_or}
use Rattle.std.specs.Str.Parse.{digits_value}
use Rattle.std.specs.Cmp.Lexicographic.{pointwise}
use Rattle.std.proofs.lemmas.Bool.{cases_Bool, eqb-true, and_parts, and_from}
use Rattle.std.proofs.lemmas.List.{length-map, length-drop}
use Rattle.std.proofs.lemmas.List.Quantifiers.{position-Some}
use Rattle.std.proofs.lemmas.List.FromFn.{length-enumerate_from}
use Rattle.au_value.specs.declared.kinds.Kind.{Kind}
use Rattle.au_value.specs.declared.kinds.Kind.TheVariants as kind
use Rattle.au_value.specs.declared.value.Value.{Value}
use Rattle.au_value.specs.declared.value.Value.TheVariants as value
use Rattle.au_value.specs.Lists.{distinct}
use Rattle.au_value.specs.Numeral.{numeral_value}
use Rattle.au_value.specs.Order.{kind_of, kind_eq, data_kind, is_column_kind, at_most}
use Rattle.au_value.specs.Ranges.{Span, range, certain}
use Rattle.au_value.proofs.OrderLaws.{at_most_refl}
use Rattle.au_csv.specs.Texts.{Record}
use Rattle.au_blocks.specs.declared.column.Column.{Column}
use Rattle.au_blocks.specs.declared.format.Format.{Format}
use Rattle.au_blocks.specs.declared.format.Format.TheVariants as format
use Rattle.au_blocks.specs.declared.role.Role.{Role}
use Rattle.au_blocks.specs.declared.faults.TableFault.{TableFault}
use Rattle.au_blocks.specs.declared.faults.TableFault.TheVariants as fault
use Rattle.au_blocks.specs.Blocks.{Copies, IsCopies, once, copies_of, Choices, IsBlock, MayMark}
use Rattle.au_blocks.specs.Tables.{IsBlockTable, table, fits_kinds, is_range_of}
use Rattle.au_blocks.specs.Headers.{format_of, has_blocks, has_copies, lead, cells_of, cut, kind_named, column_name, column_names, written_kind, written_kinds}
use Rattle.au_blocks.specs.Spellings.{Parts, parts, three, number_range, number_written, value_written, range_written, field_written, is_count, count_written, ordered_copies, copies_written}
use Rattle.au_blocks.specs.Entries.{BlockEntry, block_entry, field, role_of, is_marked, is_absent, has_role, written_copies, copies_in, block_entry_of, entries_of, alternatives, label_of, labelled, entry_blocks}
use Rattle.au_blocks.specs.Columns.{is_wide}
use Rattle.au_blocks.specs.Inferring.{is_numeral, inferred, inferred_kind, column_kind, inferred_kinds, is_alternative, holds_numeral}
use Rattle.au_blocks.specs.Defects.{where_true, is_field, bad_fields, alternative_defects, role_defects, record_defects, rows_defects, block_defects, blocks_defects, schema_defects}
use Rattle.au_blocks.specs.Read.{cell, row, candidate_of, block_of, columns_of, header_kinds, header_columns, first}
use Rattle.au_blocks.proofs.Tallying.{any-count}
use Rattle.au_blocks.proofs.InferredKinds.{inferred_kind-rows}
use Rattle.au_blocks.proofs.Places.{no-position}

-- two parts without a defect
first-parts : (xs ys : List TableFault) → first (xs ++ ys) ≡ None → (first xs ≡ None) × (first ys ≡ None)
first-parts [] ys none = (refl, none)
first-parts (x ∷ xs) ys none = cc

where-false : (b : Bool) (x : TableFault) → first (where_true b x) ≡ None → b ≡ false
where-false true x none = cc
where-false false x none = refl

-- each item of a list without a defect
scan-item : {X : Type 0} (f : ℕ × X → List TableFault) (n : ℕ) (xs : List X) → first (flat_map f (enumerate_from n xs)) ≡ None
    → (i : ℕ) (d : X) → i < length xs → first (f (n + i, get_or xs i d)) ≡ None
scan-item f n [] none i d within = absurd (omega arith)
scan-item f n (x ∷ xs) none zero d within =
    let e : n + 0 ≡ n = omega arith in rw e (first-parts (f (n, x)) (flat_map f (enumerate_from (n + 1) xs)) none).0
scan-item f n (x ∷ xs) none (suc i) d within =
    let e : n + suc i ≡ n + 1 + i = omega arith in
    rw e (scan-item f (n + 1) xs (first-parts (f (n, x)) (flat_map f (enumerate_from (n + 1) xs)) none).1 i d (omega arith))

-- a test of each item, by its place
all-by-place : {X : Type 0} (p : X → Bool) (d : X) (xs : List X) → ((i : ℕ) → i < length xs → p (get_or xs i d) ≡ true) → list_all p xs ≡ true
all-by-place p d [] each = refl
all-by-place p d (x ∷ xs) each = and_from (p x) (list_all p xs) (each 0 (omega arith)) (all-by-place p d xs (λ i h. each (suc i) (omega arith)))

pub place-of-all : {X : Type 0} (p : X → Bool) (d : X) (xs : List X) → list_all p xs ≡ true → (i : ℕ) → i < length xs → p (get_or xs i d) ≡ true
place-of-all p d [] all i within = absurd (omega arith)
place-of-all p d (x ∷ xs) all zero within = (and_parts (p x) (list_all p xs) all).0
place-of-all p d (x ∷ xs) all (suc i) within = place-of-all p d xs (and_parts (p x) (list_all p xs) all).1 i (omega arith)

-- each record has a role
some-role : (f : Format) (n : ℕ) (written : List (Option Kind)) (r : Record) (o : Option Role) → first (role_defects f n written r o) ≡ None → is_some o ≡ true
some-role f n written r None none = cc
some-role f n written r (Some x) none = refl

role-named : (f : Format) (r : Record) → has_blocks f ≡ true → is_some (role_of f r) ≡ true → has_role r ≡ true
role-named f r blocks some = rw blocks at some

pub roles-of : (header : Record) (rows : List Record) → first (schema_defects header rows) ≡ None → has_blocks (format_of header) ≡ true → list_all has_role rows ≡ true
roles-of header rows none blocks =
    let B = format_of header in
    let written = written_kinds (cells_of B header) in
    let sound = (first-parts _ (rows_defects B (length header) written rows) none).1 in
    all-by-place has_role [] rows
    (λ i h.
    let r = get_or rows i [] in
    let at = scan-item (record_defects B (length header) written) 1 rows sound i [] h in
    let roles = (first-parts (where_true (not (eqb (length r) (length header))) (fault.WrongWidth (1 + i))) (role_defects B (1 + i) written r (role_of B r)) at).1 in
    role-named B r blocks (some-role B (1 + i) written r (role_of B r) roles))

-- the cells of a row are of the kinds
certain-fits : (k : Kind) (v : Value) → kind_eq k (kind_of v) ≡ true → is_range_of k (certain v) ≡ true
certain-fits k v here = rw (here, at_most_refl v) refl

-- a range of numbers in order is one of their kind
ordered-fits : (a b : Bool) (lo guess hi : ℤ) (d : Span) → at_most (value.Int lo) (value.Int guess) ≡ a → at_most (value.Int guess) (value.Int hi) ≡ b
    → is_some (number_range lo guess hi) ≡ true → is_range_of kind.Int (unwrap_or (number_range lo guess hi) d) ≡ true
ordered-fits true true lo guess hi d low high some =
    let e : number_range lo guess hi ≡ Some (range (value.Int lo) (value.Int guess) (value.Int hi)) = rw (low, high) refl in
    subst (λ o. is_range_of kind.Int (unwrap_or o d) ≡ true) (sym e) (and_from _ _ low high)
ordered-fits true false lo guess hi d low high some = let no : false ≡ true = rw (low, high) at some in cc
ordered-fits false b lo guess hi d low high some = let no : false ≡ true = rw low at some in cc

three-fits : (a b c : Option ℤ) (d : Span) → is_some (three number_range a b c) ≡ true → is_range_of kind.Int (unwrap_or (three number_range a b c) d) ≡ true
three-fits None b c d some = cc
three-fits (Some x) None c d some = cc
three-fits (Some x) (Some y) None d some = cc
three-fits (Some x) (Some y) (Some z) d some = ordered-fits _ _ x y z d refl refl some

parts-fit : (o : Option Parts) (a b c : Parts → Option ℤ) (d : Span) → is_some (option_and_then (λ p. three number_range (a p) (b p) (c p)) o) ≡ true
    → is_range_of kind.Int (unwrap_or (option_and_then (λ p. three number_range (a p) (b p) (c p)) o) d) ≡ true
parts-fit None a b c d some = cc
parts-fit (Some p) a b c d some = three-fits (a p) (b p) (c p) d some

no-parts : (o : Option Parts) → option_and_then (λ (p : Parts). three number_range None None None) o ≡ None
no-parts None = refl
no-parts (Some p) = refl

-- the number that a field writes, or else the range
number-fits : (o : Option ℤ) (r : Option Span) (d : Span) → (is_some r ≡ true → is_range_of kind.Int (unwrap_or r d) ≡ true)
    → is_some (option_or (option_map certain (option_map value.Int o)) r) ≡ true → is_range_of kind.Int (unwrap_or (option_or (option_map certain (option_map value.Int o)) r) d) ≡ true
number-fits None r d ranged some = ranged some
number-fits (Some n) r d ranged some = certain-fits kind.Int (value.Int n) refl

flag-fits : (a b : Bool) (d : Span) → is_some (option_or (option_map certain (cond a (Some (value.Flag true)) (cond b (Some (value.Flag false)) None))) None) ≡ true
    → is_range_of kind.Flag (unwrap_or (option_or (option_map certain (cond a (Some (value.Flag true)) (cond b (Some (value.Flag false)) None))) None) d) ≡ true
flag-fits true b d some = refl
flag-fits false true d some = refl
flag-fits false false d some = cc

cell-fits : (k : Kind) (t : List ℕ) → is_some (field_written k t) ≡ true → is_range_of (data_kind k) (cell (k, t)) ≡ true
cell-fits kind.Int t some =
    number-fits (number_written kind.Int t) (range_written kind.Int t) (certain (value.Text t))
    (parts-fit (parts t) (λ p. number_written kind.Int p.first) (λ p. number_written kind.Int p.second) (λ p. number_written kind.Int p.third) (certain (value.Text t))) some
cell-fits (kind.Dec n) t some =
    number-fits (number_written (kind.Dec n) t) (range_written (kind.Dec n) t) (certain (value.Text t))
    (parts-fit (parts t) (λ p. number_written (kind.Dec n) p.first) (λ p. number_written (kind.Dec n) p.second) (λ p. number_written (kind.Dec n) p.third) (certain (value.Text t))) some
cell-fits kind.Text t some = certain-fits kind.Text (value.Text t) refl
cell-fits kind.Flag t some =
    let none = no-parts (parts t) in
    rw none (flag-fits (bytes_eq t (codes "true")) (bytes_eq t (codes "false")) (certain (value.Text t)) (rw none at some))

-- whether each text writes a value or a range of its kind
abbrev are_fields : List Kind → Record → Bool
are_fields kinds cells = pointwise (λ k t. is_some (field_written k t)) kinds cells

row-fits : (kinds : List Kind) (cells : Record) → are_fields kinds cells ≡ true → fits_kinds (map data_kind kinds) (row kinds cells) ≡ true
row-fits [] cells fields = no-cells cells fields where
  no-cells : (cells : Record) → are_fields [] cells ≡ true → fits_kinds [] (row [] cells) ≡ true
  no-cells [] fields = refl
  no-cells (t ∷ cells) fields = cc
row-fits (k ∷ kinds) [] fields = cc
row-fits (k ∷ kinds) (t ∷ cells) fields =
    let parts = and_parts (is_some (field_written k t)) (are_fields kinds cells) fields in
    and_from (is_range_of (data_kind k) (cell (k, t))) (fits_kinds (map data_kind kinds) (row kinds cells)) (cell-fits k t parts.0) (row-fits kinds cells parts.1)

-- the cells of an alternative without a defect are fields of the columns' kinds
is_some-int : (o : Option ℤ) (r : Option Span) → is_some o ≡ true → is_some (option_or (option_map certain (option_map value.Int o)) r) ≡ true
is_some-int None r some = cc
is_some-int (Some n) r some = refl

kind-int : (b : Bool) → inferred b ≡ kind.Int → b ≡ true
kind-int true is = refl
kind-int false is = cc

inferred-field : (b : Bool) (t : List ℕ) → (inferred b ≡ kind.Int → is_numeral t ≡ true) → is_some (field_written (inferred b) t) ≡ true
inferred-field true t numeral = is_some-int (numeral_value t) (range_written kind.Int t) (numeral refl)
inferred-field false t numeral = refl

inferred_kind-field : (xs : List (List ℕ)) (t : List ℕ) → (inferred_kind xs ≡ kind.Int → is_numeral t ≡ true) → is_some (field_written (inferred_kind xs) t) ≡ true
inferred_kind-field [] t numeral = refl
inferred_kind-field (x ∷ xs) t numeral = inferred-field (list_all is_numeral (x ∷ xs)) t numeral

abbrev bad_field : Format → ℕ → ℕ × (Option Kind × List ℕ) → List TableFault
bad_field f r c = where_true (not (is_field f c.1.0 c.1.1)) (fault.BadField r c.0)

either-written : (b : Bool) (v : Option Value) (r : Option Span) → (is_some v || b && is_some r) ≡ true → is_some (option_or (option_map certain v) r) ≡ true
either-written b (Some v) r some = refl
either-written true None r some = some
either-written false None r some = cc

not-false : (b : Bool) → not b ≡ false → b ≡ true
not-false true is = refl
not-false false is = cc

field-at : (f : Format) (w : Option Kind) (xs : List (List ℕ)) (t : List ℕ) → is_field f w t ≡ true → (inferred_kind xs ≡ kind.Int → is_numeral t ≡ true)
    → is_some (field_written (unwrap_or w (inferred_kind xs)) t) ≡ true
field-at f None xs t good numeral = inferred_kind-field xs t numeral
field-at f (Some k) xs t good numeral = either-written (has_copies f) (value_written k t) (range_written k t) good

cells-fields : (f : Format) (texts : ℕ → List (List ℕ)) (r n : ℕ) (written : List (Option Kind)) (cells : Record) → length cells ≡ length written
    → first (flat_map (bad_field f r) (enumerate_from n (zip written cells))) ≡ None
    → ((j : ℕ) → j < length cells → inferred_kind (texts (n + j)) ≡ kind.Int → is_numeral (get_or cells j []) ≡ true)
    → are_fields (map (λ c. unwrap_or c.1 (inferred_kind (texts c.0))) (enumerate_from n written)) cells ≡ true
cells-fields f texts r n [] [] same none numerals = refl
cells-fields f texts r n [] (t ∷ cells) same none numerals = absurd (omega arith)
cells-fields f texts r n (w ∷ written) [] same none numerals = absurd (omega arith)
cells-fields f texts r n (w ∷ written) (t ∷ cells) same none numerals =
    let parts = first-parts (bad_field f r (n, (w, t))) (flat_map (bad_field f r) (enumerate_from (n + 1) (zip written cells))) none in
    let good = not-false (is_field f w t) (where-false (not (is_field f w t)) (fault.BadField r n) parts.0) in
    let here : n + 0 ≡ n = omega arith in
    let head = field-at f w (texts n) t good (λ int. numerals 0 (omega arith) (ap (λ k. inferred_kind (texts k)) here ∙ int)) in
    let tail = cells-fields f texts r (n + 1) written cells (omega arith) parts.1
    (λ j h int. let next : n + suc j ≡ n + 1 + j = omega arith in numerals (suc j) (omega arith) (ap (λ k. inferred_kind (texts k)) next ∙ int)) in
    and_from (is_some (field_written (unwrap_or w (inferred_kind (texts n))) t)) (are_fields (map (λ c. unwrap_or c.1 (inferred_kind (texts c.0))) (enumerate_from (n + 1) written)) cells) head tail

-- whether an entry is absent, or its row fits
abbrev entry_fits : List Kind → BlockEntry → Bool
entry_fits kinds e = is_absent e.role || fits_kinds (map data_kind kinds) (row kinds e.cells)

abbrev record_fits : List Kind → Option BlockEntry → Bool
record_fits kinds None = true
record_fits kinds (Some e) = entry_fits kinds e

length-cells : (f : Format) (r : Record) → length (cells_of f r) ≡ length r - lead f
length-cells f r = length-drop (lead f) r

alternative-fits : (kinds : List Kind) (copies : Copies) (cells : Record) (x : Role) → is_absent x ≡ false → are_fields kinds cells ≡ true → record_fits kinds (Some (block_entry x copies cells)) ≡ true
alternative-fits kinds copies cells x here fields = rw (here, row-fits kinds cells fields) refl

holds-numeral : (a b : Bool) → a ≡ true → (not a || b) ≡ true → b ≡ true
holds-numeral true b here holds = holds
holds-numeral false b here holds = cc

-- a record without a defect fits the kinds
module _ (B : Format) (header : Record) (rows : List Record) (sound : first (rows_defects B (length header) (written_kinds (cells_of B header)) rows) ≡ None) where
  role-fits : (i : ℕ) (h : i < length rows) (o : Option Role) → role_of B (get_or rows i []) ≡ o
      → first (role_defects B (1 + i) (written_kinds (cells_of B header)) (get_or rows i []) o) ≡ None → length (get_or rows i []) ≡ length header
      → record_fits (inferred_kinds (entries_of B rows) (written_kinds (cells_of B header))) (option_map (λ x. block_entry x (copies_in B (get_or rows i [])) (cells_of B (get_or rows i []))) o) ≡ true
  role-fits i h None is none same = refl
  role-fits i h (Some x) is none same =
      let r = get_or rows i [] in
      let cells = cells_of B r in
      let W = written_kinds (cells_of B header) in
      let entries = entries_of B rows in
      let kinds = inferred_kinds entries W in
      let texts = λ (k : ℕ). map (λ (e : BlockEntry). field k e.cells) (alternatives entries) in
      elim (cases_Bool (is_absent x)) [
        | inl absent ↦ rw absent refl
        | inr here ↦
            let both : first (alternative_defects B (1 + i) W r) ≡ None = rw here at none in
            let fields : first (bad_fields B (1 + i) W cells) ≡ None = (first-parts (where_true (is_none (written_copies B r)) (fault.BadTimes (1 + i))) (bad_fields B (1 + i) W cells) both).1 in
            let long : length cells ≡ length W =
            length-cells B r ∙ ap (λ n. n - lead B) same ∙ sym (length-cells B header) ∙ sym (length-map (cells_of B header) written_kind) in
            let numerals : (j : ℕ) → j < length cells → inferred_kind (texts (0 + j)) ≡ kind.Int → is_numeral (get_or cells j []) ≡ true =
            λ j low int.
            let e : 0 + j ≡ j = omega arith in
            let both = kind-int _ (sym (inferred_kind-rows B j rows) ∙ ap (λ k. inferred_kind (texts k)) (sym e) ∙ int) in
            let all = (and_parts (list_any (is_alternative B) rows) (list_all (holds_numeral B j) rows) both).1 in
            let at = place-of-all (holds_numeral B j) [] rows all i h in
            let alternative : is_alternative B r ≡ true = rw (is, here) refl in
            holds-numeral (is_alternative B r) (is_numeral (field j cells)) alternative at
            in
            alternative-fits kinds (copies_in B r) cells x here (cells-fields B texts (1 + i) 0 W cells long fields numerals)
      ]

  records-fit : list_all (λ r. record_fits (inferred_kinds (entries_of B rows) (written_kinds (cells_of B header))) (block_entry_of B r)) rows ≡ true
  records-fit =
      let W = written_kinds (cells_of B header) in
      all-by-place (λ r. record_fits (inferred_kinds (entries_of B rows) W) (block_entry_of B r)) [] rows
      (λ i h.
      let r = get_or rows i [] in
      let at = scan-item (record_defects B (length header) W) 1 rows sound i [] h in
      let parts = first-parts (where_true (not (eqb (length r) (length header))) (fault.WrongWidth (1 + i))) (role_defects B (1 + i) W r (role_of B r)) at in
      let width = not-false (eqb (length r) (length header)) (where-false (not (eqb (length r) (length header))) (fault.WrongWidth (1 + i)) parts.0) in
      role-fits i h (role_of B r) refl parts.1 (eqb-true (length r) (length header) width))

-- the rows of the blocks fit where the records do
alternatives-fit : (kinds : List Kind) (entries : List BlockEntry) → list_all (entry_fits kinds) entries ≡ true
    → list_all (λ a. fits_kinds (map data_kind kinds) a.cells) (map (candidate_of kinds) (alternatives entries)) ≡ true
alternatives-fit kinds [] fit = refl
alternatives-fit kinds (e ∷ entries) fit =
    let parts = and_parts (entry_fits kinds e) (list_all (entry_fits kinds) entries) fit in
    elim (cases_Bool (is_absent e.role)) [
      | inl absent ↦ rw absent (alternatives-fit kinds entries parts.1)
      | inr here ↦
          let head : fits_kinds (map data_kind kinds) (row kinds e.cells) ≡ true = rw here at parts.0 in
          rw (here, head) (alternatives-fit kinds entries parts.1)
    ]

entries-fit-if : (kinds : List Kind) (o : Option BlockEntry) (entries : List BlockEntry) → record_fits kinds o ≡ true → list_all (entry_fits kinds) entries ≡ true
    → list_all (entry_fits kinds) (cons_option o entries) ≡ true
entries-fit-if kinds None entries here fit = fit
entries-fit-if kinds (Some e) entries here fit = and_from (entry_fits kinds e) (list_all (entry_fits kinds) entries) here fit

entries-fit : (B : Format) (kinds : List Kind) (rows : List Record) → list_all (λ r. record_fits kinds (block_entry_of B r)) rows ≡ true → list_all (entry_fits kinds) (entries_of B rows) ≡ true
entries-fit B kinds [] fit = refl
entries-fit B kinds (r ∷ rows) fit =
    let parts = and_parts (record_fits kinds (block_entry_of B r)) (list_all (λ x. record_fits kinds (block_entry_of B x)) rows) fit in
    entries-fit-if kinds (block_entry_of B r) (entries_of B rows) parts.0 (entries-fit B kinds rows parts.1)

pub all-filter : {X : Type 0} (p q : X → Bool) (xs : List X) → list_all p xs ≡ true → list_all p (filter q xs) ≡ true
all-filter p q [] all = refl
all-filter p q (x ∷ xs) all =
    let parts = and_parts (p x) (list_all p xs) all in
    elim (q x) as (λ b. list_all p (cond b (x ∷ filter q xs) (filter q xs)) ≡ true) [
      | true ↦ and_from (p x) (list_all p (filter q xs)) parts.0 (all-filter p q xs parts.1)
      | false ↦ all-filter p q xs parts.1
    ]

-- each block's rows fit
abbrev blocks_fit : List Kind → List (List BlockEntry) → Bool
blocks_fit kinds blocks = list_all (λ b. list_all (λ a. fits_kinds (map data_kind kinds) a.cells) b.alternatives) (map (block_of kinds) blocks)

labelled-fit : (f : Format) (kinds : List Kind) (rows : List Record) (ls : List (List ℕ)) → list_all (λ r. record_fits kinds (block_entry_of f r)) rows ≡ true
    → blocks_fit kinds (map (λ label. entries_of f (labelled label rows)) ls) ≡ true
labelled-fit f kinds rows [] fit = refl
labelled-fit f kinds rows (l ∷ ls) fit =
    let here = all-filter (λ r. record_fits kinds (block_entry_of f r)) (λ r. bytes_eq l (label_of r)) rows fit in
    and_from (list_all (λ a. fits_kinds (map data_kind kinds) a.cells) (map (candidate_of kinds) (alternatives (entries_of f (labelled l rows))))) (blocks_fit kinds (map (λ label. entries_of f (labelled label rows)) ls))
    (alternatives-fit kinds (entries_of f (labelled l rows)) (entries-fit f kinds (labelled l rows) here)) (labelled-fit f kinds rows ls fit)

plain-fit : (kinds : List Kind) (rows : List Record) → list_all (λ r. record_fits kinds (block_entry_of format.Plain r)) rows ≡ true → blocks_fit kinds (entry_blocks format.Plain rows) ≡ true
plain-fit kinds [] fit = refl
plain-fit kinds (r ∷ rows) fit =
    let parts = and_parts (fits_kinds (map data_kind kinds) (row kinds r)) (list_all (λ x. record_fits kinds (block_entry_of format.Plain x)) rows) fit in
    rw parts.0 (plain-fit kinds rows parts.1)

rows-fit : (B : Format) (kinds : List Kind) (rows : List Record) → list_all (λ r. record_fits kinds (block_entry_of B r)) rows ≡ true → blocks_fit kinds (entry_blocks B rows) ≡ true
rows-fit format.Blocks kinds rows fit = labelled-fit format.Blocks kinds rows (distinct bytes_eq (map label_of rows)) fit
rows-fit format.Copies kinds rows fit = labelled-fit format.Copies kinds rows (distinct bytes_eq (map label_of rows)) fit
rows-fit format.Plain kinds rows fit = plain-fit kinds rows fit

-- copies are in order
once-copies : IsCopies once
once-copies = record { least_guess = omega arith; guess_most = omega arith; bounded = omega arith }

count-copies : (b : Bool) (n : ℕ) (a : Bool) → nat_le n (10 ^ 12) ≡ a → IfSome (option_map (λ m. copies_of m m m) (cond (b && nat_le n (10 ^ 12)) (Some n) None)) IsCopies
count-copies false n a e = tt
count-copies true n true e = rw e (record { least_guess = omega arith; guess_most = omega arith; bounded = grind (arith, e) })
count-copies true n false e = rw e tt

or-copies : (o p : Option Copies) → IfSome o IsCopies → IfSome p IsCopies → IfSome (option_or o p) IsCopies
or-copies None p a b = b
or-copies (Some x) p a b = a

ordered-three : (l g m : ℕ) (a b : Bool) → nat_le l g ≡ a → nat_le g m ≡ b → m ≤ 10 ^ 12 → IfSome (ordered_copies l g m) IsCopies
ordered-three l g m true true low high few = rw (low, high) (record { least_guess = grind (arith, low); guess_most = grind (arith, high); bounded = few })
ordered-three l g m true false low high few = rw (low, high) tt
ordered-three l g m false b low high few = rw low tt

three-copies : (a b c : Option ℕ) → IfSome c (λ n. n ≤ 10 ^ 12) → IfSome (three ordered_copies a b c) IsCopies
three-copies None b c few = tt
three-copies (Some x) None c few = tt
three-copies (Some x) (Some y) None few = tt
three-copies (Some x) (Some y) (Some z) few = ordered-three x y z _ _ refl refl few

few-count : (b : Bool) (n : ℕ) (a : Bool) → nat_le n (10 ^ 12) ≡ a → IfSome (cond (b && nat_le n (10 ^ 12)) (Some n) None) (λ m. m ≤ 10 ^ 12)
few-count false n a e = tt
few-count true n true e = rw e (grind (arith, e))
few-count true n false e = rw e tt

parts-copies : (o : Option Parts) → IfSome (option_and_then (λ p. three ordered_copies (count_written p.first) (count_written p.second) (count_written p.third)) o) IsCopies
parts-copies None = tt
parts-copies (Some p) = three-copies (count_written p.first) (count_written p.second) (count_written p.third) (few-count (is_count p.third) (digits_value 10 p.third) _ refl)

pub written-copies : (t : List ℕ) → IfSome (copies_written t) IsCopies
written-copies t = or-copies _ _ (count-copies (is_count t) (digits_value 10 t) _ refl) (parts-copies (parts t))

unwrapped : (o : Option Copies) → IfSome o IsCopies → IsCopies (unwrap_or o once)
unwrapped None h = once-copies
unwrapped (Some c) h = h

record-copies : (f : Format) (r : Record) → IsCopies (copies_in f r)
record-copies format.Plain r = once-copies
record-copies format.Blocks r = once-copies
record-copies format.Copies r = unwrapped (copies_written (field 2 r)) (written-copies (field 2 r))

-- the copies of entries, and of the alternatives among them
AreCopies : List BlockEntry → Type 0
AreCopies es = AllByRecursion (λ e. IsCopies e.copies) es

entries-copies-if : (f : Format) (r : Record) (o : Option Role) (es : List BlockEntry) → AreCopies es → AreCopies (cons_option (option_map (λ x. block_entry x (copies_in f r) (cells_of f r)) o) es)
unfolding AreCopies
entries-copies-if f r None es all = all
entries-copies-if f r (Some x) es all = (record-copies f r, all)

entries-copies : (f : Format) (rows : List Record) → AreCopies (entries_of f rows)
unfolding AreCopies
entries-copies f [] = tt
entries-copies f (r ∷ rows) = entries-copies-if f r (role_of f r) (entries_of f rows) (entries-copies f rows)

alternatives-copies : (kinds : List Kind) (es : List BlockEntry) → AreCopies es → AllByRecursion (λ a. IsCopies a.copies) (map (candidate_of kinds) (alternatives es))
unfolding AreCopies
alternatives-copies kinds [] all = tt
alternatives-copies kinds (e ∷ es) all =
    elim (cases_Bool (is_absent e.role)) [
      | inl absent ↦ rw absent (alternatives-copies kinds es all.1)
      | inr here ↦ rw here (all.0, alternatives-copies kinds es all.1)
    ]

labelled-copies : (f : Format) (rows : List Record) (ls : List (List ℕ)) → AllByRecursion AreCopies (map (λ label. entries_of f (labelled label rows)) ls)
labelled-copies f rows [] = tt
labelled-copies f rows (l ∷ ls) = (entries-copies f (labelled l rows), labelled-copies f rows ls)

plain-copies : (rows : List Record) → AllByRecursion AreCopies (entry_blocks format.Plain rows)
unfolding AreCopies
plain-copies [] = tt
plain-copies (r ∷ rows) = ((once-copies, tt), plain-copies rows)

blocks-copies : (f : Format) (rows : List Record) → AllByRecursion AreCopies (entry_blocks f rows)
blocks-copies format.Plain rows = plain-copies rows
blocks-copies format.Blocks rows = labelled-copies format.Blocks rows (distinct bytes_eq (map label_of rows))
blocks-copies format.Copies rows = labelled-copies format.Copies rows (distinct bytes_eq (map label_of rows))

or_false : (a b : Bool) → (a || b) ≡ false → (a ≡ false) × (b ≡ false)
or_false true b is = cc
or_false false b is = (refl, is)

position-low : {X : Type 0} (p : X → Bool) (xs : List X) (i : ℕ) → position p xs ≡ Some i → i < length xs
position-low p [] i is = cc
position-low p (x ∷ xs) i is = (position-Some p (x ∷ xs) i x is).0

positive : (n : ℕ) → eqb n 0 ≡ false → 0 < n
positive zero is = cc
positive (suc n) is = omega arith

any-of-count : (p : BlockEntry → Bool) (es : List BlockEntry) → eqb (count_by p es) 0 ≡ false → list_any p es ≡ true
any-of-count p es is = any-count p es ∙ ap not is

-- a block without a defect offers its guess
marked-absent : (es : List BlockEntry) → list_any (λ e. is_marked e.role) es ≡ true → list_any (λ e. is_marked e.role) (alternatives es) ≡ false → list_any (λ e. is_absent e.role) es ≡ true
marked-absent [] marked none = cc
marked-absent (e ∷ es) marked none =
    elim (cases_Bool (is_absent e.role)) [
      | inl absent ↦ rw absent refl
      | inr here ↦
          let rest : (is_marked e.role || list_any (λ (x : BlockEntry). is_marked x.role) (alternatives es)) ≡ false = rw here at none in
          let parts = or_false (is_marked e.role) (list_any (λ (x : BlockEntry). is_marked x.role) (alternatives es)) rest in
          let later : list_any (λ (x : BlockEntry). is_marked x.role) es ≡ true = rw parts.0 at marked in
          rw here (marked-absent es later parts.1)
    ]

offers : (o : Option ℕ) (b : Choices) → ((i : ℕ) → o ≡ Some i → i < length b.alternatives) → (o ≡ None → b.optional ≡ true) → MayMark b o
offers None b low absent = absent refl
offers (Some i) b low absent = low i refl

block-good : (kinds : List Kind) (es : List BlockEntry) (n : ℕ) → AreCopies es → first (block_defects (n, es)) ≡ None → IsBlock (block_of kinds es)
block-good kinds es n all none =
    let m = λ (e : BlockEntry). is_marked e.role in
    let a = λ (e : BlockEntry). is_absent e.role in
    let w1 = where_true (ltb 1 (count_by m es)) (fault.TwoGuesses n) in
    let w2 = where_true (eqb (count_by m es) 0) (fault.NoGuess n) in
    let w3 = where_true (eqb (length (alternatives es)) 0) (fault.OnlyAbsent n) in
    let w4 = where_true (ltb 1 (count_by a es)) (fault.TwoAbsent n) in
    let p1 = (first-parts (w1 ++ w2 ++ w3) w4 none).0 in
    let p2 = first-parts (w1 ++ w2) w3 p1 in
    let p3 = (first-parts w1 w2 p2.0).1 in
    let marks = where-false (eqb (count_by m es) 0) (fault.NoGuess n) p3 in
    let some = where-false (eqb (length (alternatives es)) 0) (fault.OnlyAbsent n) p2.1 in
    let long : length (map (candidate_of kinds) (alternatives es)) ≡ length (alternatives es) = length-map (alternatives es) (candidate_of kinds) in
    let marked : list_any m es ≡ true = any-of-count m es marks in
    let absent : position m (alternatives es) ≡ None → list_any a es ≡ true = λ none. marked-absent es marked (no-position m (alternatives es) none) in
    let low : (i : ℕ) → position m (alternatives es) ≡ Some i → i < length (map (candidate_of kinds) (alternatives es)) =
    λ i is. rw long (position-low m (alternatives es) i is) in
    record { nonempty = rw long (positive (length (alternatives es)) some); guess = offers (position m (alternatives es)) (block_of kinds es) low absent; copies = alternatives-copies kinds es all }

blocks-good : (kinds : List Kind) (n : ℕ) (blocks : List (List BlockEntry)) → AllByRecursion AreCopies blocks → first (flat_map block_defects (enumerate_from n blocks)) ≡ None → AllByRecursion IsBlock (map (block_of kinds) blocks)
blocks-good kinds n [] all none = tt
blocks-good kinds n (es ∷ blocks) all none =
    let parts = first-parts (block_defects (n, es)) (flat_map block_defects (enumerate_from (n + 1) blocks)) none in
    (block-good kinds es n all.0 parts.0, blocks-good kinds (n + 1) blocks all.1 parts.1)

-- the kinds of the columns
kinds-of-columns : (names : List (List ℕ)) (kinds : List Kind) → length names ≡ length kinds → map (λ c. c.kind) (columns_of names kinds) ≡ kinds
kinds-of-columns [] [] same = refl
kinds-of-columns [] (k ∷ kinds) same = absurd (omega arith)
kinds-of-columns (x ∷ names) [] same = absurd (omega arith)
kinds-of-columns (x ∷ names) (k ∷ kinds) same = ap (λ r. k ∷ r) (kinds-of-columns names kinds (omega arith))

pub header-kinds : (header : Record) (rows : List Record) → map (λ c. c.kind) (header_columns header rows) ≡ header_kinds header rows
header-kinds header rows =
    let B = format_of header in
    let fields = cells_of B header in
    let names : length (column_names B fields) ≡ length fields = length-map (enumerate_from 0 fields) (column_name B) ∙ length-enumerate_from 0 fields in
    let kinds : length (header_kinds header rows) ≡ length fields =
    length-map (enumerate_from 0 (written_kinds fields)) (column_kind (entries_of B rows)) ∙ length-enumerate_from 0 (written_kinds fields) ∙ length-map fields written_kind in
    kinds-of-columns (column_names B fields) (header_kinds header rows) (names ∙ sym kinds)

-- each record has a cell for each column
pub widths-of : (header : Record) (rows : List Record) → first (schema_defects header rows) ≡ None → list_all (is_wide (format_of header) (length (header_columns header rows))) rows ≡ true
widths-of header rows none =
    let B = format_of header in
    let written = written_kinds (cells_of B header) in
    let sound = (first-parts _ (rows_defects B (length header) written rows) none).1 in
    let long : length (header_columns header rows) ≡ length header - lead B =
    sym (length-map (header_columns header rows) (λ c. c.kind)) ∙ ap length (header-kinds header rows)
    ∙ length-map (enumerate_from 0 written) (column_kind (entries_of B rows)) ∙ length-enumerate_from 0 written ∙ length-map (cells_of B header) written_kind ∙ length-cells B header in
    all-by-place (is_wide B (length (header_columns header rows))) [] rows
    (λ i h.
    let r = get_or rows i [] in
    let at = scan-item (record_defects B (length header) written) 1 rows sound i [] h in
    let parts = first-parts (where_true (not (eqb (length r) (length header))) (fault.WrongWidth (1 + i))) (role_defects B (1 + i) written r (role_of B r)) at in
    let same = eqb-true (length r) (length header) (not-false (eqb (length r) (length header)) (where-false (not (eqb (length r) (length header))) (fault.WrongWidth (1 + i)) parts.0)) in
    wide-enough (length (header_columns header rows)) (length (cells_of B r)) (omega (arith, long, length-cells B r, same)))
  where
    wide-enough : (m n : ℕ) → m ≤ n → nat_le m n ≡ true
    wide-enough m n h = grind (arith, h)

-- the kinds of columns: written ones have a scale from 1 to 9, and inferred ones none
named-kind : (a b c d1 d2 d3 d4 d5 d6 d7 d8 d9 : Bool)
    → IfSome (cond a (Some kind.Int) (cond b (Some kind.Text) (cond c (Some kind.Flag) (option_map kind.Dec (cond d1 (Some 1) (cond d2 (Some 2) (cond d3 (Some 3) (cond d4 (Some 4) (cond d5 (Some 5) (cond d6 (Some 6) (cond d7 (Some 7) (cond d8 (Some 8) (cond d9 (Some 9) None)))))))))))))
    (λ k. is_column_kind k ≡ true)
named-kind true b c d1 d2 d3 d4 d5 d6 d7 d8 d9 = refl
named-kind false true c d1 d2 d3 d4 d5 d6 d7 d8 d9 = refl
named-kind false false true d1 d2 d3 d4 d5 d6 d7 d8 d9 = refl
named-kind false false false true d2 d3 d4 d5 d6 d7 d8 d9 = refl
named-kind false false false false true d3 d4 d5 d6 d7 d8 d9 = refl
named-kind false false false false false true d4 d5 d6 d7 d8 d9 = refl
named-kind false false false false false false true d5 d6 d7 d8 d9 = refl
named-kind false false false false false false false true d6 d7 d8 d9 = refl
named-kind false false false false false false false false true d7 d8 d9 = refl
named-kind false false false false false false false false false true d8 d9 = refl
named-kind false false false false false false false false false false true d9 = refl
named-kind false false false false false false false false false false false true = refl
named-kind false false false false false false false false false false false false = tt

cut-kind : (o : Option (List ℕ × List ℕ)) → IfSome (option_and_then (λ p. kind_named p.1) o) (λ k. is_column_kind k ≡ true)
cut-kind None = tt
cut-kind (Some p) = named-kind _ _ _ _ _ _ _ _ _ _ _ _

inferred-column : (b : Bool) → is_column_kind (inferred b) ≡ true
inferred-column true = refl
inferred-column false = refl

inferred_kind-column : (xs : List (List ℕ)) → is_column_kind (inferred_kind xs) ≡ true
inferred_kind-column [] = refl
inferred_kind-column (x ∷ xs) = inferred-column (list_all is_numeral (x ∷ xs))

column_kind-column : (o : Option Kind) (xs : List (List ℕ)) → IfSome o (λ k. is_column_kind k ≡ true) → is_column_kind (unwrap_or o (inferred_kind xs)) ≡ true
column_kind-column None xs h = inferred_kind-column xs
column_kind-column (Some k) xs h = h

kinds-are-columns : (texts : ℕ → List (List ℕ)) (n : ℕ) (fields : Record) → list_all is_column_kind (map (λ c. unwrap_or c.1 (inferred_kind (texts c.0))) (enumerate_from n (written_kinds fields))) ≡ true
kinds-are-columns texts n [] = refl
kinds-are-columns texts n (x ∷ fields) =
    and_from _ _ (column_kind-column (written_kind x) (texts n) (cut-kind (cut x))) (kinds-are-columns texts (n + 1) fields)

all-mapped : {X Y : Type 0} (p : Y → Bool) (g : X → Y) (xs : List X) → list_all (λ x. p (g x)) xs ≡ list_all p (map g xs)
all-mapped p g [] = refl
all-mapped p g (x ∷ xs) = ap (λ b. p (g x) && b) (all-mapped p g xs)

-- the table of records without a defect is well-formed
pub well-formed : (header : Record) (rows : List Record) → first (schema_defects header rows) ≡ None → first (blocks_defects (entry_blocks (format_of header) rows)) ≡ None
    → IsBlockTable (table (header_columns header rows) (map (block_of (header_kinds header rows)) (entry_blocks (format_of header) rows)))
well-formed header rows schema blocks =
    let B = format_of header in
    let columns = header_columns header rows in
    let kinds = header_kinds header rows in
    let sound = (first-parts _ (rows_defects B (length header) (written_kinds (cells_of B header)) rows) schema).1 in
    let fit = rows-fit B kinds rows (records-fit B header rows sound) in
    let values : map (λ (c : Column). data_kind c.kind) columns ≡ map data_kind kinds = sym (map-map columns) ∙ ap (map data_kind) (header-kinds header rows) in
    record {
      table = record { rows = rw values fit };
      kinds = all-mapped is_column_kind (λ (c : Column). c.kind) columns ∙ ap (list_all is_column_kind) (header-kinds header rows) ∙ kinds-are-columns (λ k. map (λ (e : BlockEntry). field k e.cells) (alternatives (entries_of B rows))) 0 (cells_of B header);
      blocks = blocks-good kinds 0 (entry_blocks B rows) (blocks-copies B rows) blocks;
    }
  where
    map-map : (cs : List Column) → map data_kind (map (λ (c : Column). c.kind) cs) ≡ map (λ (c : Column). data_kind c.kind) cs
    map-map [] = refl
    map-map (c ∷ cs) = ap (λ r. data_kind c.kind ∷ r) (map-map cs)
