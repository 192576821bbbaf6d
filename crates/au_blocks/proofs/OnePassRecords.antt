-- Records that can be read in one pass have no defect, and their columns have the kinds that were supposed.
use Rattle.std.proofs.Common.{◌≡◌, ◌⊎◌, ℕ, zero, suc, ◌+◌, ◌<◌, ◌&&◌, ◌||◌, Bool, true, false, ℤ, List, [], ◌∷◌, length, map, get_or, Option, Some, None, inl, inr, refl, sym, ap, ◌∙◌, arith}
use Rattle.std.specs.Prelude.{not, flat_map, zip, is_some, option_map, nat_lt, drop}
use Rattle.std.specs.List.{list_any, list_all, enumerate_from}
use Rattle.std.proofs.lemmas.Bool.{cases_Bool, and_parts, and_from}
use Rattle.au_value.specs.declared.kinds.Kind.{Kind}
use Rattle.au_value.specs.declared.kinds.Kind.TheVariants as kind
use Rattle.au_value.specs.declared.value.Value.TheVariants as value
use Rattle.au_value.specs.Numeral.{numeral_value}
use Rattle.au_csv.specs.Texts.{Record}
use Rattle.au_blocks.specs.declared.format.Format.{Format}
use Rattle.au_blocks.specs.declared.role.Role.{Role}
use Rattle.au_blocks.specs.declared.faults.TableFault.{TableFault}
use Rattle.au_blocks.specs.declared.faults.TableFault.TheVariants as fault
use Rattle.au_blocks.specs.Headers.{has_copies, cells_of}
use Rattle.au_blocks.specs.Spellings.{value_written}
use Rattle.au_blocks.specs.Entries.{field, role_of, is_absent, entries_of}
use Rattle.au_blocks.specs.Inferring.{column_kind, is_numeral, inferred, inferred_kinds, offers_row, is_alternative, holds_numeral}
use Rattle.au_blocks.specs.Defects.{where_true, is_field, role_defects, record_defects, rows_defects}
use Rattle.au_blocks.specs.Read.{first}
use Rattle.au_blocks.specs.OnePass.{AreSupposed, IsSupposed, are_values, is_bare, fits_role, is_fitting}
use Rattle.au_blocks.proofs.First.{first-behind}
use Rattle.au_blocks.proofs.InferredKinds.{inferred_kind-rows}

-- a test that fails is no defect
no-defect : (b : Bool) (x : TableFault) → b ≡ false → first (where_true b x) ≡ None
no-defect true x is = cc
no-defect false x is = refl

not-true : (b : Bool) → not b ≡ true → b ≡ false
not-true true is = cc
not-true false is = refl

-- a value of a kind that is supposed is a field of the written one
value-field : (f : Format) (all : List Record) (i : ℕ) (w : Option Kind) (k : Kind) (t : List ℕ) → IsSupposed f all i w k → is_some (value_written k t) ≡ true → not (is_field f w t) ≡ false
value-field f all i None k t supposed some = refl
value-field f all i (Some w) k t supposed some = let value : is_some (value_written w t) ≡ true = ap (λ x. is_some (value_written x t)) (sym supposed) ∙ some in rw value refl

-- cells from a place on that are values of kinds that are supposed are no bad fields
abbrev bad_field : Format → ℕ → ℕ × (Option Kind × List ℕ) → List TableFault
bad_field f n c = where_true (not (is_field f c.1.0 c.1.1)) (fault.BadField n c.0)

values-sound : (f : Format) (all : List Record) (r : Record) (n i : ℕ) (written : List (Option Kind)) (kinds : List Kind) (cells : Record) → AreSupposed f all i written kinds
    → ((j : ℕ) → j < length cells → get_or cells j [] ≡ field (i + j) (cells_of f r))
    → are_values f r i kinds ≡ true → first (flat_map (bad_field f n) (enumerate_from i (zip written cells))) ≡ None
values-sound f all r n i [] kinds cells supposed same values = refl
values-sound f all r n i (w ∷ written) [] cells supposed same values = absurd supposed
values-sound f all r n i (w ∷ written) (k ∷ kinds) [] supposed same values = refl
values-sound f all r n i (w ∷ written) (k ∷ kinds) (t ∷ cells) supposed same values =
    let here : i + 0 ≡ i = omega arith in
    let head : t ≡ field i (cells_of f r) = same 0 (omega arith) ∙ ap (λ m. field m (cells_of f r)) here in
    let parts = and_parts (is_some (value_written k (field i (cells_of f r)))) (are_values f r (i + 1) kinds) values in
    let good = value-field f all i w k t supposed.0 (rw head parts.0) in
    let rest = values-sound f all r n (i + 1) written kinds cells supposed.1
    (λ j h. let next : i + suc j ≡ i + 1 + j = omega arith in same (suc j) (omega arith) ∙ ap (λ m. field m (cells_of f r)) next) parts.1 in
    first-behind (bad_field f n (i, (w, t))) (flat_map (bad_field f n) (enumerate_from (i + 1) (zip written cells))) (no-defect (not (is_field f w t)) (fault.BadField n i) good) ∙ rest

-- a record that fits has no defect
role-sound : (f : Format) (all : List Record) (n : ℕ) (written : List (Option Kind)) (kinds : List Kind) (r : Record) (o : Option Role) → AreSupposed f all 0 written kinds → has_copies f ≡ false → fits_role f kinds r o ≡ true
    → first (role_defects f n written r o) ≡ None
role-sound f all n written kinds r None supposed plain fits = cc
role-sound f all n written kinds r (Some x) supposed plain fits =
    elim (cases_Bool (is_absent x)) [
      | inl absent ↦
          let bare : is_bare r ≡ true = rw absent at fits in
          rw absent (no-defect (list_any (λ text. nat_lt 0 (length text)) (drop 2 r)) (fault.AbsentWithValues n) (not-true _ bare))
      | inr here ↦
          let values : are_values f r 0 kinds ≡ true = rw here at fits in
          let same : (j : ℕ) → j < length (cells_of f r) → get_or (cells_of f r) j [] ≡ field (0 + j) (cells_of f r) =
          λ j h. let e : j ≡ 0 + j = omega arith in ap (λ m. field m (cells_of f r)) e in
          rw (here, plain) (values-sound f all r n 0 written kinds (cells_of f r) supposed same values)
    ]

record-sound : (f : Format) (all : List Record) (width n : ℕ) (written : List (Option Kind)) (kinds : List Kind) (r : Record) → AreSupposed f all 0 written kinds → has_copies f ≡ false → is_fitting f width kinds r ≡ true
    → first (record_defects f width written (n, r)) ≡ None
record-sound f all width n written kinds r supposed plain fits =
    let parts = and_parts _ (fits_role f kinds r (role_of f r)) fits in
    rw parts.0 (role-sound f all n written kinds r (role_of f r) supposed plain parts.1)

rows-sound : (f : Format) (all : List Record) (width n : ℕ) (written : List (Option Kind)) (kinds : List Kind) (rows : List Record) → AreSupposed f all 0 written kinds → has_copies f ≡ false
    → list_all (is_fitting f width kinds) rows ≡ true → first (flat_map (record_defects f width written) (enumerate_from n rows)) ≡ None
rows-sound f all width n written kinds [] supposed plain fits = refl
rows-sound f all width n written kinds (r ∷ rows) supposed plain fits =
    let parts = and_parts (is_fitting f width kinds r) (list_all (is_fitting f width kinds) rows) fits in
    first-behind (record_defects f width written (n, r)) (flat_map (record_defects f width written) (enumerate_from (n + 1) rows))
    (record-sound f all width n written kinds r supposed plain parts.0)
    ∙ rows-sound f all width (n + 1) written kinds rows supposed plain parts.1

-- and so have all of them
pub fitting-sound : (f : Format) (width : ℕ) (written : List (Option Kind)) (kinds : List Kind) (rows : List Record) → AreSupposed f rows 0 written kinds → has_copies f ≡ false
    → list_all (is_fitting f width kinds) rows ≡ true → first (rows_defects f width written rows) ≡ None
fitting-sound f width written kinds rows supposed plain fits = rows-sound f rows width 1 written kinds rows supposed plain fits

-- a value of numbers is a numeral
numeral-of : (o : Option ℤ) → is_some (option_map value.Int o) ≡ true → is_some o ≡ true
numeral-of None some = cc
numeral-of (Some z) some = refl

-- below a column of whole numbers the cell of a fitting alternative is a numeral
values-numeral : (f : Format) (r : Record) (i : ℕ) (kinds : List Kind) (j : ℕ) → get_or kinds j kind.Text ≡ kind.Int → are_values f r i kinds ≡ true → is_numeral (field (i + j) (cells_of f r)) ≡ true
values-numeral f r i [] j int values = cc
values-numeral f r i (k ∷ kinds) zero int values =
    let here : i + 0 ≡ i = omega arith in
    let number : is_some (value_written kind.Int (field i (cells_of f r))) ≡ true =
    rw int at (and_parts (is_some (value_written k (field i (cells_of f r)))) (are_values f r (i + 1) kinds) values).0 in
    rw here (numeral-of (numeral_value (field i (cells_of f r))) number)
values-numeral f r i (k ∷ kinds) (suc j) int values =
    let next : i + suc j ≡ i + 1 + j = omega arith in
    let parts = and_parts (is_some (value_written k (field i (cells_of f r)))) (are_values f r (i + 1) kinds) values in
    rw next (values-numeral f r (i + 1) kinds j int parts.1)

role-numeral : (f : Format) (kinds : List Kind) (r : Record) (numeral : Bool) (o : Option Role) → (are_values f r 0 kinds ≡ true → numeral ≡ true) → fits_role f kinds r o ≡ true
    → (not (offers_row o) || numeral) ≡ true
role-numeral f kinds r numeral None of fits = refl
role-numeral f kinds r numeral (Some x) of fits =
    elim (cases_Bool (is_absent x)) [
      | inl absent ↦ rw absent refl
      | inr here ↦ let values : are_values f r 0 kinds ≡ true = rw here at fits in rw (here, of values) refl
    ]

rows-numeral : (f : Format) (width : ℕ) (kinds : List Kind) (j : ℕ) (rows : List Record) → get_or kinds j kind.Text ≡ kind.Int → list_all (is_fitting f width kinds) rows ≡ true
    → list_all (holds_numeral f j) rows ≡ true
rows-numeral f width kinds j [] int fits = refl
rows-numeral f width kinds j (r ∷ rows) int fits =
    let parts = and_parts (is_fitting f width kinds r) (list_all (is_fitting f width kinds) rows) fits in
    let role = (and_parts _ (fits_role f kinds r (role_of f r)) parts.0).1 in
    let e : 0 + j ≡ j = omega arith in
    let of : are_values f r 0 kinds ≡ true → is_numeral (field j (cells_of f r)) ≡ true =
    λ values. ap (λ m. is_numeral (field m (cells_of f r))) (sym e) ∙ values-numeral f r 0 kinds j int values in
    and_from (holds_numeral f j r) (list_all (holds_numeral f j) rows) (role-numeral f kinds r (is_numeral (field j (cells_of f r))) (role_of f r) of role) (rows-numeral f width kinds j rows int parts.1)

-- where some field is no numeral, it doesn't matter what else is known
no-numerals : (b : Bool) → (b && false) ≡ false
no-numerals true = refl
no-numerals false = refl

-- a kind that is supposed is found, where some record is an alternative or the kind is written
kind-found : (f : Format) (rows : List Record) (i : ℕ) (w : Option Kind) (k : Kind) → (list_any (is_alternative f) rows ≡ true) ⊎ (is_some w ≡ true)
    → (k ≡ kind.Int → list_all (holds_numeral f i) rows ≡ true) → IsSupposed f rows i w k → column_kind (entries_of f rows) (i, w) ≡ k
kind-found f rows i (Some w) k known numerals supposed = sym supposed
kind-found f rows i None k known numerals supposed =
    elim supposed [
      | inl int ↦
          let some : list_any (is_alternative f) rows ≡ true =
          elim known [
            | inl some ↦ some
            | inr none ↦ cc
          ]
          in
          inferred_kind-rows f i rows ∙ rw (some, numerals int) refl ∙ sym int
      | inr text ↦ inferred_kind-rows f i rows ∙ ap (λ b. inferred (list_any (is_alternative f) rows && b)) text.1 ∙ ap inferred (no-numerals (list_any (is_alternative f) rows)) ∙ sym text.0
    ]

kinds-found : (f : Format) (rows : List Record) (n : ℕ) (written : List (Option Kind)) (kinds : List Kind) → (list_any (is_alternative f) rows ≡ true) ⊎ (list_all is_some written ≡ true)
    → ((j : ℕ) → get_or kinds j kind.Text ≡ kind.Int → list_all (holds_numeral f (n + j)) rows ≡ true) → AreSupposed f rows n written kinds
    → map (column_kind (entries_of f rows)) (enumerate_from n written) ≡ kinds
kinds-found f rows n [] [] known numerals supposed = refl
kinds-found f rows n [] (k ∷ kinds) known numerals supposed = absurd supposed
kinds-found f rows n (w ∷ written) [] known numerals supposed = absurd supposed
kinds-found f rows n (w ∷ written) (k ∷ kinds) known numerals supposed =
    let here : n + 0 ≡ n = omega arith in
    let first : (list_any (is_alternative f) rows ≡ true) ⊎ (is_some w ≡ true) =
    elim known [
      | inl some ↦ inl some
      | inr each ↦ inr (and_parts (is_some w) (list_all is_some written) each).0
    ]
    in
    let others : (list_any (is_alternative f) rows ≡ true) ⊎ (list_all is_some written ≡ true) =
    elim known [
      | inl some ↦ inl some
      | inr each ↦ inr (and_parts (is_some w) (list_all is_some written) each).1
    ]
    in
    let head = kind-found f rows n w k first (λ int. ap (λ m. list_all (holds_numeral f m) rows) (sym here) ∙ numerals 0 int) supposed.0 in
    let rest = kinds-found f rows (n + 1) written kinds others
    (λ j int. let next : n + 1 + j ≡ n + suc j = omega arith in ap (λ m. list_all (holds_numeral f m) rows) next ∙ numerals (suc j) int) supposed.1 in
    λ i. head i ∷ rest i

-- the columns of records that fit have the supposed kinds, where some record is an alternative or each kind is written
pub fitting-kinds : (f : Format) (width : ℕ) (written : List (Option Kind)) (kinds : List Kind) (rows : List Record) → AreSupposed f rows 0 written kinds
    → list_all (is_fitting f width kinds) rows ≡ true → (list_any (is_alternative f) rows ≡ true) ⊎ (list_all is_some written ≡ true) → inferred_kinds (entries_of f rows) written ≡ kinds
fitting-kinds f width written kinds rows supposed fits known =
    kinds-found f rows 0 written kinds known
    (λ j int. let e : 0 + j ≡ j = omega arith in ap (λ m. list_all (holds_numeral f m) rows) e ∙ rows-numeral f width kinds j rows int fits)
    supposed
