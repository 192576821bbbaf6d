-- Operators that work row by row, on rows that are put together.
use Rattle.std.specs.Prelude.{◌≡◌, Bool, true, false, ◌&&◌, List, [], ◌∷◌, ◌++◌, filter, flat_map, Result, Ok, Err}
use Rattle.std.proofs.Common.{refl, sym, ◌∙◌, ap}
use Rattle.std.proofs.lemmas.List.{map-append}
use Rattle.std.proofs.lemmas.List.Concat.{flat_map-append}
use Rattle.std.proofs.lemmas.List.Elements.{filter-append}
use Rattle.std.proofs.lemmas.List.Folds.{list_all-append}
use Rattle.au_value.specs.Numeral.{is_i128}
use Rattle.au_expr.specs.declared.fault.EvalFault.{EvalFault}
use Rattle.au_expr.specs.Figures.{fit}
use Rattle.au_value.specs.declared.value.Value.TheVariants.{Flag}
use Rattle.au_plain.specs.PTerms.{PTerm}
use Rattle.au_plain.specs.PTerms as term
use Rattle.au_physical.specs.Physicals.{PhysicalTree}
use Rattle.au_physical.specs.Physicals as physical
use Rattle.au_codes.specs.Codes.{CellRows}
use Rattle.au_codes.specs.CellMeaning.{cells_extended, cells_kept, cells_pass}
use Rattle.au_codes.specs.CellNumbers.{cell_numbers}
use Rattle.au_columns.specs.Chains.{WorkedAll, all_cells, all_fit, top_cells, top_numbers}

top_both : (p : PhysicalTree) (xs ys : CellRows) → top_cells p (xs ++ ys) ≡ top_cells p xs ++ top_cells p ys
top_both (physical.Scan t w) xs ys = refl
top_both (physical.Rows w rows) xs ys = refl
top_both (physical.Extend e p) xs ys = map-append (cells_extended e) xs ys
top_both (physical.Keep places p) xs ys = map-append (cells_kept places) xs ys
top_both (physical.Filter e p) xs ys = filter-append (cells_pass e) xs ys
top_both (physical.Nested e p q) xs ys = refl
top_both (physical.Hash places e p q) xs ys = refl
top_both (physical.Overlap at e p q) xs ys = refl
top_both (physical.Union p q) xs ys = refl
top_both (physical.Group keys aggs p) xs ys = refl

numbers_both : (e : PTerm) (xs ys : CellRows) → fit (flat_map (cell_numbers e) (xs ++ ys)) ≡ fit (flat_map (cell_numbers e) xs) && fit (flat_map (cell_numbers e) ys)
numbers_both e xs ys =
    ap fit (flat_map-append (cell_numbers e) xs ys) ∙ list_all-append is_i128 (flat_map (cell_numbers e) xs) (flat_map (cell_numbers e) ys)

top_fit_both : (p : PhysicalTree) (xs ys : CellRows) → fit (top_numbers p (xs ++ ys)) ≡ fit (top_numbers p xs) && fit (top_numbers p ys)
top_fit_both (physical.Scan t w) xs ys = refl
top_fit_both (physical.Rows w rows) xs ys = refl
top_fit_both (physical.Extend e p) xs ys = numbers_both e xs ys
top_fit_both (physical.Keep places p) xs ys = refl
top_fit_both (physical.Filter e p) xs ys = numbers_both e xs ys
top_fit_both (physical.Nested e p q) xs ys = refl
top_fit_both (physical.Hash places e p q) xs ys = refl
top_fit_both (physical.Overlap at e p q) xs ys = refl
top_fit_both (physical.Union p q) xs ys = refl
top_fit_both (physical.Group keys aggs p) xs ys = refl

and_pairs : (a b c d : Bool) → (a && b) && (c && d) ≡ (a && c) && (b && d)
and_pairs true true c d = refl
and_pairs true false true d = refl
and_pairs true false false d = refl
and_pairs false b c d = refl

-- what operators leave of rows that are put together, and whether their numbers fit
pub cells_both : (ps : List PhysicalTree) (xs ys : CellRows) → all_cells ps (xs ++ ys) ≡ all_cells ps xs ++ all_cells ps ys
cells_both [] xs ys = refl
cells_both (p ∷ ps) xs ys = ap (top_cells p) (cells_both ps xs ys) ∙ top_both p (all_cells ps xs) (all_cells ps ys)

pub fit_both : (ps : List PhysicalTree) (xs ys : CellRows) → all_fit ps (xs ++ ys) ≡ all_fit ps xs && all_fit ps ys
fit_both [] xs ys = refl
fit_both (p ∷ ps) xs ys =
    (λ i. fit_both ps xs ys i && fit (top_numbers p (cells_both ps xs ys i)))
    ∙ (ap (λ b. (all_fit ps xs && all_fit ps ys) && b) (top_fit_both p (all_cells ps xs) (all_cells ps ys))
    ∙ and_pairs (all_fit ps xs) (all_fit ps ys) (fit (top_numbers p (all_cells ps xs))) (fit (top_numbers p (all_cells ps ys))))

-- of no rows
top_none : (p : PhysicalTree) → top_cells p [] ≡ []
top_none (physical.Scan t w) = refl
top_none (physical.Rows w rows) = refl
top_none (physical.Extend e p) = refl
top_none (physical.Keep places p) = refl
top_none (physical.Filter e p) = refl
top_none (physical.Nested e p q) = refl
top_none (physical.Hash places e p q) = refl
top_none (physical.Overlap at e p q) = refl
top_none (physical.Union p q) = refl
top_none (physical.Group keys aggs p) = refl

top_fit_none : (p : PhysicalTree) → fit (top_numbers p []) ≡ true
top_fit_none (physical.Scan t w) = refl
top_fit_none (physical.Rows w rows) = refl
top_fit_none (physical.Extend e p) = refl
top_fit_none (physical.Keep places p) = refl
top_fit_none (physical.Filter e p) = refl
top_fit_none (physical.Nested e p q) = refl
top_fit_none (physical.Hash places e p q) = refl
top_fit_none (physical.Overlap at e p q) = refl
top_fit_none (physical.Union p q) = refl
top_fit_none (physical.Group keys aggs p) = refl

pub cells_none : (ps : List PhysicalTree) → all_cells ps [] ≡ []
cells_none [] = refl
cells_none (p ∷ ps) = ap (top_cells p) (cells_none ps) ∙ top_none p

pub fit_none : (ps : List PhysicalTree) → all_fit ps [] ≡ true
fit_none [] = refl
fit_none (p ∷ ps) = (λ i. fit_none ps i && fit (top_numbers p (cells_none ps i))) ∙ top_fit_none p

-- operators above others
pub cells_above : (ps qs : List PhysicalTree) (rows : CellRows) → all_cells (ps ++ qs) rows ≡ all_cells ps (all_cells qs rows)
cells_above [] qs rows = refl
cells_above (p ∷ ps) qs rows = ap (top_cells p) (cells_above ps qs rows)

pub and_groups : (a b c : Bool) → (a && b) && c ≡ a && (b && c)
and_groups true b c = refl
and_groups false b c = refl

pub fit_above : (ps qs : List PhysicalTree) (rows : CellRows) → all_fit (ps ++ qs) rows ≡ all_fit qs rows && all_fit ps (all_cells qs rows)
fit_above [] qs rows = only (all_fit qs rows)
  where
    only : (b : Bool) → b ≡ b && true
    only true = refl
    only false = refl
fit_above (p ∷ ps) qs rows =
    (λ i. fit_above ps qs rows i && fit (top_numbers p (cells_above ps qs rows i)))
    ∙ and_groups (all_fit qs rows) (all_fit ps (all_cells qs rows)) (fit (top_numbers p (all_cells ps (all_cells qs rows))))

-- rows that are tested by the literal TRUE
true_passes : (rows : CellRows) → rows ≡ filter (cells_pass (term.Literal (Flag true))) rows
true_passes [] = refl
true_passes (row ∷ rows) = ap (λ (made : CellRows). row ∷ made) (true_passes rows)

true_fits : (rows : CellRows) → fit (flat_map (cell_numbers (term.Literal (Flag true))) rows) ≡ true
true_fits [] = refl
true_fits (row ∷ rows) = true_fits rows

pub all_pass : (e : PTerm) (rows : CellRows) → e ≡ term.Literal (Flag true) → (rows ≡ filter (cells_pass e) rows) × (fit (flat_map (cell_numbers e) rows) ≡ true)
all_pass e rows is = (
  true_passes rows ∙ ap (λ (t : PTerm). filter (cells_pass t) rows) (sym is),
  ap (λ (t : PTerm). fit (flat_map (cell_numbers t) rows)) is ∙ true_fits rows,
)

-- ---- calls one after the other

both_true : (a b : Bool) → a ≡ true → b ≡ true → (a && b) ≡ true
both_true true b is h = h
both_true false b is h = is

second_false : (a b : Bool) → b ≡ false → (a && b) ≡ false
second_false true b h = h
second_false false b h = refl

-- those above work on what those below leave
pub worked_above : (ps os qs : List PhysicalTree) (rows made : CellRows) (result : Result CellRows EvalFault)
    → os ≡ ps → made ≡ all_cells qs rows → all_fit qs rows ≡ true → WorkedAll os made result → WorkedAll (ps ++ qs) rows result
worked_above ps os qs rows made (Ok b) same is fits h =
    let whole : all_cells os made ≡ all_cells (ps ++ qs) rows = (λ i. all_cells (same i) (is i)) ∙ sym (cells_above ps qs rows) in
    let numbers : all_fit os made ≡ all_fit ps (all_cells qs rows) = λ i. all_fit (same i) (is i) in
    (h.0 ∙ whole, fit_above ps qs rows ∙ both_true (all_fit qs rows) (all_fit ps (all_cells qs rows)) fits (sym numbers ∙ h.1))
worked_above ps os qs rows made (Err f) same is fits h = λ over.
    let numbers : all_fit os made ≡ all_fit ps (all_cells qs rows) = λ i. all_fit (same i) (is i) in
    fit_above ps qs rows ∙ second_false (all_fit qs rows) (all_fit ps (all_cells qs rows)) (sym numbers ∙ h over)

pub worked_below : (ps qs : List PhysicalTree) (rows : CellRows) → all_fit qs rows ≡ false → all_fit (ps ++ qs) rows ≡ false
worked_below ps qs rows h = fit_above ps qs rows ∙ ap (λ b. b && all_fit ps (all_cells qs rows)) h
