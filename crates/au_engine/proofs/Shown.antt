-- The numbers of an answer are those of its tree and of its rows as they are shown, and the rows of a tree whose numbers
-- fit have triples that fit.
use Rattle.std.proofs.Common.{◌≡◌, ℕ, length, Bool, true, false, ◌&&◌, not, List, [], ◌∷◌, ◌++◌, map, filter, flat_map, take, refl, sym, ◌∙◌, ap, cond, Some, subst, if◌then◌else◌}
use Rattle.std.specs.Prelude.{ℤ, pos, is_some}
use Rattle.std.specs.List.{list_all, AllByRecursion, AllZip}
use Rattle.std.proofs.lemmas.List.{length-map}
use Rattle.std.proofs.lemmas.List.Folds.{list_all-append}
use Rattle.au_value.specs.Order.{data_kind}
use Rattle.au_value.specs.declared.kinds.Kind.{Kind}
use Rattle.au_expr.specs.Numbers.{expr_numbers}
use Rattle.au_expr.specs.OnRanges.{range_of}
use Rattle.au_value.specs.Ranges.{Span}
use Rattle.au_value.specs.Numeral.{is_i128}
use Rattle.au_annot.specs.Triples.{is_none}
use Rattle.au_algebra.specs.Entries.{entry}
use Rattle.au_algebra.specs.Trees.{Tree, Table, Select, Project, Product, Union, Difference, Distinct, Group, Total}
use Rattle.au_algebra.specs.Typing.{IsTyped, kinds_of}
use Rattle.au_algebra.specs.Laws.{IsRelation}
use Rattle.au_algebra.specs.Bounded.{Bounded, RangeRow, bounded, bounded_answer, combine, normal}
use Rattle.au_algebra.specs.Fits.{difference_sums, fits, grouping_numbers, numbers, triple_numbers, triples_fit}
use Rattle.au_algebra.proofs.TreeRelation.{answer_is_relation, tree_relation}
use Rattle.au_blocks.specs.Tables.{BlockTable, IsBlockTable, column_kinds}
use Rattle.au_blocks.specs.declared.column.Column.{Column}
use Rattle.au_translate.specs.Headline.{HoldsInEveryWorld}
use Rattle.au_translate.specs.Translate.{bounded_table}
use Rattle.au_translate.proofs.BoundedAnswer.{bounded_answer_holds}
use Rattle.au_program.proofs.RelationColumns.{have_columns}
use Rattle.au_engine.specs.Answers.{combined_normal_fits}
use Rattle.au_engine.proofs.TableRelations.{are_relations}

first_true : (a b : Bool) → (a && b) ≡ true → a ≡ true
first_true true b e = refl
first_true false b e = e

second_true : (a b : Bool) → (a && b) ≡ true → b ≡ true
second_true true b e = e
second_true false true e = refl
second_true false false e = e

both_true : (a b : Bool) → a ≡ true → b ≡ true → (a && b) ≡ true
both_true true true e f = refl
both_true true false e f = f
both_true false b e f = e

fit : List ℤ → Bool
fit ns = list_all is_i128 ns

fit_left : (xs ys : List ℤ) → fit (xs ++ ys) ≡ true → fit xs ≡ true
unfolding fit
fit_left xs ys e = first_true (list_all is_i128 xs) (list_all is_i128 ys) (sym (list_all-append is_i128 xs ys) ∙ e)

fit_right : (xs ys : List ℤ) → fit (xs ++ ys) ≡ true → fit ys ≡ true
unfolding fit
fit_right xs ys e = second_true (list_all is_i128 xs) (list_all is_i128 ys) (sym (list_all-append is_i128 xs ys) ∙ e)

-- ---- rows whose triples fit

own : RangeRow → Bool
own r = list_all is_i128 (pos r.annot.least ∷ pos r.annot.guess ∷ pos r.annot.most ∷ [])

fits_cons : (r : RangeRow) (rows : Bounded) → triples_fit (r ∷ rows) ≡ (own r && triples_fit rows)
unfolding own
fits_cons r rows = list_all-append is_i128 (pos r.annot.least ∷ pos r.annot.guess ∷ pos r.annot.most ∷ []) (triple_numbers rows)

more_fits : (r : RangeRow) (rows : Bounded) → own r ≡ true → triples_fit rows ≡ true → triples_fit (r ∷ rows) ≡ true
more_fits r rows o h = fits_cons r rows ∙ both_true (own r) (triples_fit rows) o h

own_fits : (r : RangeRow) (rows : Bounded) → triples_fit (r ∷ rows) ≡ true → own r ≡ true
own_fits r rows h = first_true (own r) (triples_fit rows) (sym (fits_cons r rows) ∙ h)

rest_fits : (r : RangeRow) (rows : Bounded) → triples_fit (r ∷ rows) ≡ true → triples_fit rows ≡ true
rest_fits r rows h = second_true (own r) (triples_fit rows) (sym (fits_cons r rows) ∙ h)

filter_if : (b : Bool) (r : RangeRow) (rest : Bounded) → own r ≡ true → triples_fit rest ≡ true → triples_fit (cond b (r ∷ rest) rest) ≡ true
filter_if true r rest o h = more_fits r rest o h
filter_if false r rest o h = h

filter_fits : (p : RangeRow → Bool) (rows : Bounded) → triples_fit rows ≡ true → triples_fit (filter p rows) ≡ true
filter_fits p [] h = refl
filter_fits p (r ∷ rows) h = filter_if (p r) r (filter p rows) (own_fits r rows h) (filter_fits p rows (rest_fits r rows h))

map_fits : (f : RangeRow → List Span) (rows : Bounded) → triples_fit rows ≡ true → triples_fit (map (λ r. entry (f r) r.annot) rows) ≡ true
unfolding own
map_fits f [] h = refl
map_fits f (r ∷ rows) h = more_fits (entry (f r) r.annot) (map (λ s. entry (f s) s.annot) rows) (own_fits r rows h) (map_fits f rows (rest_fits r rows h))

append_fits : (xs ys : Bounded) → triples_fit xs ≡ true → triples_fit ys ≡ true → triples_fit (xs ++ ys) ≡ true
append_fits [] ys h k = k
append_fits (x ∷ xs) ys h k = more_fits x (xs ++ ys) (own_fits x xs h) (append_fits xs ys (rest_fits x xs h) k)

-- ---- the rows of a tree

as_triples : (rows : Bounded) → fit (triple_numbers rows) ≡ true → triples_fit rows ≡ true
unfolding fit
as_triples rows h = h

result_fits : (q : Tree) (ts : List Bounded) → fit (numbers q ts) ≡ true → triples_fit (bounded q ts) ≡ true
result_fits (Table i) ts h = as_triples (bounded (Table i) ts) h
result_fits (Select e q) ts h =
    let own_terms = flat_map (λ r. expr_numbers e r.cells) (bounded q ts) in
    let rows = triple_numbers (bounded (Select e q) ts) in
    as_triples (bounded (Select e q) ts) (fit_right own_terms rows (fit_right (numbers q ts) (own_terms ++ rows) h))
result_fits (Project items q) ts h =
    let below = fit_left (numbers q ts) (flat_map (λ r. flat_map (λ e. expr_numbers e r.cells) items) (bounded q ts)) h in
    filter_fits (λ r. not (is_none r.annot)) (map (λ r. entry (map (λ e. range_of e r.cells) items) r.annot) (bounded q ts))
    (map_fits (λ r. map (λ e. range_of e r.cells) items) (bounded q ts) (result_fits q ts below))
result_fits (Product a b) ts h =
    let rows = triple_numbers (bounded (Product a b) ts) in
    as_triples (bounded (Product a b) ts) (fit_right (numbers b ts) rows (fit_right (numbers a ts) (numbers b ts ++ rows) h))
result_fits (Union a b) ts h =
    filter_fits (λ r. not (is_none r.annot)) (bounded a ts ++ bounded b ts)
    (append_fits (bounded a ts) (bounded b ts) (result_fits a ts (fit_left (numbers a ts) (numbers b ts) h)) (result_fits b ts (fit_right (numbers a ts) (numbers b ts) h)))
result_fits (Difference a b) ts h =
    let combined = triple_numbers (combine (bounded a ts)) in
    let sums = flat_map (difference_sums (bounded b ts)) (combine (bounded a ts)) in
    let rows = triple_numbers (bounded (Difference a b) ts) in
    as_triples (bounded (Difference a b) ts)
    (fit_right sums rows (fit_right combined (sums ++ rows) (fit_right (numbers b ts) (combined ++ (sums ++ rows)) (fit_right (numbers a ts) (numbers b ts ++ (combined ++ (sums ++ rows))) h))))
result_fits (Distinct q) ts h =
    as_triples (bounded (Distinct q) ts) (fit_right (numbers q ts) (triple_numbers (bounded (Distinct q) ts)) h)
result_fits (Group keys aggs q) ts h =
    let groups = grouping_numbers (take keys) aggs (bounded q ts) in
    let rows = triple_numbers (bounded (Group keys aggs q) ts) in
    as_triples (bounded (Group keys aggs q) ts) (fit_right groups rows (fit_right (numbers q ts) (groups ++ rows) h))
result_fits (Total aggs q) ts h = refl

-- ---- the numbers of the answer

fits_is : (combined : Bool) (q : Tree) (ts : List Bounded) → fits combined q ts ≡ (fit (numbers q ts) && combined_normal_fits combined (bounded q ts))
unfolding fit
fits_is true q ts =
    let rows = combine (bounded q ts) in
    list_all-append is_i128 (numbers q ts) (triple_numbers rows ++ triple_numbers (normal rows))
    ∙ ap (λ b. list_all is_i128 (numbers q ts) && b) (list_all-append is_i128 (triple_numbers rows) (triple_numbers (normal rows)))
fits_is false q ts =
    let rows = bounded q ts in
    list_all-append is_i128 (numbers q ts) (triple_numbers rows ++ triple_numbers (normal rows))
    ∙ ap (λ b. list_all is_i128 (numbers q ts) && b) (list_all-append is_i128 (triple_numbers rows) (triple_numbers (normal rows)))

pub answer_fits : (combined : Bool) (q : Tree) (ts : List Bounded) → list_all is_i128 (numbers q ts) ≡ true
    → (triples_fit (bounded q ts) ≡ true → combined_normal_fits combined (bounded q ts) ≡ true) → fits combined q ts ≡ true
unfolding fit
answer_fits combined q ts h shown =
    fits_is combined q ts ∙ both_true (list_all is_i128 (numbers q ts)) (combined_normal_fits combined (bounded q ts)) h (shown (result_fits q ts h))

pub evaluation_overflows : (combined : Bool) (q : Tree) (ts : List Bounded) → list_all is_i128 (numbers q ts) ≡ false → fits combined q ts ≡ false
unfolding fit
evaluation_overflows combined q ts h = fits_is combined q ts ∙ ap (λ b. b && combined_normal_fits combined (bounded q ts)) h

second_false : (a b : Bool) → b ≡ false → (a && b) ≡ false
second_false true b e = e
second_false false b e = refl

pub showing_overflows : (combined : Bool) (q : Tree) (ts : List Bounded) → combined_normal_fits combined (bounded q ts) ≡ false → fits combined q ts ≡ false
showing_overflows combined q ts h = fits_is combined q ts ∙ second_false (fit (numbers q ts)) (combined_normal_fits combined (bounded q ts)) h

pub normal_overflows : (combined : Bool) (q : Tree) (ts : List Bounded) → triples_fit (bounded_answer combined q ts) ≡ false → fits combined q ts ≡ false
normal_overflows combined q ts h =
    showing_overflows combined q ts (second_false (triples_fit (if combined then combine (bounded q ts) else bounded q ts)) (triples_fit (bounded_answer combined q ts)) h)

-- ---- what the evaluation is given

pub can_evaluate : (ts : List BlockTable) (q : Tree) (ks : List Kind) (rels : List Bounded) → kinds_of (map column_kinds ts) q ≡ Some ks
    → rels ≡ map bounded_table ts → AllByRecursion IsBlockTable ts → (kinds : List (List Kind)) × IsTyped kinds q × AllZip IsRelation kinds rels
can_evaluate ts q ks rels typed e ok = (map column_kinds ts, ap is_some typed, are_relations ts rels e ok)

pub rows_relation : (ts : List BlockTable) (q : Tree) (ks : List Kind) (rows : Bounded) → kinds_of (map column_kinds ts) q ≡ Some ks
    → rows ≡ bounded q (map bounded_table ts) → AllByRecursion IsBlockTable ts → (js : List Kind) × IsRelation js rows
rows_relation ts q ks rows typed e ok =
    (ks, subst (IsRelation ks) (sym e) (tree_relation (map column_kinds ts) (map bounded_table ts) (are_relations ts (map bounded_table ts) refl ok) q ks typed))

-- ---- what holds of the answer

-- the answer of a tree whose kinds are these, over block tables
pub record Answered (ts : List BlockTable) (q : Tree) (ks : List Kind) (rows : Bounded) : Type 0 where
  pub relation : IsRelation ks rows
  pub holds : HoldsInEveryWorld q ts rows

pub answered : (combined : Bool) (ts : List BlockTable) (q : Tree) (ks : List Kind) (rows : Bounded) → AllByRecursion IsBlockTable ts
    → kinds_of (map column_kinds ts) q ≡ Some ks → rows ≡ bounded_answer combined q (map bounded_table ts) → Answered ts q ks rows
answered combined ts q ks rows ok typed e = record {
  relation = subst (IsRelation ks) (sym e) (answer_is_relation combined q (map column_kinds ts) ks (map bounded_table ts) typed (are_relations ts (map bounded_table ts) refl ok));
  holds = subst (HoldsInEveryWorld q ts) (sym e) (bounded_answer_holds combined q ts ok (ap is_some typed));
}

-- each row has as many ranges as there are names
pub as_wide : (ks : List Kind) (names : List (List ℕ)) (columns : List Column) (rows : Bounded) → names ≡ map (λ c. c.name) columns → ks ≡ map data_kind (map (λ c. c.kind) columns)
    → IsRelation ks rows → AllByRecursion (λ r. length r.cells ≡ length names) rows
as_wide ks names columns rows named kinds ok =
    have_columns ks (length names) rows
    (ap length kinds ∙ length-map (map (λ c. c.kind) columns) data_kind ∙ length-map columns (λ c. c.kind) ∙ sym (ap length named ∙ length-map columns (λ c. c.name))) ok
