-- What is shown of a tree, by the plan of its relation: what its run gives is a relation of one normal form.
use Rattle.std.specs.Prelude.{◌≡◌, ℕ, Bool, false, true, List, [], ◌++◌, map, Some, ℤ, if◌then◌else◌}
use Rattle.std.proofs.Common.{refl, sym, ◌∙◌, ap, subst, append-nil}
use Rattle.std.proofs.lemmas.Bool.{false_from_ne_true}
use Rattle.au_value.specs.declared.kinds.Kind.{Kind}
use Rattle.au_expr.specs.Figures.{Fit}
use Rattle.au_expr.proofs.Fits.{fit_both, fit_parts}
use Rattle.au_algebra.specs.Bounded.{Bounded, combine, normal}
use Rattle.au_algebra.specs.Fits.{triple_numbers}
use Rattle.au_algebra.specs.Ordinary.{Rows}
use Rattle.au_algebra.specs.Trees.{Tree}
use Rattle.au_algebra.specs.Typing.{IsTyped, kinds_of}
use Rattle.au_blocks.specs.Tables.{column_kinds}
use Rattle.au_translate.specs.Translate.{bounded_table}
use Rattle.au_plain.specs.Plans.{PlanTree}
use Rattle.au_encode.specs.Encode.{encode}
use Rattle.au_encode.proofs.Decoded.{rows_back}
use Rattle.au_program.specs.Rules.{tree_numbers, tree_rows}
use Rattle.au_program.specs.declared.rules.Rules.{Rules}
use Rattle.au_program.specs.Stages.{Adds, AddsTree, CanRunPlan, Decodes, LeavesRange, Shows}
use Rattle.au_program.proofs.Materialized.{combined_adds}
use Rattle.au_program.proofs.Operators.{typed_kinds}
use Rattle.au_program.proofs.Reordered.{normal_same}
use Rattle.au_program.proofs.RelationColumns.{have_columns}
use Rattle.au_program.proofs.StageRuns.{adds_relation}
use Rattle.au_engine.specs.Answers.{Named, blocks_of, tree_asked, tree_asked_fits}
use Rattle.au_engine.proofs.AskedAnswers.{asked_is, parts_fit, shown_rows}

-- the numbers of the relation that is shown
abbrev own_numbers : Bool → Bounded → List ℤ
own_numbers combined rows = if combined then triple_numbers (combine rows) else []

-- the plan of what is shown
shown_by :
    (combined : Bool) (held : List Rows) (of p : PlanTree) (c d : ℕ) (ks : List Kind) (rows : Bounded) (ns : List ℤ) → d ≡ c → Shows combined c of p →
    Adds [] held of c ks rows ns → Adds [] held p d ks (shown_rows combined rows) (ns ++ own_numbers combined rows)
shown_by true held of p c d ks rows ns wide shows a =
    combined_adds held of c p d wide shows ks rows ns a
shown_by false held of p c d ks rows ns wide shows a =
    subst (λ ms. Adds [] held p d ks rows ms) (sym (append-nil ns))
    (subst (λ q. Adds [] held q d ks rows ns) (sym shows) (subst (λ n. Adds [] held of n ks rows ns) (sym wide) a))

-- the numbers of the answer hold those of the plan
answer_holds : (combined : Bool) (rows : Bounded) (ns more : List ℤ) → Fit (ns ++ (triple_numbers (shown_rows combined rows) ++ more)) → Fit (ns ++ own_numbers combined rows)
answer_holds true rows ns more f =
    let p = fit_parts ns (triple_numbers (combine rows) ++ more) f in
    fit_both ns (triple_numbers (combine rows)) p.0 (fit_parts (triple_numbers (combine rows)) more p.1).0
answer_holds false rows ns more f = fit_both ns [] (fit_parts ns (triple_numbers rows ++ more) f).0 refl

module _ (rules : Rules) (combined : Bool) (ts : List Named) (q : Tree) (typed : IsTyped (map column_kinds (blocks_of ts)) q) where
  abbrev tables : List Bounded
  tables = map bounded_table (blocks_of ts)

  abbrev rows : Bounded
  rows = tree_rows rules q tables

  abbrev ns : List ℤ
  ns = tree_numbers rules q tables

  module _ (held : List Rows) (of p : PlanTree) (c d : ℕ) (wide : d ≡ c) (shows : Shows combined c of p) (part : AddsTree rules (blocks_of ts) q [] held of c) where
    shown_adds : (ks : List Kind) → kinds_of (map column_kinds (blocks_of ts)) q ≡ Some ks → Adds [] held p d ks (shown_rows combined rows) (ns ++ own_numbers combined rows)
    shown_adds ks e = shown_by combined held of p c d ks rows ns wide shows (part ks e)

    pub shown_runs : CanRunPlan held p d
    shown_runs =
        let k = typed_kinds (map column_kinds (blocks_of ts)) q typed in
        (k.0, (shown_rows combined rows, (ns ++ own_numbers combined rows, shown_adds k.0 k.1)))

    -- what the plan's run gives is of the answer's normal form
    pub shown_decodes : (rel : Bounded) → Decodes held p d rel → normal rel ≡ tree_asked rules combined ts q
    shown_decodes rel decodes =
        let k = typed_kinds (map column_kinds (blocks_of ts)) q typed in
        let shown = shown_rows combined rows in
        let own = ns ++ own_numbers combined rows in
        let a = shown_adds k.0 k.1 in
        let relation = adds_relation held p d k.0 shown own a decodes.0 in
        let found = decodes.1 k.0 shown own a in
        ap normal found.1.0
        ∙ (normal_same d found.0 (encode shown) found.1.1 ∙ (ap normal (rows_back d shown (have_columns k.0 d shown a.columns relation)) ∙ sym (asked_is rules combined ts q)))

    pub shown_leaves : LeavesRange held p d → tree_asked_fits rules combined ts q ≡ false
    shown_leaves leaves =
        let k = typed_kinds (map column_kinds (blocks_of ts)) q typed in
        false_from_ne_true (tree_asked_fits rules combined ts q)
        (λ f. leaves k.0 (shown_rows combined rows) (ns ++ own_numbers combined rows) (shown_adds k.0 k.1)
        (answer_holds combined rows ns (triple_numbers (normal (shown_rows combined rows))) (parts_fit rules combined ts q f)))

-- a number of the tree that leaves the range is one of the answer
pub tree_leaves : (rules : Rules) (combined : Bool) (ts : List Named) (q : Tree) → ¬ (Fit (tree_numbers rules q (map bounded_table (blocks_of ts)))) → tree_asked_fits rules combined ts q ≡ false
tree_leaves rules combined ts q h =
    let tables = map bounded_table (blocks_of ts) in
    let rows = shown_rows combined (tree_rows rules q tables) in
    false_from_ne_true (tree_asked_fits rules combined ts q) (λ f. h (fit_parts (tree_numbers rules q tables) (triple_numbers rows ++ triple_numbers (normal rows)) (parts_fit rules combined ts q f)).0)
