-- What one row adds to a pass, by its parts.
use Rattle.std.specs.Prelude.{◌≡◌, Bool, List, [], ◌∷◌, ◌++◌, map, flat_map}
use Rattle.std.proofs.Common.{refl, ◌∙◌, ap}
use Rattle.au_value.specs.declared.kinds.Kind.{Kind}
use Rattle.au_expr.specs.Terms.{Term}
use Rattle.au_expr.specs.Evaluate.{Operators, evaluate}
use Rattle.au_expr.specs.Figures.{Figures}
use Rattle.au_algebra.specs.Entries.{Entry, entry}
use Rattle.au_algebra.specs.Positive.{Annotations}
use Rattle.au_keval.specs.Passes.{Passed, kept, projected, value_step, value_fits, KeepsKind, KeepKinds}
use Rattle.au_keval.specs.Reading.{project_fits}
use Rattle.au_keval.proofs.Passes.{passed_one}

-- the values of the items
values_are : {C : Type 0} (d : Operators C) (row : List C) (items : List Term) → flat_map (value_step d row) items ≡ map (λ e. evaluate d e row) items
values_are d row [] = refl
values_are d row (e ∷ items) = ap (λ vs. evaluate d e row ∷ vs) (values_are d row items)

-- a row of the items' values
pub projected_passed : {C K : Type 0} (d : Operators C) (n : Figures C) (a : Annotations C K) (in_range : K → Bool) (is_kind : Kind → C → Type 0) (items : List Term) (r : Entry C K) (cells : List C) (before after : List (Entry C K)) → Passed (value_step d r.cells) (value_fits d n r.cells) (KeepsKind d is_kind r.cells) items [] cells → after ≡ before ++ kept a (entry cells r.annot) → Passed (projected a d items) (project_fits d n a in_range items) (KeepKinds d is_kind items) (r ∷ []) before after
projected_passed d n a in_range is_kind items r cells before after p e =
    passed_one (projected a d items) (project_fits d n a in_range items) (KeepKinds d is_kind items) r before after
    (e ∙ ap (λ vs. before ++ kept a (entry vs r.annot)) (p.rows ∙ values_are d r.cells items))
    p.fits p.learned
