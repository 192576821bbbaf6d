-- Rows that pass several tests, which are parted, split or put together.
use Rattle.std.specs.Prelude.{◌≡◌, Bool, true, false, not, ◌&&◌, cond, List, [], ◌∷◌, ◌++◌, filter}
use Rattle.std.proofs.Common.{refl, sym, ◌∙◌, ap}
use Rattle.std.proofs.Math.Bool.{and_assoc}
use Rattle.std.proofs.lemmas.List.Folds.{list_all-append}
use Rattle.au_value.specs.declared.value.Value.{Value}
use Rattle.au_algebra.specs.Ordinary.{Rows}
use Rattle.au_algebra.proofs.Filters.{filter_all}
use Rattle.au_plain.specs.PTerms.{PTerm}
use Rattle.au_plain.specs.Meaning.{passes, plain_rows}
use Rattle.au_plain.specs.Plans.{PlanTree}
use Rattle.au_passes.specs.Conditions.{condition, conjuncts}
use Rattle.au_passes.specs.Pushing.{filtered_by}
use Rattle.au_passes.specs.Tests.{without_arithmetic, movable, staying, tests_hold}
use Rattle.au_passes.proofs.Conjunctions.{of_conjuncts, of_condition, passing_both}

and_swap : (a b c : Bool) → (a && (b && c)) ≡ (b && (a && c))
and_swap true b c = refl
and_swap false true c = refl
and_swap false false c = refl

part_if :
    (b : Bool) (e : PTerm) (ys ns : List PTerm) (row : List Value) (h : Bool) → h ≡ (tests_hold ys row && tests_hold ns row) →
    (passes e row && h) ≡ (tests_hold (cond b (e ∷ ys) ys) row && tests_hold (cond (not b) (e ∷ ns) ns) row)
part_if true e ys ns row h eq = ap (λ x. passes e row && x) eq ∙ sym (and_assoc (passes e row) (tests_hold ys row) (tests_hold ns row))
part_if false e ys ns row h eq = ap (λ x. passes e row && x) eq ∙ and_swap (passes e row) (tests_hold ys row) (tests_hold ns row)

-- of some tests and of the others
pub holds_parted : (test : PTerm → Bool) (es : List PTerm) (row : List Value) → tests_hold es row ≡ (tests_hold (filter test es) row && tests_hold (filter (λ e. not (test e)) es) row)
holds_parted test [] row = refl
holds_parted test (e ∷ es) row =
    part_if (test e) e (filter test es) (filter (λ e. not (test e)) es) row (tests_hold es row) (holds_parted test es row)

pub holds_append : (es fs : List PTerm) (row : List Value) → tests_hold (es ++ fs) row ≡ (tests_hold es row && tests_hold fs row)
holds_append es fs row = list_all-append (λ e. passes e row) es fs

-- of the conjuncts of a condition
pub holds_conjuncts : (e : PTerm) (row : List Value) → tests_hold (conjuncts e) row ≡ passes e row
holds_conjuncts e row = sym (of_conjuncts (λ c. passes c row) (passing_both row) e)

-- of those without arithmetic and the others
pub holds_split : (e : PTerm) (row : List Value) → (tests_hold (movable e) row && tests_hold (staying e) row) ≡ passes e row
holds_split e row = sym (holds_parted without_arithmetic (conjuncts e) row) ∙ holds_conjuncts e row

-- the condition of some tests
pub passes_condition : (es : List PTerm) (row : List Value) → passes (condition es) row ≡ tests_hold es row
passes_condition es row = of_condition (λ c. passes c row) (passing_both row) es

-- the rows of a plan that pass each of some tests
pub filtered_by_rows : (es : List PTerm) (p : PlanTree) (ts : List Rows) → plain_rows (filtered_by es p) ts ≡ filter (tests_hold es) (plain_rows p ts)
filtered_by_rows [] p ts = sym (filter_all (plain_rows p ts))
filtered_by_rows (e ∷ es) p ts = λ i. filter (λ row. passes_condition (e ∷ es) row i) (plain_rows p ts)
