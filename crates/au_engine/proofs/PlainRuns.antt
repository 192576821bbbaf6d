-- What the run of a plan finds over the tables' guess rows, by a physical plan that stands for it.
use Rattle.std.specs.Prelude.{◌≡◌, false, List, map, Some, is_some}
use Rattle.std.specs.List.{AllByRecursion, AllZip}
use Rattle.std.proofs.Common.{sym, ◌∙◌, ap, subst}
use Rattle.std.proofs.lemmas.Bool.{false_from_ne_true, true≢false}
use Rattle.au_value.specs.declared.kinds.Kind.{Kind}
use Rattle.au_value.specs.Order.{kind_of}
use Rattle.au_expr.specs.Figures.{fit}
use Rattle.au_algebra.specs.Ordinary.{Rows}
use Rattle.au_blocks.specs.Tables.{IsBlockTable}
use Rattle.au_plain.specs.Meaning.{plain_rows}
use Rattle.au_plain.specs.PlanKinds.{FitTables, HaveKinds, IsTypedFor}
use Rattle.au_plain.specs.PlanNumbers.{plan_numbers}
use Rattle.au_plain.specs.Plans.{PlanTree}
use Rattle.au_physical.specs.PhysicalKinds.{IsPhysicalFor}
use Rattle.au_physical.specs.PhysicalMeaning.{physical_rows}
use Rattle.au_physical.specs.PhysicalNumbers.{physical_numbers}
use Rattle.au_physical.specs.Physicals.{PhysicalTree}
use Rattle.au_plan.specs.Implements.{Implements}
use Rattle.au_plan.proofs.UpToOrder.{all_same}
use Rattle.au_exec.proofs.PlanKinds.{all_known}
use Rattle.au_print.specs.GuessTexts.{in_order}
use Rattle.au_engine.specs.Answers.{Named, blocks_of, guess_tables}
use Rattle.au_engine.specs.Exchange.{plain_answer, plain_fits, plain_kinds, value_kinds}
use Rattle.au_engine.proofs.GuessRows.{guesses_have_kinds}
use Rattle.au_engine.proofs.OrderedRows.{same_in_order, same_order}

module _
    (ts : List Named) (p : PlanTree) (q : PhysicalTree) (stands : Implements p q) (ok : AllByRecursion IsBlockTable (blocks_of ts))
    (held : List Rows) (is : held ≡ guess_tables ts) (ks : List Kind) (typed : plain_kinds ts p ≡ Some ks)
  where
    have_kinds : AllZip HaveKinds (value_kinds ts) held
    have_kinds = subst (AllZip HaveKinds (value_kinds ts)) (sym is) (guesses_have_kinds (blocks_of ts) ok)

    typed_for : IsTypedFor held p
    typed_for = record { kinds = value_kinds ts; tables = have_kinds; typed = ap is_some typed }

    -- the physical plan can be run
    pub can_start : IsPhysicalFor held q
    can_start = record { kinds = value_kinds ts; tables = have_kinds; typed = ap is_some (stands.typed (value_kinds ts) ks typed) }

    -- its rows in order are the answer
    pub is_answer : (found made : Rows) → found ≡ physical_rows q held → made ≡ in_order found → made ≡ plain_answer ts p
    is_answer found made from sorted =
        sorted ∙ ap in_order from
        ∙ same_order (physical_rows q held) (plain_rows p held) (stands.rows held typed_for)
        ∙ ap (λ us. in_order (plain_rows p us)) is

    -- they have the plan's kinds
    pub answer_kinds : (found made : Rows) → found ≡ physical_rows q held → made ≡ in_order found → HaveKinds ks made
    answer_kinds found made from sorted =
        subst (HaveKinds ks) (sym (sorted ∙ ap in_order from))
        (all_same (λ row. map kind_of row ≡ ks) (in_order (physical_rows q held)) (physical_rows q held) (same_in_order (physical_rows q held))
        (all_known (value_kinds ts) held have_kinds q ks (stands.typed (value_kinds ts) ks typed)).kinds)

    -- the run leaves the range only where a number of the plan does
    pub leaves_range : FitTables held → fit (physical_numbers q held) ≡ false → plain_fits ts p ≡ false
    leaves_range fits not =
        false_from_ne_true (plain_fits ts p)
        (λ f. true≢false (sym (stands.numbers held fits typed_for (ap (λ us. fit (plan_numbers p us)) is ∙ f)) ∙ not))
