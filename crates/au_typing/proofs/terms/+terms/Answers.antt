-- The answer of each term from those of its parts.
use Rattle.std.proofs.Common.{◌≡◌, [], sym, subst}
use Rattle.std.specs.Prelude.{Contains}
use Rattle.au_parse.specs.Levels.{arms_tree, operator_of}
use Rattle.au_parse.specs.Views.{term_tree}
use Rattle.au_typing.specs.Results.{Answers, CaseAnswers, scope_view, setting_view}
use Rattle.au_typing.specs.Terms.{aggregate_faults, is_counting, is_extreme}
use Rattle.au_typing.proofs.Steps.{join_step, sign_step, choose_step, case_step, ends_case, aggregate_step, aggregate_misplaced}
use Rattle.au_typing.proofs.terms.+terms.Goals as goal

pub typed_term-returns-in-Column : goal.typed_term-returns-in-Column
typed_term-returns-in-Column t c =
    subst (λ tree. Answers (scope_view c.args.scope.now) (setting_view c.args.setting.now) c.args.around tree c.args.gathered.now c.args.gathered.now c.named_column.result) (sym c.in-Column.ensures)
    (c.named_column.ensures c.args.around c.args.gathered.now)

pub typed_term-returns-in-Binary : goal.typed_term-returns-in-Binary
typed_term-returns-in-Binary t c =
    subst (λ tree. Answers (scope_view c.args.scope.now) (setting_view c.args.setting.now) c.args.around tree c.args.gathered.now c.typed_term-right.new.gathered c.join.result) (sym c.in-Binary.ensures)
    (join_step (scope_view c.args.scope.now) (setting_view c.args.setting.now) c.args.around c.in-Binary.at (operator_of c.in-Binary.operation) (term_tree c.in-Binary.l.now) (term_tree c.in-Binary.r.now)
    c.args.gathered.now c.typed_term-left.new.gathered c.typed_term-right.new.gathered c.typed_term-left.result c.typed_term-right.result c.join.result
    c.typed_term-left.ensures c.typed_term-right.ensures c.join.ensures)

pub typed_term-returns-in-Unary : goal.typed_term-returns-in-Unary
typed_term-returns-in-Unary t c =
    subst (λ tree. Answers (scope_view c.args.scope.now) (setting_view c.args.setting.now) c.args.around tree c.args.gathered.now c.typed_term-inner.new.gathered c.sign.result) (sym c.in-Unary.ensures)
    (sign_step (scope_view c.args.scope.now) (setting_view c.args.setting.now) c.args.around c.in-Unary.at c.in-Unary.what_sign (term_tree c.in-Unary.e.now)
    c.args.gathered.now c.typed_term-inner.new.gathered c.typed_term-inner.result c.sign.result c.typed_term-inner.ensures c.sign.ensures)

pub typed_term-returns-in-Case : goal.typed_term-returns-in-Case
typed_term-returns-in-Case t c =
    subst (λ tree. Answers (scope_view c.args.scope.now) (setting_view c.args.setting.now) c.args.around tree c.args.gathered.now c.typed_case.new.gathered c.typed_case.result) (sym c.in-Case.ensures)
    (case_step (scope_view c.args.scope.now) (setting_view c.args.setting.now) c.args.around c.in-Case.at c.branches_kind-to.result c.in-Case.arms.now c.in-Case.otherwise.now
    c.args.gathered.now c.typed_case.new.gathered c.typed_case.result c.branches_kind-to.ensures.kind c.typed_case.ensures)

pub typed_term-returns-in-CountRows : goal.typed_term-returns-in-CountRows
typed_term-returns-in-CountRows t c =
    subst (λ tree. Answers (scope_view c.args.scope.now) (setting_view c.args.setting.now) c.args.around tree c.args.gathered.now c.counted_rows.new.gathered c.counted_rows.result) (sym c.in-CountRows.ensures)
    (c.counted_rows.ensures (scope_view c.args.scope.now) c.args.around)

pub typed_term-returns-in-Aggregate : goal.typed_term-returns-in-Aggregate
typed_term-returns-in-Aggregate t c =
    subst (λ tree. Answers (scope_view c.args.scope.now) (setting_view c.args.setting.now) c.args.around tree c.args.gathered.now c.typed_aggregate.new.gathered c.typed_aggregate.result) (sym c.in-Aggregate.ensures)
    (c.typed_aggregate.ensures c.args.around)

pub typed_case-returns-in_default : goal.typed_case-returns-in_default
typed_case-returns-in_default t c =
    ends_case (scope_view c.args.scope.now) (setting_view c.args.setting.now) c.args.around c.args.to c.args.arms.now c.args.otherwise.now c.args.gathered.now c.typed_term-value.new.gathered
    c.typed_term-value.result c.last_branch.result c.in_default.ensures.cases c.typed_term-value.ensures c.last_branch.ensures

pub typed_case-returns : goal.typed_case-returns
typed_case-returns t c =
    subst (λ arms. CaseAnswers (scope_view c.args.scope.now) (setting_view c.args.setting.now) c.args.around c.args.to (arms_tree arms (term_tree c.args.otherwise.now)) c.args.gathered.now c.typed_case-rest.new.gathered c.choose.result) (sym c.in-Some.ensures.cases.0)
    (choose_step (scope_view c.args.scope.now) (setting_view c.args.setting.now) c.args.around c.args.to (term_tree c.in-Some.arm.now.0) (term_tree c.in-Some.arm.now.1) (arms_tree c.in-Some.others.now (term_tree c.args.otherwise.now))
    c.args.gathered.now c.typed_term-condition.new.gathered c.typed_term-value-2.new.gathered c.typed_case-rest.new.gathered
    c.typed_term-condition.result c.typed_term-value-2.result c.typed_case-rest.result c.choose.result c.typed_term-condition.ensures c.typed_term-value-2.ensures c.typed_case-rest.ensures c.choose.ensures)

pub typed_aggregate-returns-in-Some : goal.typed_aggregate-returns-in-Some
typed_aggregate-returns-in-Some t c = λ around.
    let here : Contains (aggregate_faults (setting_view c.args.setting.now) c.args.at (is_extreme c.args.word) (is_counting c.args.word (term_tree c.args.e.now))) c.in-Some.fault =
    rw (← c.is_extreme.ensures, ← c.counts.ensures) c.in-Some.ensures.some in
    aggregate_misplaced (scope_view c.args.scope.now) (setting_view c.args.setting.now) around c.args.at c.args.word (term_tree c.args.e.now) c.in-Some.fault here

pub typed_aggregate-returns : goal.typed_aggregate-returns
typed_aggregate-returns t c = λ around.
    let sound : aggregate_faults (setting_view c.args.setting.now) c.args.at (is_extreme c.args.word) (is_counting c.args.word (term_tree c.args.e.now)) ≡ [] =
    rw (← c.is_extreme.ensures, ← c.counts.ensures) c.in_default.ensures.none in
    aggregate_step (scope_view c.args.scope.now) (setting_view c.args.setting.now) around c.args.at c.args.word (term_tree c.args.e.now)
    c.new-inside.result c.typed_term-argument.new.gathered c.args.gathered.now c.aggregated.new.gathered c.typed_term-argument.result c.aggregated.result
    sound c.new-inside.ensures.arguments c.typed_term-argument.ensures c.aggregated.ensures
