-- A condition that is written.
use Rattle.std.proofs.Common.{sym, subst}
use Rattle.au_parse.specs.Views.{condition_view, term_tree}
use Rattle.au_typing.specs.Results.{ClauseAnswers, scope_view, setting_view}
use Rattle.au_typing.proofs.Steps.{clause_step}
use Rattle.au_typing.proofs.select.condition.Goals as goal

pub returns-in-Some : goal.returns-in-Some
returns-in-Some c =
    subst (λ clause. ClauseAnswers (scope_view c.args.scope.now) (setting_view c.args.setting.now) (condition_view clause) c.args.gathered.now c.typed_term-found.new.gathered c.flag.result) (sym c.in-Some.is)
    (clause_step (scope_view c.args.scope.now) (setting_view c.args.setting.now) c.in-Some.at (term_tree c.in-Some.what) c.args.gathered.now c.typed_term-found.new.gathered c.typed_term-found.result c.flag.result
    c.typed_term-found.ensures c.flag.ensures)
