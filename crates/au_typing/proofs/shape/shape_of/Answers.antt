-- A CASE is the list of its parts.
use Rattle.au_parse.proofs.CaseRows.{case_view}
use Rattle.au_typing.proofs.shape.shape_of.Goals as goal

pub returns-in-Case : goal.returns-in-Case
returns-in-Case c = rw (c.in-Case.is, c.as_slice.ensures.value, c.deref-in-Case.ensures) (case_view c.in-Case.at c.in-Case.arms c.in-Case.otherwise)
