-- The expressions so far are coded, and the others are as they were.
use Rattle.std.proofs.Common.{◌≡◌, ℕ, ◌<◌, get_or}
use Rattle.au_plain.specs.declared.expr.PExpr.{PExpr}
use Rattle.au_plain.specs.PTerms.{pterm}
use Rattle.au_codes.specs.CodedPlans.{coded_term}
use Rattle.au_codes.specs.TextCodes.{text_code}
use Rattle.au_codes.proofs.coding.+coding.Given as goal

abbrev pub invariant-code_exprs-loop-i : goal.invariant-code_exprs-loop-i
invariant-code_exprs-loop-i l =
    goal.unvisited-code_exprs-loop-i l
    × ((k : ℕ) (d : PExpr) → k < l.i → pterm (get_or l.es.items k d) ≡ coded_term (text_code l.book) (pterm (get_or l.initial.es.items k d)))
