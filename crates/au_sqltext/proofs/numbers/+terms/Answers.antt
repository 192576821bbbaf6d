-- The parts of Least and Greatest stand in a list.
use Rattle.std.proofs.Common.{◌≡◌, ap, map, true, subst, sym, ◌∙◌}
use Rattle.std.specs.List.{list_all}
use Rattle.au_plain.specs.declared.expr.PExpr.{PExpr}
use Rattle.au_plain.specs.PTerms.{pterm}
use Rattle.au_sqltext.specs.Fitting.{term_fits}
use Rattle.au_sqltext.proofs.HeldNumbers.{greatest_fits, least_fits}
use Rattle.au_sqltext.proofs.numbers.+terms.Goals as goal

pub read_term-returns-in-Least : goal.read_term-returns-in-Least
read_term-returns-in-Least t c =
    ap (λ (x : PExpr). term_fits (pterm x)) c.in-Least.is
    ∙ least_fits c.in-Least.es (subst (λ es. list_all term_fits (map pterm es) ≡ true) c.deref-in-Least.ensures.value c.read_terms.ensures)

pub read_term-returns-in-Greatest : goal.read_term-returns-in-Greatest
read_term-returns-in-Greatest t c =
    ap (λ (x : PExpr). term_fits (pterm x)) c.in-Greatest.is
    ∙ greatest_fits c.in-Greatest.es (subst (λ es. list_all term_fits (map pterm es) ≡ true) c.deref-in-Greatest.ensures.value c.read_terms-in-Greatest.ensures)
