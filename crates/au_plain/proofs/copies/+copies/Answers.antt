-- The least and the greatest of copies are those of the expressions.
use Rattle.std.proofs.Common.{sym, ap, ◌∙◌, map}
use Rattle.au_plain.specs.PTerms.{pterm}
use Rattle.au_plain.proofs.TermLists.{least_same, greatest_same}
use Rattle.au_plain.proofs.copies.+copies.Goals as goal

pub copy_expr-returns-in_ok-copy_all-in-Least : goal.copy_expr-returns-in_ok-copy_all-in-Least
copy_expr-returns-in_ok-copy_all-in-Least t c =
    least_same c.in_ok-copy_all-in-Least.field-0 c.in-Least.es (c.in_ok-copy_all-in-Least.ensures ∙ ap (map pterm) c.deref-in-Least.ensures.value)
    ∙ sym (ap pterm c.in-Least.is)

pub copy_expr-returns-in_ok-copy_all-in-Greatest : goal.copy_expr-returns-in_ok-copy_all-in-Greatest
copy_expr-returns-in_ok-copy_all-in-Greatest t c =
    greatest_same c.in_ok-copy_all-in-Greatest.field-0 c.in-Greatest.es (c.in_ok-copy_all-in-Greatest.ensures ∙ ap (map pterm) c.deref-in-Greatest.ensures.value)
    ∙ sym (ap pterm c.in-Greatest.is)
