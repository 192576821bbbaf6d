-- The kind of a Least and of a Greatest is that of the first of its parts.
use Rattle.std.proofs.Common.{◌≡◌, sym, ap, ◌∙◌}
use Rattle.au_plain.specs.PTerms.{pterm}
use Rattle.au_plain.specs.PTerms as term
use Rattle.au_codes.specs.Gathering.{terms}
use Rattle.au_codes.proofs.CodedInPlace.{greatest_terms, least_terms}
use Rattle.au_exec.specs.KnownKinds.{term_kind}
use Rattle.au_exec.proofs.term_kinds.+kinds.Goals as goal

pub term_kind-returns-in-Least : goal.term_kind-returns-in-Least
term_kind-returns-in-Least t c =
    let is : pterm c.args.tree.now ≡ term.Least (terms c.deref-in-Least.result.now) = ap pterm c.in-Least.is ∙ least_terms c.in-Least.es ∙ ap (λ xs. term.Least (terms xs)) (sym c.deref-in-Least.ensures.value) in
    c.first_kind.ensures ∙ sym (ap (term_kind c.args.kinds.now) is)

pub term_kind-returns-in-Greatest : goal.term_kind-returns-in-Greatest
term_kind-returns-in-Greatest t c =
    let is : pterm c.args.tree.now ≡ term.Greatest (terms c.deref-in-Greatest.result.now) = ap pterm c.in-Greatest.is ∙ greatest_terms c.in-Greatest.es ∙ ap (λ xs. term.Greatest (terms xs)) (sym c.deref-in-Greatest.ensures.value) in
    c.first_kind-in-Greatest.ensures ∙ sym (ap (term_kind c.args.kinds.now) is)
