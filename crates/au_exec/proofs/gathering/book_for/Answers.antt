-- The texts of the book were gathered from the sources, and then from the plan.
use Rattle.std.proofs.Common.{◌∙◌, ap, subst}
use Rattle.au_physical.specs.Physicals.{physical_tree}
use Rattle.au_codes.specs.Books.{IsBookOf}
use Rattle.au_codes.specs.Gathering.{with_plan, with_tables}
use Rattle.au_exec.proofs.gathering.book_for.Goals as goal

pub returns-clause-tables : goal.returns-clause-tables
returns-clause-tables c =
    let ts = c.args.sources.now in
    let p = physical_tree c.args.plan.now in
    let texts = c.in_ok-add_plan.ensures ∙ ap (λ t. with_plan t p) (c.in_ok-add_all.ensures ∙ ap (λ t. with_tables t ts) c.new-texts.ensures) in
    let is = subst (λ t. IsBookOf t c.in_ok-book.book) texts c.in_ok-book.ensures in
    (c.gathered_are_known.ensures p ts c.in_ok-book.book is).0

pub returns-clause-plan : goal.returns-clause-plan
returns-clause-plan c =
    let ts = c.args.sources.now in
    let p = physical_tree c.args.plan.now in
    let texts = c.in_ok-add_plan.ensures ∙ ap (λ t. with_plan t p) (c.in_ok-add_all.ensures ∙ ap (λ t. with_tables t ts) c.new-texts.ensures) in
    let is = subst (λ t. IsBookOf t c.in_ok-book.book) texts c.in_ok-book.ensures in
    (c.gathered_are_known.ensures p ts c.in_ok-book.book is).1
