-- The plan reads the columns that it keeps, or whole rows.
use Rattle.std.specs.Prelude.{MatchOption}
use Rattle.std.proofs.Common.{◌≡◌, ◌∙◌, ℕ, Option, ap, map, subst, Vec, Global}
use Rattle.std.proofs.lemmas.Result.{IfOk-weaker}
use Rattle.au_physical.specs.Physicals.{physical_tree}
use Rattle.au_plain.specs.Meaning.{kept}
use Rattle.au_plan.specs.Narrowing.{Narrows}
use Rattle.au_program.proofs.ReadRows.{all_read, places_read}
use Rattle.au_engine.specs.CountedTables.{counted_guesses}
use Rattle.au_engine.proofs.running.reads.guesses_read.Goals as goal

pub returns-in-Some-clause-reads : goal.returns-in-Some-clause-reads
returns-in-Some-clause-reads g c =
    let whole = counted_guesses c.args.blocks in
    let old = physical_tree c.args.plan.now in
    let new = physical_tree c.narrow_scans.new.plan in
    let narrows = subst (λ (o : Option (Vec ℕ Global)). MatchOption o (new ≡ old) (λ ps. Narrows c.args.number ps.items old new)) c.in-Some.is c.in_ok-kept.ensures in
    IfOk-weaker c.kept_guesses.result _ _
    (λ rows is. places_read c.args.number c.in-Some.places.items whole rows old new (is ∙ ap (λ ps. map (kept ps) whole) c.deref.ensures.value) narrows)
    c.kept_guesses.ensures.rows

pub returns-in-None-clause-reads : goal.returns-in-None-clause-reads
returns-in-None-clause-reads g c =
    let whole = counted_guesses c.args.blocks in
    let old = physical_tree c.args.plan.now in
    let new = physical_tree c.narrow_scans.new.plan in
    let same = subst (λ (o : Option (Vec ℕ Global)). MatchOption o (new ≡ old) (λ ps. Narrows c.args.number ps.items old new)) c.in-None.is c.in_ok-kept.ensures in
    IfOk-weaker c.all_guesses.result _ _
    (λ rows is. all_read c.args.number whole rows old new is same)
    c.all_guesses.ensures.rows
