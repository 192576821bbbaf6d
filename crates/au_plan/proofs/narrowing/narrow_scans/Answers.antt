-- The plan that was made narrows the given one.
use Rattle.std.specs.Prelude.{List, ℕ, Option, option_map, true, length}
use Rattle.std.proofs.Common.{◌≡◌, ◌∙◌, ap, sym, Bor}
use Rattle.au_physical.specs.Physicals.{physical_tree}
use Rattle.au_plan.specs.TableScans.{reads}
use Rattle.au_plan.proofs.NarrowedScans.{narrows_computed}
use Rattle.au_plan.proofs.narrowing.narrow_scans.Goals as goal

abbrev shown : Option (Bor (List ℕ)) → Option (List ℕ)
shown found = option_map (λ places. places.now) found

pub returns : goal.returns
returns c =
    let read : reads c.args.table c.in-Some.places.now (physical_tree c.args.plan.now) ≡ true = sym c.reads.ensures ∙ c.if-not-reads.false in
    let long : c.len.result ≡ length c.in-Some.places.now = c.len.ensures ∙ c.in_ok-places.ensures.len in
    narrows_computed c.args.table c.len.result (shown c.first_places.result) c.in-Some.places.now c.in_ok-places.places.items (physical_tree c.args.plan.now) (physical_tree c.narrow.new.plan)
    c.first_places.ensures (ap shown c.in-Some.is) read c.in_ok-places.ensures.items long c.narrow.ensures
