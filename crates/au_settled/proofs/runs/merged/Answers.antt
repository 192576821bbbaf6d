-- What the pass gives is the normal form, since the places are sorted.
use Rattle.std.specs.Ordering.{is_eq}
use Rattle.std.proofs.Common.{◌≡◌, ◌++◌, ◌∷◌, ◌*◌, ◌<◌, [], ℕ, List, suc, false, refl, sym, ◌∙◌, ap, subst, map, take, drop, drop-cons, get_or, length, Err}
use Rattle.std.specs.List.{AllByRecursion}
use Rattle.std.proofs.lemmas.List.{take-append-drop, take_all, take_more}
use Rattle.au_algebra.specs.Fits.{triples_fit}
use Rattle.au_settled.specs.Places.{cells_order, counts_at, placed_row}
use Rattle.au_settled.proofs.Heads.{head_below, item_below}
use Rattle.au_settled.proofs.Pass.{Placed, PlacesSoFar, Stands, own_counts, places_below, places_end, places_first, places_fit, places_more, places_pass, stands_next, stands_put}
use Rattle.au_settled.proofs.Spans.{counts_in}
use Rattle.au_settled.proofs.runs.merged.Goals as goal

pub placed-current-requires-clause-counts : goal.placed-current-requires-clause-counts
placed-current-requires-clause-counts c =
    let rows = c.args.rows.now in
    counts_in c.args.columns rows c.in-Some.first.now c.requires.counts (head_below (length rows) c.args.places.now c.in-Some.first.now c.in-Some.rest.now c.in-Some.ensures.cases.0 c.requires.below)

pub placed-next-requires-clause-counts : goal.placed-next-requires-clause-counts
placed-next-requires-clause-counts c =
    let rows = c.args.rows.now in
    let rest = c.in-Some.rest.now in
    let i = c.loop-place.place-index in
    counts_in c.args.columns rows (get_or rest i 0) c.requires.counts (item_below (length rows) c.args.places.now c.in-Some.first.now rest i c.in-Some.ensures.cases.0 c.requires.below c.loop-place-test.true)

pub loop-place-init : goal.loop-place-init
loop-place-init c =
    let columns = c.args.columns in
    let rows = c.args.rows.now in
    let r : Placed = c.placed-current.result in
    let place = c.placed-current.ensures.place in
    let below = head_below (length rows) c.args.places.now c.in-Some.first.now c.in-Some.rest.now c.in-Some.ensures.cases.0 c.requires.below in
    record {
      runs =
          subst (λ (ds : List Placed). PlacesSoFar columns rows r.0 [] ds r) (sym c.new-done.ensures.items)
          (places_first columns rows r.0 r refl (c.placed-current.ensures.counts ∙ ap (λ (q : ℕ). counts_at (3 * columns) (get_or rows q [])) (sym place)));
      done = subst (AllByRecursion (Stands (length rows))) (sym c.new-done.ensures.items) tt;
      current = record {
        below = subst (λ (q : ℕ). q < length rows) (sym place) below;
        triple = c.placed-current.ensures.triple;
        fits = c.placed-current.ensures.fits;
      };
    }

pub loop-place-preserved : goal.loop-place-preserved
loop-place-preserved c =
    let columns = c.args.columns in
    let rows = c.args.rows.now in
    let keys = c.args.keys.now in
    let rest = c.in-Some.rest.now in
    let i = c.loop-place.place-index in
    let place = get_or rest i 0 in
    let first = c.placed-current.result.0 in
    let current : Placed = c.loop-place.current in
    let next : Placed = c.placed-next.result in
    let more = take_more rest i 0 c.loop-place-test.true in
    let own = own_counts columns rows place next c.placed-next.ensures.place c.placed-next.ensures.counts in
    let below = item_below (length rows) c.args.places.now c.in-Some.first.now rest i c.in-Some.ensures.cases.0 c.requires.below c.loop-place-test.true in
    let meets = is_eq (cells_order keys (get_or rows current.0 []) (get_or rows next.0 [])) in
    record {
      runs =
          subst (λ (xs : List ℕ). PlacesSoFar columns rows first xs c.step.new.done.items c.in_ok-current.current) (sym more)
          (places_more columns rows keys c.requires.keys first (take i rest) c.loop-place.done.items c.step.new.done.items place current next c.in_ok-current.current c.loop-place.invariant.runs own c.in_ok-current.ensures.done c.in_ok-current.ensures.row);
      done =
          subst (AllByRecursion (Stands (length rows))) (sym c.in_ok-current.ensures.done)
          (stands_put (length rows) meets c.loop-place.done.items current c.loop-place.invariant.done c.loop-place.invariant.current);
      current =
          stands_next (length rows) meets current next c.in_ok-current.current c.in_ok-current.ensures.row c.loop-place.invariant.current.below
          (subst (λ (q : ℕ). q < length rows) (sym c.placed-next.ensures.place) below)
          c.in_ok-current.ensures.triple c.in_ok-current.ensures.fits;
    }

pub returns-in_err-current-clause-overflow : goal.returns-in_err-current-clause-overflow
returns-in_err-current-clause-overflow c h =
    let columns = c.args.columns in
    let rows = c.args.rows.now in
    let rest = c.in-Some.rest.now in
    let i = c.loop-place.place-index in
    let place = get_or rest i 0 in
    let first = c.placed-current.result.0 in
    let next : Placed = c.placed-next.result in
    let split : c.args.places.now ≡ first ∷ rest = c.in-Some.ensures.cases.0 ∙ ap (λ (p : ℕ). p ∷ rest) (sym c.placed-current.ensures.place) in
    let own = own_counts columns rows place next c.placed-next.ensures.place c.placed-next.ensures.counts in
    let parts : take i rest ++ place ∷ drop (suc i) rest ≡ rest = ap (λ ys. take i rest ++ ys) (sym (drop-cons rest i 0 c.loop-place-test.true)) ∙ take-append-drop i rest in
    let fault = rw h at c.from_residual.ensures.1 in
    let over = c.in_err-current.ensures.overflow (ap Err (sym fault)) in
    places_pass columns rows c.args.keys.now c.requires.keys c.args.places.now first rest split c.requires.sorted (take i rest) (drop (suc i) rest) c.loop-place.done.items place c.loop-place.current next parts c.loop-place.invariant.runs own over.0 over.1

pub returns-in-Ok-clause-rows : goal.returns-in-Ok-clause-rows
returns-in-Ok-clause-rows c =
    let columns = c.args.columns in
    let rows = c.args.rows.now in
    let rest = c.in-Some.rest.now in
    let first = c.placed-current.result.0 in
    let split : c.args.places.now ≡ first ∷ rest = c.in-Some.ensures.cases.0 ∙ ap (λ (p : ℕ). p ∷ rest) (sym c.placed-current.ensures.place) in
    let all = take_all c.loop-place.place-index rest c.loop-place-test.false in
    ap (map (placed_row columns rows)) c.in-Ok.ensures.items
    ∙ places_end columns rows c.args.keys.now c.requires.keys c.args.places.now first rest split c.requires.sorted c.loop-place.done.items c.loop-place.current
    (subst (λ (xs : List ℕ). PlacesSoFar columns rows first xs c.loop-place.done.items c.loop-place.current) all c.loop-place.invariant.runs)

pub returns-in-Ok-clause-below : goal.returns-in-Ok-clause-below
returns-in-Ok-clause-below c =
    let n = length c.args.rows.now in
    subst (AllByRecursion (λ (r : Placed). r.0 < n)) (sym c.in-Ok.ensures.items)
    (places_below n (c.loop-place.done.items ++ c.loop-place.current ∷ []) (stands_put n false c.loop-place.done.items c.loop-place.current c.loop-place.invariant.done c.loop-place.invariant.current))

pub returns-in-Ok-clause-fits : goal.returns-in-Ok-clause-fits
returns-in-Ok-clause-fits c =
    let columns = c.args.columns in
    let rows = c.args.rows.now in
    ap triples_fit (sym (returns-in-Ok-clause-rows c))
    ∙ ap (λ (xs : List Placed). triples_fit (map (placed_row columns rows) xs)) c.in-Ok.ensures.items
    ∙ places_fit columns rows (length rows) c.loop-place.done.items c.loop-place.current c.loop-place.invariant.done c.loop-place.invariant.current
