-- What the pass gives is each row once, since the places are sorted.
use Rattle.std.proofs.Common.{◌++◌, ◌∷◌, [], suc, false, sym, ◌∙◌, ap, subst, map, take, drop, Err}
use Rattle.std.proofs.lemmas.List.{take_all}
use Rattle.std.specs.List.{AllByRecursion}
use Rattle.au_print.specs.GuessTexts.{counts_fit}
use Rattle.au_print.specs.Places.{row_at}
use Rattle.au_print.proofs.CountedRuns.{places_more, places_end, places_pass, counted_fit, fits_put, Fits, meets, PlacesSoFar}
use Rattle.au_print.proofs.PlacedRows.{item_next, item_split}
use Rattle.au_print.proofs.guess_rows.merged.Goals as goal

pub loop-next-preserved : goal.loop-next-preserved
loop-next-preserved c =
    let rows = c.args.rows.now in
    let rest = c.in-Some.rest.now in
    let next = c.next-item.result in
    let more = item_next rest c.loop-next.next-index next c.loop-next-test.true c.next-item.is in
    record {
      runs = subst (λ xs. PlacesSoFar rows c.in-Some.first.now xs c.step.new.done.items c.in_ok-current.current) (sym more) (places_more rows c.in-Some.first.now (take c.loop-next.next-index rest) c.loop-next.done.items c.step.new.done.items c.loop-next.current next c.in_ok-current.current c.loop-next.invariant.runs c.in_ok-current.ensures.done c.in_ok-current.ensures.row);
      done = subst (AllByRecursion Fits) (sym c.in_ok-current.ensures.done) (fits_put (meets rows c.loop-next.current next) c.loop-next.done.items c.loop-next.current c.loop-next.invariant.done c.loop-next.invariant.current);
      current = c.in_ok-current.ensures.fits;
    }

pub returns-in-Ok-clause-rows : goal.returns-in-Ok-clause-rows
returns-in-Ok-clause-rows c =
    let rows = c.args.rows.now in
    let rest = c.in-Some.rest.now in
    let all = take_all c.loop-next.next-index rest c.loop-next-test.false in
    ap (map (row_at rows)) c.in-Ok.ensures.items
    ∙ places_end rows c.args.places.now c.in-Some.first.now rest c.in-Some.ensures.cases.0 c.requires c.loop-next.done.items c.loop-next.current
    (subst (λ xs. PlacesSoFar rows c.in-Some.first.now xs c.loop-next.done.items c.loop-next.current) all c.loop-next.invariant.runs)

pub returns-in-Ok-clause-fit : goal.returns-in-Ok-clause-fit
returns-in-Ok-clause-fit c =
    let rows = c.args.rows.now in
    let fit = counted_fit rows (c.loop-next.done.items ++ c.loop-next.current ∷ []) (fits_put false c.loop-next.done.items c.loop-next.current c.loop-next.invariant.done c.loop-next.invariant.current) in
    ap counts_fit (sym (returns-in-Ok-clause-rows c)) ∙ ap (λ ps. counts_fit (map (row_at rows) ps)) c.in-Ok.ensures.items ∙ fit

pub returns-in_err-current-clause-overflow : goal.returns-in_err-current-clause-overflow
returns-in_err-current-clause-overflow c h =
    let rows = c.args.rows.now in
    let rest = c.in-Some.rest.now in
    let next = c.next-item.result in
    let fault = rw h at c.from_residual.ensures.1 in
    let over = c.in_err-current.ensures.overflow (ap Err (sym fault)) in
    places_pass rows c.args.places.now c.in-Some.first.now rest c.in-Some.ensures.cases.0 c.requires (take c.loop-next.next-index rest) (drop (suc c.loop-next.next-index) rest) c.loop-next.done.items c.loop-next.current next
    (item_split rest c.loop-next.next-index next c.loop-next-test.true c.next-item.is)
    c.loop-next.invariant.runs over.0 over.1
