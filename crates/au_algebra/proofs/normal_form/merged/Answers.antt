-- What the pass gives is the normal form, since the rows are sorted.
use Rattle.std.proofs.Common.{◌≡◌, ◌++◌, ◌∷◌, [], length, map, true, IsTrue, subst, Err, Vec, Global, sym, ◌∙◌, ap, arith, append_assoc}
use Rattle.std.proofs.lemmas.List.{map-append}
use Rattle.std.specs.List.{AllByRecursion}
use Rattle.std.specs.Vec.Iter.{into_iter_items}
use Rattle.au_value.specs.declared.range.Range.{Range}
use Rattle.au_annot.specs.declared.Triple.{Triple}
use Rattle.au_algebra.specs.Entries.{entry}
use Rattle.au_algebra.specs.Bounded.{RangeRow}
use Rattle.au_algebra.specs.Fits.{triples_fit}
use Rattle.au_algebra.proofs.MergedRuns.{ended, passed, done_fit, map_put, all_put}
use Rattle.au_algebra.proofs.Runs.{joins, finished, runs_from}
use Rattle.au_algebra.proofs.TripleFits.{IsInRange, one_more}
use Rattle.au_algebra.proofs.normal_form.merged.Goals as goal

abbrev Row : Type 0
Row = Vec Range Global × Triple

abbrev row : Row → RangeRow
row r = entry r.0.items r.1

pub returns-in_err-current-clause-overflow : goal.returns-in_err-current-clause-overflow
returns-in_err-current-clause-overflow c h =
    let split : c.args.rows.items ≡ c.in-Some.current ∷ c.next.new.self.rest.items = sym c.into_iter-rest.ensures.rest ∙ c.in-Some.ensures.items in
    let left : c.loop-row.yielded ++ c.in-Some-row.row ∷ into_iter_items c.next-in-loop-row.new.self ≡ c.next.new.self.rest.items =
    ap (λ xs. c.loop-row.yielded ++ xs) (sym c.in-Some-row.ensures.steps.0) ∙ c.loop-row.invariant.left ∙ ap into_iter_items c.into_iter-row-iterator.ensures.into_iter_gives in
    let fault = rw h at c.from_residual.ensures.1 in
    let over = c.in_err-current.ensures.overflow (ap Err (sym fault)) in
    passed row c.args.rows.items c.in-Some.current c.next.new.self.rest.items split c.requires c.loop-row.yielded (into_iter_items c.next-in-loop-row.new.self) c.loop-row.done.items c.loop-row.current c.in-Some-row.row left c.loop-row.invariant.runs over.0 over.1

put : (c : goal.In_ok-current) → map row c.step.new.done.items ≡ map row c.loop-row.done.items ++ finished (row c.loop-row.current) (row c.in-Some-row.row)
put c =
    ap (map row) c.in_ok-current.ensures.done
    ∙ map_put row (joins (row c.loop-row.current) (row c.in-Some-row.row)) c.loop-row.done.items c.loop-row.current

pub loop-row-preserved : goal.loop-row-preserved
loop-row-preserved c = record {
  can = tt;
  finite = tt;
  left =
      append_assoc c.loop-row.yielded (c.in-Some-row.row ∷ []) (into_iter_items c.next-in-loop-row.new.self)
      ∙ ap (λ xs. c.loop-row.yielded ++ xs) (sym c.in-Some-row.ensures.steps.0)
      ∙ c.loop-row.invariant.left;
  count =
      (let n = ap length c.in-Some-row.ensures.steps.0 in
      omega (arith, n, c.in-Some-row.ensures.steps.1, c.loop-row.invariant.count));
  runs = λ rest.
      (ap (λ xs. runs_from (row c.in-Some.current) (xs ++ rest)) (map-append row c.loop-row.yielded (c.in-Some-row.row ∷ []))
      ∙ one_more (row c.in-Some.current) (map row c.loop-row.yielded) (map row c.loop-row.done.items) (row c.loop-row.current) (row c.in-Some-row.row) c.loop-row.invariant.runs rest
      ∙ (λ i. sym (put c) i ++ runs_from (sym c.in_ok-current.ensures.row i) rest));
  done =
      subst (AllByRecursion IsInRange) (sym (put c))
      (all_put IsInRange (joins (row c.loop-row.current) (row c.in-Some-row.row)) (map row c.loop-row.done.items) (row c.loop-row.current) c.loop-row.invariant.done c.loop-row.invariant.current);
  current = record { triple = c.in_ok-current.ensures.triple; most = c.in_ok-current.ensures.fits };
}

pub returns-in-Ok-clause-form : goal.returns-in-Ok-clause-form
returns-in-Ok-clause-form c =
    let split : c.args.rows.items ≡ c.in-Some.current ∷ c.next.new.self.rest.items = sym c.into_iter-rest.ensures.rest ∙ c.in-Some.ensures.items in
    let left : c.loop-row.yielded ++ into_iter_items c.loop-row.row-iterator ≡ c.next.new.self.rest.items =
    c.loop-row.invariant.left ∙ ap into_iter_items c.into_iter-row-iterator.ensures.into_iter_gives in
    ap (map row) c.in-Ok.ensures.items
    ∙ ended row c.args.rows.items c.in-Some.current c.next.new.self.rest.items split c.requires c.loop-row.yielded (into_iter_items c.loop-row.row-iterator) c.loop-row.done.items c.loop-row.current left (omega (arith, c.loop-row.invariant.count, c.in-None.ensures.steps.0)) c.loop-row.invariant.runs

pub returns-in-Ok-clause-fits : goal.returns-in-Ok-clause-fits
returns-in-Ok-clause-fits c =
    let form = returns-in-Ok-clause-form c in
    let fits : triples_fit (map row c.push.new.self.items) ≡ true =
    ap (λ xs. triples_fit (map row xs)) c.in-Ok.ensures.items ∙ done_fit row c.loop-row.done.items c.loop-row.current c.loop-row.invariant.done c.loop-row.invariant.current in
    subst (λ n. IsTrue (triples_fit n)) form fits
