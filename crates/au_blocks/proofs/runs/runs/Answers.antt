-- One record more, with the label of the one above it or with one that comes behind it.
use Rattle.std.proofs.Common.{◌≡◌, ◌∙◌, ◌++◌, ◌∷◌, List, Bor, [], get_or, arith, sym, ap}
use Rattle.std.specs.Prelude.{slice_range}
use Rattle.std.proofs.lemmas.List.{get_or_read, map_push}
use Rattle.au_csv.specs.Texts.{Record}
use Rattle.au_blocks.specs.Entries.{label_of}
use Rattle.au_blocks.specs.Runs.{lent_runs}
use Rattle.au_blocks.proofs.LabelRuns.{runs-same, runs-new}
use Rattle.au_blocks.proofs.runs.runs.Goals as goal
use Rattle.au_blocks.proofs.runs.runs.Goals.{in-Less+in_ok-push-in-Less, in-Equal}

pub loop-place-preserved : goal.loop-place-preserved
loop-place-preserved c =
    let inv = c.loop-place.invariant in
    let rows = c.args.rows.now in
    let place = c.loop-place.place in
    let within = c.loop-place-test.true in
    let at : c.index-rows-place.result ≡ get_or rows place [] = get_or_read rows place c.index-rows-place.result within c.index-rows-place.is [] in
    let label : c.field-label.result.now ≡ label_of (get_or rows place []) = c.field-label.ensures ∙ ap label_of at in
    elim c.match-compare_labels.branch [
      | in-Less+in_ok-push-in-Less w ↦
          let pushed : lent_runs w.push.new.self.items ≡ lent_runs c.loop-place.runs.items ++ slice_range rows c.loop-place.begun place ∷ [] =
          ap lent_runs w.in_ok-push-in-Less.ensures.items ∙ map_push (λ (run : Bor (List Record)). run.now) c.loop-place.runs.items (record { ref_ptr = _; now = slice_range rows c.loop-place.begun place }) in
          rw (w.last-is, w.begun-is, w.runs-is, pushed) (record {
            text = c.field-label.utf8;
            order = omega arith;
            within = omega arith;
            runs = runs-new rows (lent_runs c.loop-place.runs.items) c.loop-place.begun place c.loop-place.last.now c.field-label.result.now within label (sym w.in-Less.ensures) inv.runs;
          })
      | in-Equal w ↦
          rw (w.last-is, w.begun-is, w.runs-is) (record {
            text = inv.text;
            order = omega arith;
            within = omega arith;
            runs = runs-same rows (lent_runs c.loop-place.runs.items) c.loop-place.begun place c.loop-place.last.now c.field-label.result.now (omega arith) within label (sym w.in-Equal.ensures) inv.runs;
          })
    ]
