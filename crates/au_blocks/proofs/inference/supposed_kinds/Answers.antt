-- The kinds by the marks that the first records leave.
use Rattle.std.specs.Prelude.{is_none}
use Rattle.std.specs.Vec.{with_items}
use Rattle.std.proofs.Common.{◌≡◌, ◌∙◌, ◌&&◌, ap, length, map, subst, sym, true}
use Rattle.std.proofs.lemmas.List.{with_items_is}
use Rattle.std.proofs.lemmas.Result.{IfOk-weaker}
use Rattle.au_blocks.specs.Marks.{AreLeft}
use Rattle.au_blocks.specs.OnePass.{AreSupposed}
use Rattle.au_blocks.proofs.LeftMarks.{left-long, left-supposed}
use Rattle.au_blocks.proofs.inference.supposed_kinds.Goals as goal

pub returns : goal.returns
returns c header rows text =
    let f = c.args.format in
    let ws = c.args.written.now in
    let first : AreLeft f rows c.deref_mut.result.now c.narrow_by_first.new.marks = c.in_ok-narrow_by_first.ensures header rows text in
    let begun = c.deref_mut.ensures.value ∙ c.in_ok-marks.ensures in
    let long : length c.narrow_by_first.new.marks ≡ c.in_ok-marks.marks.len =
    left-long f rows c.deref_mut.result.now c.narrow_by_first.new.marks first ∙ ap length c.deref_mut.ensures.value ∙ sym c.in_ok-marks.marks.ok.0 in
    let marks = with_items c.in_ok-marks.marks c.narrow_by_first.new.marks in
    let left : AreLeft f rows (map (λ w. is_none w && true) ws) marks.items =
    rw (with_items_is c.in_ok-marks.marks c.narrow_by_first.new.marks long) (subst (λ bs. AreLeft f rows bs c.narrow_by_first.new.marks) begun first) in
    IfOk-weaker c.column_kinds.result _ (λ kinds. AreSupposed f rows 0 ws kinds.items) (λ kinds is. rw is (left-supposed f rows ws marks.items left)) c.column_kinds.ensures
