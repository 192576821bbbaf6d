-- One field more.
use Rattle.std.proofs.Common.{◌≡◌, ◌∙◌, slice_get, sym, Some}
use Rattle.au_csv.proofs.Fields.{take-slice_get}
use Rattle.au_csv.proofs.rec.words.Goals as goal

pub loop-place-preserved : goal.loop-place-preserved
loop-place-preserved c =
    let at : slice_get c.args.record.now c.loop-place.place ≡ Some c.in-Some.field.now = sym c.in-Some.ensures in
    let word = c.new.ensures ∙ c.in_ok-from_str.ensures.ok in
    rw (take-slice_get c.args.record.now c.loop-place.place c.in-Some.field.now at, ← c.loop-place.invariant) (rw word at c.in_ok-push.ensures.items)
