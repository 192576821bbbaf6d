-- One batch more.
use Rattle.std.proofs.Common.{◌++◌, ap, sym, ◌∙◌}
use Rattle.std.specs.Prelude.{flat_map}
use Rattle.std.specs.Vec.Iter.{into_iter_items}
use Rattle.au_codes.specs.Codes.{CellRows}
use Rattle.au_vector.proofs.SinkLaws.{wide_front}
use Rattle.au_vector.proofs.sink.copied.Goals as goal

pub put-requires : goal.put-requires
put-requires c =
    let rest = flat_map (λ (rows : CellRows). rows) (into_iter_items c.next.new.self) in (
      c.requires.0,
      wide_front c.requires.0 c.loop-batch.all c.in-Some.batch rest _
          (ap (λ (bs : _). c.loop-batch.all ++ flat_map (λ (rows : CellRows). rows) bs) (sym c.in-Some.ensures.steps.0) ∙ c.loop-batch.invariant) c.requires.1,
    )
