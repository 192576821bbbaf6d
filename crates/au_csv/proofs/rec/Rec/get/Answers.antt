-- The field at a place among those of the record, and none behind them.
use Rattle.std.proofs.Common.{◌≤◌, ◌-◌, ◌∙◌, length, take, drop, sym, arith}
use Rattle.std.proofs.lemmas.Option.{slice_get_past}
use Rattle.csv.specs.Records.{fields_of}
use Rattle.au_csv.proofs.Between.{between-count}
use Rattle.au_csv.proofs.Fields.{field_at-between}
use Rattle.au_csv.proofs.rec.Rec.get.Goals as goal

pub returns-then-place-self : goal.returns-then-place-self
returns-then-place-self c =
    let r = c.self.inside in
    rw (← c.self.view_is) (c.get.ensures.value ∙ field_at-between r.start r.stop c.args.place (fields_of r.fields.now) c.if-place-self.true)

pub returns-else-place-self : goal.returns-else-place-self
returns-else-place-self c =
    let r = c.self.inside in
    let count = between-count r.start r.stop (fields_of r.fields.now) c.self.invariant.0 c.self.invariant.1 in
    let past : length (take (r.stop - r.start) (drop r.start (fields_of r.fields.now))) ≤ c.args.place = omega (arith, count, c.if-place-self.false) in
    rw (← c.self.view_is) (sym (slice_get_past (take (r.stop - r.start) (drop r.start (fields_of r.fields.now))) c.args.place past))
