-- One field more, and no field more.
use Rattle.std.proofs.Common.{◌≡◌, ◌∙◌, ◌∷◌, ◌++◌, [], take, sym, ap, Some, None, append_assoc, append-nil}
use Rattle.csv.specs.Records.{Row, field_at, fields_of}
use Rattle.au_csv.proofs.Fields.{take-field_at, take-field_at_end}
use Rattle.au_csv.proofs.kept.push_record.Goals as goal

pub loop-field-init : goal.loop-field-init
loop-field-init c =
    let start = c.into_iter-field-iterator.ensures.into_iter_gives in
    record { row = start.0; fields = rw (start.1) (sym (append-nil (fields_of c.args.fields.now))) }

pub loop-field-preserved : goal.loop-field-preserved
loop-field-preserved c =
    let inv = c.loop-field.invariant in
    let s = c.in-Some.ensures.steps in
    let at : field_at (fields_of c.args.record.now) c.loop-field.field-iterator.at ≡ Some c.in-Some.field.now =
    ap (λ (r : Row). field_at (fields_of r) c.loop-field.field-iterator.at) (sym inv.row) ∙ sym s.1 in
    let more = take-field_at (fields_of c.args.record.now) c.loop-field.field-iterator.at c.in-Some.field.now at in
    let group = append_assoc (fields_of c.args.fields.now) (take c.loop-field.field-iterator.at (fields_of c.args.record.now)) (c.in-Some.field.now ∷ []) in
    record { row = rw (s.0) inv.row; fields = rw (s.2, more, ← group, ← inv.fields) c.in_ok-push_field.ensures.fields }

pub returns-clause-fields : goal.returns-clause-fields
returns-clause-fields c =
    let inv = c.loop-field.invariant in
    let end : field_at (fields_of c.args.record.now) c.loop-field.field-iterator.at ≡ None =
    ap (λ (r : Row). field_at (fields_of r) c.loop-field.field-iterator.at) (sym inv.row) ∙ sym c.in-None.ensures.steps.1 in
    inv.fields ∙ ap (λ fs. fields_of c.args.fields.now ++ fs) (take-field_at_end (fields_of c.args.record.now) c.loop-field.field-iterator.at end)
