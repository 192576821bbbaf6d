-- One record more of a plain table, the first one with a label, and one more of the last block and of a further one.
use Rattle.std.proofs.Common.{◌≡◌, ◌∙◌, true, false, sym, subst, Less, Equal}
use Rattle.std.specs.Prelude.{string_bytes}
use Rattle.std.proofs.lemmas.Result.{IfOk-weaker}
use Rattle.au_blocks.specs.BlockPlaces.{Placed}
use Rattle.au_blocks.specs.Entries.{label_of}
use Rattle.au_blocks.specs.Headers.{has_blocks}
use Rattle.au_blocks.specs.Runs.{label_order}
use Rattle.au_blocks.proofs.BlocksSoFar.{first-record, further-record, next-record, plain-record}
use Rattle.au_blocks.proofs.block_places.BlockPlaces.add.Goals as goal

pub returns-then-not-has_blocks : goal.returns-then-not-has_blocks
returns-then-not-has_blocks c f rows lays has =
    let was = c.args.self.now in
    let held = c.place.new.self in
    let none : has_blocks was.format ≡ false = sym c.has_blocks.ensures ∙ c.if-not-has_blocks.true in
    IfOk-weaker c.place.result _ _ (λ goes placed is. plain-record f rows c.args.record.now was held none lays (subst (λ t. Placed t was held) c.certain.ensures (placed is))) c.place.ensures

pub returns-then-not-self : goal.returns-then-not-self
returns-then-not-self c f rows lays has goes =
    let was = c.args.self.now in
    let some : has_blocks was.format ≡ true = sym c.has_blocks.ensures ∙ c.if-not-has_blocks.false in
    first-record f rows c.args.record.now c.args.role was c.start.new.self some c.if-not-self.true has lays (rw c.field-label.ensures at c.in_ok-start.ensures)

pub returns-in_ok-start-in-Less : goal.returns-in_ok-start-in-Less
returns-in_ok-start-in-Less c f rows lays has goes =
    let was = c.args.self.now in
    let order : label_order (string_bytes was.label) (label_of c.args.record.now) ≡ Less =
    (λ i. label_order (sym c.as_str.ensures.value i) (sym c.field-label.ensures i)) ∙ sym c.in-Less.ensures in
    further-record f rows c.args.record.now c.args.role was c.place-in-Less.new.self c.start-in-Less.new.self c.if-not-self.false order has lays
    (c.in_ok-place-in-Less.ensures c.if-not-branch.false)
    (rw c.field-label.ensures at c.in_ok-start-in-Less.ensures)

pub returns-in-Equal : goal.returns-in-Equal
returns-in-Equal c f rows lays has goes =
    let was = c.args.self.now in
    let order : label_order (string_bytes was.label) (label_of c.args.record.now) ≡ Equal =
    (λ i. label_order (sym c.as_str.ensures.value i) (sym c.field-label.ensures i)) ∙ sym c.in-Equal.ensures in
    next-record f rows c.args.record.now c.args.role was c.grow.new.self c.if-not-self.false order has lays (c.grow.ensures goes)
