-- One record more, and no record more.
use Rattle.std.proofs.Common.{◌∙◌, ◌∷◌, ◌+◌, [], append-nil, append_assoc, arith, drop, get_or, length, sym, take, ◌-◌}
use Rattle.csv.specs.Records.{fields_of}
use Rattle.csv.proofs.RecordFacts.{rising-first}
use Rattle.au_csv.specs.Flat.{between}
use Rattle.au_csv.proofs.Between.{between-end, between-next, rising-next}
use Rattle.au_csv.proofs.kept.push_lent.Goals as goal

pub of-requires : goal.of-requires
of-requires c =
    let l = c.loop-stop in
    let stops = c.args.stops.now in
    let size = length (fields_of c.args.fields.now) in
    let next = rising-next l.start stops l.stop-index size c.loop-stop-test.true l.invariant.rising in
    (next.0, rising-first (get_or stops l.stop-index 0) (drop (l.stop-index + 1) stops) size next.1)

pub loop-stop-preserved : goal.loop-stop-preserved
loop-stop-preserved c =
    let l = c.loop-stop in
    let stops = c.args.stops.now in
    let fields = fields_of c.args.fields.now in
    let stop = get_or stops l.stop-index 0 in
    let next = rising-next l.start stops l.stop-index (length fields) c.loop-stop-test.true l.invariant.rising in
    let first = between-next l.start stops l.stop-index fields c.loop-stop-test.true in
    let group = append_assoc l.rows.items (take (stop - l.start) (drop l.start fields) ∷ []) (between stop (drop (l.stop-index + 1) stops) fields) in
    record { rising = next.1; rows = rw (c.in_ok-push.ensures.items, c.of.ensures) (group ∙ (rw first at l.invariant.rows)) }

pub returns : goal.returns
returns c =
    let l = c.loop-stop in
    let none = between-end l.start c.args.stops.now l.stop-index (fields_of c.args.fields.now) (omega (arith, c.loop-stop-test.false)) in
    sym (append-nil l.rows.items) ∙ rw none at l.invariant.rows
