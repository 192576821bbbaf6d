-- A record more, the end of the text, a read that fails, and the turns.
use Rattle.std.proofs.Common.{◌++◌, refl, length, arith}
use Rattle.std.proofs.lemmas.List.{length_push}
use Rattle.csv.specs.Records.{Rising, fields_of, last_end}
use Rattle.csv.proofs.RecordFacts.{last-append}
use Rattle.au_csv.specs.Flat.{between}
use Rattle.au_csv.specs.Reader.{last_record}
use Rattle.au_csv.proofs.Between.{between-length, between-more, rising-pushed}
use Rattle.au_csv.proofs.Reached.{records-fit}
use Rattle.au_csv.proofs.read.records.Goals as goal

pub loop-init : goal.loop-init
unfolding Rising last_end between
loop-init c =
    let fields = c.in_ok-fields.ensures.fields in
    let stops = c.in_ok-stops.ensures.items in
    record { turns = rw stops refl; rising = rw (stops, fields) (omega arith); last = rw (stops, fields) refl; read = rw stops c.new-reader.ensures }

pub of-requires : goal.of-requires
of-requires c = c.loop.invariant.rising

pub returns-in-Ok-false-clause-records : goal.returns-in-Ok-false-clause-records
returns-in-Ok-false-clause-records c =
    let rows = between 0 c.loop.stops.items (fields_of c.loop.fields) in
    rw c.of.ensures (c.in-Ok-false.ensures.all c.args.bytes.now rows c.loop.invariant.read c.in-Ok-false.field-0-test)

pub loop-preserved : goal.loop-preserved
loop-preserved c =
    let inv = c.loop.invariant in
    let rows = between 0 c.loop.stops.items (fields_of c.loop.fields) in
    let row = last_record c.read.new.self in
    let pushed = c.in_ok-push_record-in-Ok-true.ensures in
    let fields = rw c.row.ensures at pushed.fields in
    let more = between-more 0 c.loop.stops.items (fields_of c.loop.fields) row inv.rising inv.last in
    record {
      turns = rw (pushed.stops, length_push c.loop.stops.items (length (fields_of c.push_record.new.fields)), inv.turns) refl;
      rising = rw (pushed.stops, fields) (rising-pushed 0 c.loop.stops.items (fields_of c.loop.fields) row inv.rising);
      last = rw (pushed.stops, fields) (last-append 0 c.loop.stops.items (length (fields_of c.loop.fields ++ row)));
      read = rw (pushed.stops, fields, more) (c.in-Ok-true.ensures.more c.args.bytes.now rows inv.read c.in-Ok-true.field-0-test);
    }

pub returns-in-Err-clause-fault : goal.returns-in-Err-clause-fault
returns-in-Err-clause-fault c =
    c.in-Err.ensures.fault c.args.bytes.now (between 0 c.loop.stops.items (fields_of c.loop.fields)) c.loop.invariant.read

pub unreachable-requires : goal.unreachable-requires
unreachable-requires c =
    let inv = c.loop.invariant in
    let rows = between 0 c.loop.stops.items (fields_of c.loop.fields) in
    let fit = records-fit c.args.bytes.now inv.read.left c.loop.reader.reader.state rows inv.read.reached in
    let count = between-length 0 c.loop.stops.items (fields_of c.loop.fields) in
    let turns = inv.turns in
    let last = c.loop-test.false in
    omega arith
