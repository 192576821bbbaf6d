-- No record, the header, one record more, and the end.
use Rattle.std.proofs.Common.{◌++◌, ◌∷◌, [], sym}
use Rattle.au_csv.specs.Reader.{last_record}
use Rattle.au_blocks.proofs.LeftMarks.{more-marks, none-left, read-left}
use Rattle.au_blocks.proofs.MarkedColumns.{marks-none}
use Rattle.au_blocks.proofs.inference.narrow_by_first.Goals as goal

pub returns-then-not-any_marked : goal.returns-then-not-any_marked
returns-then-not-any_marked c header rows text = none-left c.args.format rows c.args.marks.now

pub returns-then-not-branch : goal.returns-then-not-branch
returns-then-not-branch c header rows text = none-left c.args.format rows c.args.marks.now

pub loop-init : goal.loop-init
loop-init c = record {
  header = last_record c.reads_one.new.reader;
  rows = [];
  read = c.in_ok-reads_one.ensures c.args.bytes.now [] c.new-reader.ensures c.if-not-branch.false;
  left = sym (marks-none c.args.format 0 c.args.marks.now);
}

pub loop-preserved : goal.loop-preserved
loop-preserved c =
    let inv = c.loop.invariant in
    let r = last_record c.reads_one-else-not-any_marked-2.new.reader in
    record {
      header = inv.header;
      rows = inv.rows ++ r ∷ [];
      read = c.in_ok-reads_one-2.ensures c.args.bytes.now (inv.header ∷ inv.rows) inv.read c.if-not-branch-2.false;
      left = more-marks c.args.format inv.rows r c.record.result c.args.marks.now c.loop.marks c.narrow.new.marks c.record.ensures inv.left c.narrow.ensures;
    }

pub returns-then-not-any_marked-2 : goal.returns-then-not-any_marked-2
returns-then-not-any_marked-2 c header rows text =
    let inv = c.loop.invariant in
    read-left c.args.format c.args.bytes.now inv.rows rows inv.header header c.loop.reader c.args.marks.now c.loop.marks inv.read text inv.left

pub returns : goal.returns
returns c header rows text =
    let inv = c.loop.invariant in
    read-left c.args.format c.args.bytes.now inv.rows rows inv.header header c.loop.reader c.args.marks.now c.loop.marks inv.read text inv.left
