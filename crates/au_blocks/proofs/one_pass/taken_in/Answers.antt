-- The end of the text, one record more, and the turns.
use Rattle.std.proofs.Common.{◌+◌, ◌≤◌, ◌∙◌, ◌++◌, ◌∷◌, [], length, ap, arith}
use Rattle.std.proofs.lemmas.List.{length_push}
use Rattle.au_csv.specs.Reader.{last_record}
use Rattle.au_blocks.specs.Headers.{format_of}
use Rattle.au_blocks.proofs.one_pass.taken_in.Goals as goal

pub returns-in-Ok-false : goal.returns-in-Ok-false
returns-in-Ok-false c =
    let inv = c.loop.invariant in
    record {
      rows = inv.rows;
      read = c.in-Ok-false.ensures.all c.args.bytes.now (c.args.header.now ∷ inv.rows) inv.read c.in-Ok-false.field-0-test;
      taken = inv.taken;
    }

pub loop-preserved : goal.loop-preserved
loop-preserved c =
    let inv = c.loop.invariant in
    let header = c.args.header.now in
    let r = last_record c.read.new.self in
    let few : length (header ∷ inv.rows) ≤ length c.args.bytes.now + 1 = c.in-Ok-true.ensures.few c.args.bytes.now (header ∷ inv.rows) inv.read in
    let count = inv.count in
    record {
      rows = inv.rows ++ r ∷ [];
      read = c.in-Ok-true.ensures.more c.args.bytes.now (header ∷ inv.rows) inv.read c.in-Ok-true.field-0-test;
      taken = rw c.record.ensures at (c.in_ok-take-in-Ok-true.ensures (format_of header) (length header) c.args.kinds.now inv.rows inv.taken c.if-not-branch.false);
      count = length_push inv.rows r ∙ ap (λ n. n + 1) count;
      few = omega (arith, few, count);
    }
