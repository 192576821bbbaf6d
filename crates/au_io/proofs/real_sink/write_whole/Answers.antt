use Rattle.std.proofs.Common.{arith}
use Rattle.au_io.proofs.Appending.{appends_more}
use Rattle.au_io.proofs.real_sink.write_whole.Goals as goal

pub loop-at-preserved : goal.loop-at-preserved
loop-at-preserved g c = record {
  within = omega arith;
  written = appends_more _ _ _ c.args.bytes.now c.loop-at.at c.write_front-n.result c.loop-at.invariant.written c.write_front-n.ensures.written;
}
