-- No record yet.
use Rattle.std.proofs.Common.{◌∙◌, inr, refl, sym, arith, rules}
use Rattle.csv.specs.Reading.{Reached, strip_bom}
use Rattle.au_csv.proofs.reader.RecordReader.new.Goals as goal

pub returns : goal.returns
unfolding Reached
returns c =
    let fr = c.from_reader-reader.ensures in
    let e = c.has_headers.ensures in
    let f = c.flexible.ensures in
    record {
      trim = rw (f, e) at fr.trim ∙ c.new.ensures.trim;
      ready = inr (inr (rw (f, e) at fr.has_headers, fr.headers));
      config = rw (f, e) at fr.config ∙ c.new.ensures.config;
      flexible = rw f at fr.flexible;
      short = grind (arith, c.type_inv.bytes);
      number = λ below. refl;
      text = refl;
      left = strip_bom c.args.bytes.now;
      source = fr.source;
      reached = (sym fr.state, refl);
    }
