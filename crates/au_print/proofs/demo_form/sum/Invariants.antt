-- So far the triples before this one are added, and their sum is in the range.
use Rattle.std.proofs.Common.{◌≡◌, IsTrue, take, map}
use Rattle.au_annot.specs.Triples.{in_range}
use Rattle.au_algebra.specs.Entries.{entry}
use Rattle.au_print.specs.DemoTexts.{triple_sum}
use Rattle.au_print.proofs.demo_form.sum.Given as goal

abbrev pub invariant-loop-triple : goal.invariant-loop-triple
invariant-loop-triple l = record {
  sum : l.sum ≡ triple_sum (map (λ r. entry r.0.items r.1) (take l.triple-index l.rows));
  fit : IsTrue (in_range l.sum);
}
