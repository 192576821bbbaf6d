use Rattle.std.proofs.Common.{codes, string_bytes}
use Rattle.au_physical.specs.Physicals.{physical_tree}
use Rattle.au_plain.specs.PTerms.{pterm}
use Rattle.au_explain.specs.Lines.{overlap_text, rest_text, width}
use Rattle.au_sqltext.proofs.Spreads.{written3}
use Rattle.au_explain.proofs.operators.push_overlapping.Goals as goal

pub returns : goal.returns
returns c =
    written3 (string_bytes c.args.out.now) (string_bytes c.push_str.new.self) (string_bytes c.push_overlap.new.out) (string_bytes c.push_rest.new.out)
    (codes "join on ") (overlap_text c.args.at) (rest_text (width (physical_tree c.args.left.now)) (pterm c.args.e.now))
    c.in_ok-push_str.ensures.bytes c.in_ok-push_overlap.ensures c.in_ok-push_rest.ensures
