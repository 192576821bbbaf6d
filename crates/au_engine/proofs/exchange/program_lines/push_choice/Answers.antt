use Rattle.std.proofs.Common.{codes, string_bytes}
use Rattle.au_explain.specs.Lines.{plan_lines}
use Rattle.au_physical.specs.Physicals.{physical_tree}
use Rattle.au_sqltext.proofs.Spreads.{written4}
use Rattle.au_engine.proofs.exchange.program_lines.push_choice.Goals as goal

pub returns : goal.returns
returns c =
    written4 (string_bytes c.args.out.now) (string_bytes c.push_str.new.self) (string_bytes c.push_plan.new.out) (string_bytes c.push_str-2.new.self) (string_bytes c.push_plan-2.new.out)
    (codes "  where keys repeat:\n") (plan_lines 2 (physical_tree c.args.first.now)) (codes "  where they differ:\n") (plan_lines 2 (physical_tree c.args.second.now))
    c.in_ok-push_str.ensures.bytes c.in_ok-push_plan.ensures c.in_ok-push_str-2.ensures.bytes c.in_ok-push_plan-2.ensures
