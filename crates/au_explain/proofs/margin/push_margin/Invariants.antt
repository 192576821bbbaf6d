use Rattle.std.proofs.Common.{◌≡◌, ◌-◌, ◌++◌, string_bytes}
use Rattle.au_explain.specs.Lines.{margin}
use Rattle.au_explain.proofs.margin.push_margin.Given as goal

-- what is written and what is left make the whole
abbrev pub invariant-loop : goal.invariant-loop
invariant-loop l = string_bytes l.out ++ margin (l.depth - l.counter) ≡ string_bytes l.initial.out ++ margin l.depth
