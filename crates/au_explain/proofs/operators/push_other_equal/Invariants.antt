use Rattle.std.proofs.Common.{◌≡◌, ◌++◌, drop, map, string_bytes}
use Rattle.au_sqltext.specs.Texts.{behind_commas}
use Rattle.au_explain.specs.Lines.{equal_text}
use Rattle.au_explain.proofs.operators.push_other_equal.Given as goal

-- what is written and what is left make the whole
abbrev pub invariant-loop-pair : goal.invariant-loop-pair
invariant-loop-pair l = string_bytes l.out ++ behind_commas (map equal_text (drop l.pair-index l.places)) ≡ string_bytes l.initial.out ++ behind_commas (map equal_text l.places)
