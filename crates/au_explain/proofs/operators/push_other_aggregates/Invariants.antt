use Rattle.std.proofs.Common.{◌≡◌, ◌++◌, drop, map, string_bytes}
use Rattle.au_sqltext.specs.Texts.{aggregate_text, behind_commas}
use Rattle.au_explain.proofs.operators.push_other_aggregates.Given as goal

-- what is written and what is left make the whole
abbrev pub invariant-loop-agg : goal.invariant-loop-agg
invariant-loop-agg l = string_bytes l.out ++ behind_commas (map aggregate_text (drop l.agg-index l.aggs)) ≡ string_bytes l.initial.out ++ behind_commas (map aggregate_text l.aggs)
