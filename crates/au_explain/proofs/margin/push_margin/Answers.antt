use Rattle.std.proofs.Common.{◌≡◌, ◌∙◌, ◌-◌, ◌<◌, ◌++◌, List, ℕ, ap, append-nil, arith, string_bytes, sym}
use Rattle.au_explain.specs.Lines.{margin}
use Rattle.au_explain.proofs.Margins.{margin_more}
use Rattle.au_explain.proofs.margin.push_margin.Goals as goal

pub loop-preserved : goal.loop-preserved
loop-preserved c =
    let lt : c.loop.counter < c.args.depth = omega arith in
    margin_more c.args.depth c.loop.counter (string_bytes c.loop.out) (string_bytes c.push_str.new.self) (string_bytes c.args.out.now ++ margin c.args.depth) lt c.loop.invariant c.in_ok-push_str.ensures.bytes

pub returns : goal.returns
returns c =
    let none : c.args.depth - c.loop.counter ≡ 0 = omega arith in
    sym (append-nil (string_bytes c.loop.out)) ∙ (sym (ap (λ (n : ℕ). string_bytes c.loop.out ++ margin n) none) ∙ c.loop.invariant)
