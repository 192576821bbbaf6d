-- One span more.
use Rattle.std.proofs.Common.{◌≡◌, ◌+◌, ◌≤◌, ℕ, arith, refl, subst}
use Rattle.au_print.specs.Spans.{AreJoined}
use Rattle.au_print.proofs.SpanTexts.{more_spans}
use Rattle.au_print.proofs.coded_pieces.cut.Goals as goal

pub loop-first-preserved : goal.loop-first-preserved
loop-first-preserved c =
    let first = c.loop-first.first in
    let end = first + c.min.result in
    let within : end ≤ c.args.count = search arith in
    record {
      joined = more_spans 0 first end c.loop-first.spans.items _ (record { first = first; end = end }) refl refl (omega arith) c.in_ok-push.ensures.items c.loop-first.invariant.joined;
      below = within;
    }

pub returns : goal.returns
returns c =
    let all : c.loop-first.first ≡ c.args.count = omega (arith, c.loop-first-test.false, c.loop-first.invariant.below) in
    subst (λ (n : ℕ). AreJoined 0 n c.loop-first.spans.items) all c.loop-first.invariant.joined
