-- The numbers that are asked for lie in their ranges.
use Rattle.std.proofs.Common.{◌∙◌, ap, Ok}
use Rattle.au_words.specs.CommandLine.{seen}
use Rattle.au_cli.proofs.AskedNumbers.{in_range}
use Rattle.au_cli.proofs.top.line_text.Goals as goal

pub request_text-requires-clause-workers : goal.request_text-requires-clause-workers
request_text-requires-clause-workers g c κs within =
    (in_range c.args.line.now _ (c.in-Ok-Query.ensures.asked ∙ ap (λ x. Ok (seen x)) c.in-Ok-Query.field-0-is)).0

pub request_text-requires-clause-compression : goal.request_text-requires-clause-compression
request_text-requires-clause-compression g c κs within =
    (in_range c.args.line.now _ (c.in-Ok-Query.ensures.asked ∙ ap (λ x. Ok (seen x)) c.in-Ok-Query.field-0-is)).1

pub demo_text-requires-clause-some : goal.demo_text-requires-clause-some
demo_text-requires-clause-some g c κs within =
    (in_range c.args.line.now _ (c.in-Ok-Demo.ensures.asked ∙ ap (λ x. Ok (seen x)) c.in-Ok-Demo.field-0-is)).0.0

pub demo_text-requires-clause-few : goal.demo_text-requires-clause-few
demo_text-requires-clause-few g c κs within =
    (in_range c.args.line.now _ (c.in-Ok-Demo.ensures.asked ∙ ap (λ x. Ok (seen x)) c.in-Ok-Demo.field-0-is)).0.1

pub demo_text-requires-clause-workers : goal.demo_text-requires-clause-workers
demo_text-requires-clause-workers g c κs within =
    let numbers = in_range c.args.line.now _ (c.in-Ok-Demo.ensures.asked ∙ ap (λ x. Ok (seen x)) c.in-Ok-Demo.field-0-is) in
    (numbers.1, numbers.2)
