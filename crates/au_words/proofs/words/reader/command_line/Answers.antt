-- The arguments are added one after the other, and none is global.
use Rattle.std.proofs.Common.{◌∙◌, ◌||◌, ap₂}
use Rattle.std.proofs.lemmas.Result.{IfOk-weaker}
use Rattle.clap.specs.Words.{with_rule}
use Rattle.au_words.proofs.words.reader.command_line.Goals as goal

pub returns-clause-app : goal.returns-clause-app
returns-clause-app c =
    let first = c.in_ok-arg.ensures.shape c.flag.ensures.local ∙ ap₂ with_rule c.new.ensures.app c.flag.ensures.rule in
    let second = c.in_ok-arg-2.ensures.shape c.flag-2.ensures.local ∙ ap₂ with_rule first c.flag-2.ensures.rule in
    let third = c.in_ok-arg-3.ensures.shape c.flag-3.ensures.local ∙ ap₂ with_rule second c.flag-3.ensures.rule in
    let fourth = c.in_ok-arg-4.ensures.shape c.valued.ensures.local ∙ ap₂ with_rule third c.valued.ensures.rule in
    let fifth = c.in_ok-arg-5.ensures.shape c.valued-2.ensures.local ∙ ap₂ with_rule fourth c.valued-2.ensures.rule in
    let sixth = c.in_ok-arg-6.ensures.shape c.positional.ensures.local ∙ ap₂ with_rule fifth c.positional.ensures.rule in
    IfOk-weaker c.arg-7.result _ _ (λ r adds. adds.shape c.repeated.ensures.local ∙ ap₂ with_rule sixth c.repeated.ensures.rule) c.arg-7.ensures

pub returns-clause-local : goal.returns-clause-local
returns-clause-local c =
    let first = c.in_ok-arg.ensures.globals ∙ ap₂ (λ a b. a || b) c.new.ensures.local c.flag.ensures.local in
    let second = c.in_ok-arg-2.ensures.globals ∙ ap₂ (λ a b. a || b) first c.flag-2.ensures.local in
    let third = c.in_ok-arg-3.ensures.globals ∙ ap₂ (λ a b. a || b) second c.flag-3.ensures.local in
    let fourth = c.in_ok-arg-4.ensures.globals ∙ ap₂ (λ a b. a || b) third c.valued.ensures.local in
    let fifth = c.in_ok-arg-5.ensures.globals ∙ ap₂ (λ a b. a || b) fourth c.valued-2.ensures.local in
    let sixth = c.in_ok-arg-6.ensures.globals ∙ ap₂ (λ a b. a || b) fifth c.positional.ensures.local in
    IfOk-weaker c.arg-7.result _ _ (λ r adds. adds.globals ∙ ap₂ (λ a b. a || b) sixth c.repeated.ensures.local) c.arg-7.ensures
