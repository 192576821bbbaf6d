-- Positional words are counted where the options are right.
use Rattle.std.proofs.Common.{◌∙◌, sym, ap, not}
use Rattle.au_words.specs.Words.{is_count, is_option}
use Rattle.au_words.proofs.Places.{count-map}
use Rattle.au_words.proofs.words.form.is_form.Goals as goal

pub returns-then-are_options : goal.returns-then-are_options
returns-then-are_options c =
    let options = sym c.are_options.ensures ∙ c.if-are_options.true in
    rw options (c.is_count.ensures ∙ ap (is_count c.args.verb) (c.positional_count.ensures ∙ sym (count-map (λ w. not (is_option w)) (λ w. w.now) c.args.words.now)))
