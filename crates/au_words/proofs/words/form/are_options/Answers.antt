use Rattle.std.proofs.Common.{◌∙◌, sym}
use Rattle.std.proofs.lemmas.List.Folds.{list_all-map}
use Rattle.au_words.specs.Words.{is_taken, options_of}
use Rattle.au_words.proofs.words.form.are_options.Goals as goal

pub returns-then-all_taken : goal.returns-then-all_taken
returns-then-all_taken c =
    let all = list_all-map (is_taken (options_of c.args.verb)) (λ w. w.now) c.args.words.now ∙ sym c.all_taken.ensures ∙ c.if-all_taken.true in
    rw all c.are_once.ensures

pub returns-else-all_taken : goal.returns-else-all_taken
returns-else-all_taken c =
    let all = list_all-map (is_taken (options_of c.args.verb)) (λ w. w.now) c.args.words.now ∙ sym c.all_taken.ensures ∙ c.if-all_taken.false in
    rw all c.if-all_taken.false
