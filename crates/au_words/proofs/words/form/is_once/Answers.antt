use Rattle.std.proofs.Common.{◌∙◌, sym, ap, nat_le}
use Rattle.au_words.specs.Words.{has_name}
use Rattle.au_words.proofs.Places.{count-map}
use Rattle.au_words.proofs.words.form.is_once.Goals as goal

pub returns : goal.returns
returns c = ap (λ n. nat_le n 1) (c.count_of.ensures ∙ sym (count-map (has_name c.args.name.now) (λ w. w.now) c.args.words.now))
