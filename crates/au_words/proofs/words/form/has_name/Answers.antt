-- A word without `=` is its own name.
use Rattle.std.proofs.Common.{◌∙◌, sym, ap}
use Rattle.std.specs.Str.{bytes_eq}
use Rattle.au_words.proofs.TableWords.{name_alone}
use Rattle.au_words.proofs.words.form.has_name.Goals as goal

pub returns-in-None : goal.returns-in-None
returns-in-None c = c.eq-in-None.ensures ∙ ap (λ w. bytes_eq w c.args.name.now) (sym (name_alone c.args.word.now c.in-None.ensures).0)
