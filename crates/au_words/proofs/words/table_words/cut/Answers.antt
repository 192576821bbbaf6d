use Rattle.std.proofs.Common.{sym, ap₂}
use Rattle.au_words.proofs.TableWords.{name_alone}
use Rattle.au_words.proofs.words.table_words.cut.Goals as goal

pub returns-in-None : goal.returns-in-None
returns-in-None c =
    let alone = name_alone c.args.word.now c.in-None.ensures in
    ap₂ (λ name path. (name, path)) (sym alone.0) (sym alone.1)
