-- The tables of the words so far, one more, and all.
use Rattle.std.proofs.Common.{◌≡◌, ◌∙◌, ◌++◌, ◌∷◌, [], List, refl, length-append, rules, length, sym, ap, arith, drop, drop_of_length-le, map, subst}
use Rattle.au_engine.specs.Answers.{Named}
use Rattle.au_value.specs.Texts.{Text}
use Rattle.au_words.specs.CommandLine.{seen_table}
use Rattle.au_cli.proofs.TablesRead.{ReadSoFar, cause_at, one_at, read_all, read_none}
use Rattle.au_cli.proofs.files.read_tables.Goals as goal

pub returns-clause-tables : goal.returns-clause-tables
returns-clause-tables g c =
    let told = g.S.Shelf.files c.args.shelf.now in
    let words = map seen_table c.args.words.now in
    let end = c.loop-word in
    let none : drop end.word-index c.args.words.now ≡ [] = drop_of_length-le c.args.words.now (grind (arith, c.loop-word-test.false)) in
    read_all told c.args.purpose c.args.first c.args.before words end.tables.items end.word-index end.read
    (subst (λ (left : List (Text × Text)). ReadSoFar told c.args.purpose c.args.first c.args.before words end.tables.items end.word-index end.read left) (ap (map seen_table) none) end.invariant.so_far)

pub loop-word-init : goal.loop-word-init
loop-word-init g c =
    let words = map seen_table c.args.words.now in
    let none = c.new-tables.ensures.items in
    record {
      files = refl;
      faults = omega arith;
      absences = omega arith;
      small = c.requires.small;
      count = ap length none;
      so_far = subst (λ (ts : List Named). ReadSoFar (g.S.Shelf.files c.args.shelf.now) c.args.purpose c.args.first c.args.before words ts 0 c.args.before words) (sym none)
          (read_none (g.S.Shelf.files c.args.shelf.now) c.args.purpose c.args.first c.args.before words);
    }

pub returns-in-Err-clause-refused : goal.returns-in-Err-clause-refused
returns-in-Err-clause-refused g c =
    let end = c.loop-word in
    let index : c.len.result ≡ end.word-index = grind (arith, c.len.ensures, end.invariant.count) in
    cause_at (g.S.Shelf.files c.args.shelf.now) (g.S.Shelf.files end.shelf) end.invariant.files c.args.purpose c.args.first c.args.before c.args.words.now end.tables.items end.word-index end.read c.len.result index _
    end.invariant.so_far c.loop-word-test.true _ _ _ _ _ _ c.in-Err.outcome end.invariant.faults end.invariant.absences c.in-Err.ensures.refused

pub loop-word-preserved : goal.loop-word-preserved
loop-word-preserved g c =
    let end = c.loop-word in
    let index : c.len.result ≡ end.word-index = grind (arith, c.len.ensures, end.invariant.count) in
    let grown : c.push.new.self.items ≡ end.tables.items ++ c.in-Ok.file.table ∷ [] = search (rules) in
    record {
      files = c.file_table.ensures.files ∙ end.invariant.files;
      faults = omega (arith, end.invariant.faults, c.file_table.ensures.counts.0);
      absences = omega (arith, end.invariant.absences, c.file_table.ensures.counts.1);
      small = c.in-Ok.ensures.small;
      count = ap length grown ∙ omega (arith, length-append end.tables.items (c.in-Ok.file.table ∷ []), end.invariant.count);
      so_far = one_at (g.S.Shelf.files c.args.shelf.now) (g.S.Shelf.files end.shelf) end.invariant.files c.args.purpose c.args.first c.args.before c.args.words.now end.tables.items end.word-index end.read c.len.result index _
          end.invariant.so_far c.loop-word-test.true c.in-Ok.file.size c.in-Ok.file.table c.push.new.self.items grown c.in-Ok.ensures.name c.in-Ok.ensures.table;
    }
