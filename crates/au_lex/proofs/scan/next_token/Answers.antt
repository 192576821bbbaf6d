use Rattle.std.proofs.Common.{sym, ap, ◌<◌, length, length-drop, arith, inr, inl, ◌∙◌, Err}
use Rattle.std.proofs.lemmas.Bool.{eqb-true}
use Rattle.std.proofs.lemmas.Bool.Decides.{nat_tests}
use Rattle.au_lex.proofs.TokenSteps.{ended, full, faulty, goes}
use Rattle.au_lex.proofs.Utf8.{behind_both, blank_utf8}
use Rattle.au_lex.proofs.scan.next_token.Goals as goal

pub returns-then-is_empty-clause-none : goal.returns-then-is_empty-clause-none
returns-then-is_empty-clause-none c =
    λ _. ended c.args.room c.args.at c.blanks-gap.result c.args.text.now c.behind-rest.result.now c.blanks-gap.ensures.length c.behind-rest.ensures
    (eqb-true _ _ (sym c.if-is_empty.ensures))

pub returns-then-room-eq0-clause-fault : goal.returns-then-room-eq0-clause-fault
returns-then-room-eq0-clause-fault c =
    let some : 0 < length c.behind-rest.result.now = grind (arith, nat_tests) in
    inr (full c.args.room c.args.at c.blanks-gap.result c.args.text.now c.behind-rest.result.now c.blanks-gap.ensures.length c.behind-rest.ensures c.if-room-eq0.true some
    ∙ ap (λ e. Err e) (sym c.one_too_many.ensures))

pub returns-in-Ok-clause-some : goal.returns-in-Ok-clause-some
returns-in-Ok-clause-some c =
    let some : 0 < length c.behind-rest.result.now = grind (arith, nat_tests) in
    record {
      may = omega arith;
      some = omega (arith, c.in-Ok.ensures.found.some);
      within = omega (arith, c.in-Ok.ensures.found.within, ap length c.behind-rest.ensures, length-drop c.blanks-gap.result c.args.text.now, c.blanks-gap.ensures.within);
      utf8 = behind_both c.args.text.now c.behind-rest.result.now c.blanks-gap.result c.in-Ok.len c.behind-rest.ensures
          (blank_utf8 c.args.text.now c.behind-rest.result.now c.blanks-gap.result c.blanks-gap.ensures.length c.behind-rest.ensures c.blanks-gap.ensures.within c.requires.utf8)
          c.in-Ok.ensures.found.some c.in-Ok.ensures.found.within c.in-Ok.ensures.found.ascii;
      tokens = goes c.args.room c.args.at c.blanks-gap.result c.args.text.now c.behind-rest.result.now c.blanks-gap.ensures.length c.behind-rest.ensures
          c.in-Ok.len c.in-Ok.what (omega arith) some c.in-Ok.ensures.found.is;
    }

pub returns-in-Err-clause-fault : goal.returns-in-Err-clause-fault
returns-in-Err-clause-fault c =
    let some : 0 < length c.behind-rest.result.now = grind (arith, nat_tests) in
    elim c.in-Err.ensures.fault [
      | inl memory ↦ inl memory
      | inr is ↦ inr (faulty c.args.room c.args.at c.blanks-gap.result c.args.text.now c.behind-rest.result.now c.blanks-gap.ensures.length c.behind-rest.ensures c.in-Err.fault (omega arith) some is)
    ]

pub lexeme_at-requires-clause-utf8 : goal.lexeme_at-requires-clause-utf8
lexeme_at-requires-clause-utf8 c =
    blank_utf8 c.args.text.now c.behind-rest.result.now c.blanks-gap.result c.blanks-gap.ensures.length c.behind-rest.ensures c.blanks-gap.ensures.within c.requires.utf8
