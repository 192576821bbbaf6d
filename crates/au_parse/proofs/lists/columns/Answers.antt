use Rattle.std.proofs.Common.{sym, ◌∙◌}
use Rattle.std.specs.Prelude.{option_map}
use Rattle.au_parse.specs.Expressions.{column_of}
use Rattle.au_parse.proofs.ListPieces.{read_more, read_none, read_end}
use Rattle.au_parse.proofs.lists.columns.Goals as goal

pub returns-in_default-2 : goal.returns-in_default-2
returns-in_default-2 c = read_none column_of c.args.tokens.now c.keys.keys.items c.in-Some.rest.now c.at_comma.result.0.now (option_map (λ x. x.now) c.at_comma.result.1) (rw c.in-Some.is at c.keys.invariant) c.at_comma.ensures.pieces (sym c.in_ok-key.ensures ∙ c.in_default-2.is)

pub keys-preserved : goal.keys-preserved
keys-preserved c = read_more column_of c.args.tokens.now c.keys.keys.items c.in-Some.rest.now c.at_comma.result.0.now (option_map (λ x. x.now) c.at_comma.result.1) (rw c.in-Some.is at c.keys.invariant) c.at_comma.ensures.pieces c.in-Some-2.key c.push.new.self.items (sym c.in_ok-key.ensures ∙ c.in-Some-2.is) c.in_ok-push.ensures.items

pub returns : goal.returns
returns c = read_end column_of c.args.tokens.now c.keys.keys.items (rw c.in_default.is at c.keys.invariant)
