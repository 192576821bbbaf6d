use Rattle.std.proofs.Common.{◌≤◌, ◌<◌, sym, ap, ◌∙◌, arith, length}
use Rattle.std.proofs.lemmas.Bool.Decides.{nat_tests}
use Rattle.std.proofs.lemmas.Result.{IfOk-at_ok}
use Rattle.std.specs.Prelude.{option_map}
use Rattle.au_parse.specs.Expressions.{both}
use Rattle.au_parse.specs.Tree.{QueryTree}
use Rattle.au_parse.specs.Words.{name_word}
use Rattle.au_parse.specs.Statements.{query_read, sources_of, set_of}
use Rattle.au_parse.proofs.Expressions.{ok_map}
use Rattle.au_parse.proofs.ClauseCuts.{cut_at_clauses}
use Rattle.au_parse.proofs.Sets.{sets_first, sets_on, operand_group, operand_open, operand_select, operand_other, select_none, select_some, source_more, source_none, sources_end, source_inner, map_twice, then_map, some_map, left_less}
use Rattle.au_parse.proofs.queries.+queries.Goals as goal

pub query-sides-init : goal.query-sides-init
query-sides-init t c = (
  sets_first c.args.tokens.now c.split_at.result.0.now c.split_at.result.1.now c.front_length.result (query_read c.in_ok-tree.tree) c.front_length.ensures.count
      c.split_at.ensures.front c.split_at.ensures.back c.in_ok-tree.ensures (omega (arith, c.split_at.ensures.front_len, c.front_length.ensures.within)),
  omega (arith, c.split_at.ensures.back_len),
)

pub query-sides-preserved : goal.query-sides-preserved
query-sides-preserved t c =
    let whole : length c.sides.rest.now ≤ length c.args.tokens.now = c.sides.invariant.1 in (
      sets_on c.args.tokens.now c.sides.rest.now c.in-Some.others.now c.split_at-in-Some.result.0.now c.all_first-all.result.1.now c.split_at-in-Some.result.1.now c.in-Some.word.now
          (set_of c.in-Some-set_word.operation) c.front_length-in-Some.result c.all_first-all.result.0 (query_read c.sides.tree) (query_read c.in_ok-right.right) (query_read c.in_ok-tree-2.tree)
          c.in-Some.ensures.cases.0 (sym c.in-Some-set_word.ensures) c.front_length-in-Some.ensures.count c.split_at-in-Some.ensures.front c.split_at-in-Some.ensures.back
          c.all_first-all.ensures.all c.all_first-all.ensures.rest (IfOk-at_ok _ c.in_ok-right.ensures.values.0 c.operand-in-Some.ensures)
          (omega (arith, c.split_at-in-Some.ensures.front_len, c.front_length-in-Some.ensures.within, ap length c.in-Some.ensures.cases.0, c.all_first-all.ensures.within))
          (c.in_ok-tree-2.ensures
          ∙ ap (λ l. both (QueryTree.set (set_of c.in-Some-set_word.operation) c.all_first-all.result.0 c.in-Some.word.now.from) (query_read l) (query_read c.in_ok-right.right)) c.in_ok-right.ensures.values.1)
          c.sides.invariant.0,
      omega (arith, c.split_at-in-Some.ensures.back_len, ap length c.in-Some.ensures.cases.0),
    )

pub operand-returns-in-Some-inside : goal.operand-returns-in-Some-inside
operand-returns-in-Some-inside t c =
    ok_map c.query.result _ _
    (λ o is. operand_group c.args.tokens.now c.in-Some.others.now c.in-Some-inside.middle.now c.in-Some.first.now (query_read o) c.in-Some.ensures.cases.0 c.if-is_group_open.ensures
    c.in-Some-inside.ensures.tokens c.in-Some-inside.ensures.shorter is)
    c.query.ensures

pub operand-returns-in-None : goal.operand-returns-in-None
operand-returns-in-None t c = λ n fits. operand_open c.args.tokens.now c.in-Some.others.now c.in-Some.first.now c.in-Some.ensures.cases.0 c.if-is_group_open.ensures c.in-None.ensures.tokens n

pub operand-returns-then-is_select : goal.operand-returns-then-is_select
operand-returns-then-is_select t c =
    ok_map c.select.result _ _
    (λ o is. operand_select c.args.tokens.now c.in-Some.others.now c.in-Some.first.now (query_read o) c.in-Some.ensures.cases.0 c.if-is_group_open.ensures c.if-is_select.ensures is)
    c.select.ensures

pub operand-returns-else-is_select : goal.operand-returns-else-is_select
operand-returns-else-is_select t c = λ n fits. operand_other c.args.tokens.now c.in-Some.others.now c.in-Some.first.now c.in-Some.ensures.cases.0 c.if-is_group_open.ensures c.if-is_select.ensures n

pub select-returns-in_default : goal.select-returns-in_default
select-returns-in_default t c = λ n fits.
    select_none c.args.at c.args.tokens.now c.quantifier-distinct.result.1.now c.split_at.result.0.now c.split_at.result.1.now c.quantifier-distinct.result.0
    (record {
      distinct = c.quantifier-distinct.ensures.distinct;
      rest = c.quantifier-distinct.ensures.rest;
      parts = cut_at_clauses c.quantifier-distinct.result.1.now c.split_at.result.0.now c.split_at.result.1.now c.front_length.result c.front_length.ensures.count c.split_at.ensures.front c.split_at.ensures.back;
    }) c.in_default.ensures.clauses n

pub select-returns : goal.select-returns
select-returns t c =
    ok_map c.select_of.result _ _
    (λ o is. select_some c.args.at c.args.tokens.now c.quantifier-distinct.result.1.now c.split_at.result.0.now c.split_at.result.1.now c.quantifier-distinct.result.0 _ _ _ _ (query_read o)
    (record {
      distinct = c.quantifier-distinct.ensures.distinct;
      rest = c.quantifier-distinct.ensures.rest;
      parts = cut_at_clauses c.quantifier-distinct.result.1.now c.split_at.result.0.now c.split_at.result.1.now c.front_length.result c.front_length.ensures.count c.split_at.ensures.front c.split_at.ensures.back;
    }) c.in-Some.ensures.clauses
    (some_map (λ p. (p.0, p.1.now)) c.in-Some.parts.group ∙ some_map (λ g. g.1) (option_map (λ p. (p.0, p.1.now)) c.in-Some.parts.group))
    (sym (map_twice (λ g. g.1) (λ p. (p.0, p.1.now)) c.in-Some.parts.group))
    (omega (arith, c.in-Some.ensures.shorter, c.split_at.ensures.back_len, c.quantifier-distinct.ensures.within))
    (λ n fits. c.in_ok-sources.ensures.reads n fits ∙ map_twice sources_of (λ v. v.items) c.in_ok-sources.sources) is)
    c.select_of.ensures

pub sources-returns-in_default-2 : goal.sources-returns-in_default-2
sources-returns-in_default-2 t c = record {
  reads = source_none c.args.tokens.now c.in-Some.rest.now c.at_comma.result.0.now c.list.list.items (option_map (λ x. x.now) c.at_comma.result.1) (rw c.in-Some.is at c.list.invariant.0) c.at_comma.ensures.pieces
      (omega (arith, c.at_comma.ensures.front, rw c.in-Some.is at c.list.invariant.1)) c.in_ok-source.field-0 c.in_ok-source.ensures.reads c.in_default-2.is;
}

pub sources-list-preserved : goal.sources-list-preserved
sources-list-preserved t c =
    let fits : length c.in-Some.rest.now ≤ length c.args.tokens.now = omega (arith, rw c.in-Some.is at c.list.invariant.1) in (
      source_more c.args.tokens.now c.in-Some.rest.now c.at_comma.result.0.now c.list.list.items (option_map (λ x. x.now) c.at_comma.result.1) (rw c.in-Some.is at c.list.invariant.0) c.at_comma.ensures.pieces
          (omega (arith, c.at_comma.ensures.front)) c.in_ok-source.field-0 c.in_ok-source.ensures.reads c.in-Some-2.source c.push.new.self.items c.in-Some-2.is c.in_ok-push.ensures.items,
      omega (arith, left_less (λ x. x.now) c.at_comma.result.1 (length c.in-Some.rest.now) c.at_comma.ensures.shorter),
    )

pub sources-returns : goal.sources-returns
sources-returns t c = record { reads = sources_end c.args.tokens.now c.list.list.items (rw c.in_default.is at c.list.invariant.0) }

pub source-returns : goal.source-returns
source-returns t c =
    let more : 0 < length c.in-Some.others.now = grind (arith, nat_tests) in
    ok_map c.inner.result _ _
    (λ o is. record {
      reads = λ n others fits.
          source_inner c.args.tokens.now c.aliased.result.0.now c.in-Some.others.now c.in-Some-inside.middle.now (option_map (λ x. x.now) c.aliased.result.1) c.in-Some.first.now c.in_ok-alias.alias (query_read c.in_ok-found.found) o
          c.aliased.ensures.parts c.in-Some.ensures.cases.0 more (sym c.if-not-is_group_open.ensures) c.in-Some-inside.ensures.tokens c.in-Some-inside.ensures.shorter c.aliased.ensures.front
          (c.in_ok-alias.ensures ∙ sym (then_map (λ x. name_word x.what) (λ x. x.now) c.aliased.result.1)) c.in_ok-found.ensures is n others fits;
    }) c.inner.ensures
