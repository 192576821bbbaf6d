-- Each node's columns stand behind those of its parts.
use Rattle.std.proofs.Common.{◌≡◌, ◌+◌, ◌++◌, length, map, rules, inl, inr}
use Rattle.au_expr.specs.Terms.{term}
use Rattle.au_plain.specs.PTerms.{pterm}
use Rattle.au_rwexpr.specs.Flatten.{case_step}
use Rattle.au_rwexpr.specs.Nodes.{AddsColumns, operator_step, terms_of}
use Rattle.au_rwexpr.proofs.Flattening.{TwoParts, sum, difference, product, comparison, conjunction, disjunction, OnePart, negation, opposite, two_adds, one_adds, case_adds}
use Rattle.au_rwexpr.proofs.expressions.+push_columns.Goals as goal

pub returns-in_ok-own-in-Add : goal.returns-in_ok-own-in-Add
returns-in_ok-own-in-Add t c =
    let w = c.args.width in
    let a = term c.in-Add.a.value in
    let b = term c.in-Add.b.value in
    let e = term c.args.tree.now in
    let old = c.args.columns.now.items in
    let one = c.push_columns-in-Add.new.columns.items in
    let two = c.push_columns-in-Add-2.new.columns.items in
    let new = c.push_node-in-Add.new.columns.items in
    let i = c.in_ok-left-in-Add.left.first in
    let j = c.in_ok-right-in-Add.right.first in
    let own = terms_of c.in_ok-operator_node-in-Add.field-0 in
    let at = c.in_ok-own-in-Add.own.first in
    let parts : TwoParts e a b = elim c.in-Add.is [
      | inl h ↦ rw h sum
      | inr r ↦ elim r [
        | inl h ↦ rw h difference
        | inr r ↦ elim r [
          | inl h ↦ rw h product
          | inr r ↦ elim r [
            | inl h ↦ rw h.1 (comparison _)
            | inr r ↦ elim r [ inl h ↦ rw h conjunction | inr h ↦ rw h disjunction ]
          ]
        ]
      ]
    ] in
    let x : AddsColumns w a old one i = search (rules, c.in_ok-left-in-Add.ensures) in
    let y : AddsColumns w b one two j = search (rules, c.in_ok-right-in-Add.ensures) in
    let is : own ≡ operator_step e i j = search (rules, c.in_ok-operator_node-in-Add.ensures) in
    let columns : map pterm new ≡ map pterm two ++ own = search (rules, c.in_ok-own-in-Add.ensures.columns) in
    let place : at ≡ w + length two = search (rules, c.in_ok-own-in-Add.ensures.place) in
    two_adds w old new own at e a b parts one two i j x y is columns place

pub returns-in_ok-own-in-Negate : goal.returns-in_ok-own-in-Negate
returns-in_ok-own-in-Negate t c =
    let w = c.args.width in
    let a = term c.in-Negate.a.value in
    let e = term c.args.tree.now in
    let old = c.args.columns.now.items in
    let one = c.push_columns-in-Negate.new.columns.items in
    let new = c.push_node-in-Negate.new.columns.items in
    let i = c.in_ok-part-in-Negate.part.first in
    let own = terms_of c.in_ok-operator_node-in-Negate.field-0 in
    let at = c.in_ok-own-in-Negate.own.first in
    let parts : OnePart e a = elim c.in-Negate.is [ inl h ↦ rw h negation | inr h ↦ rw h opposite ] in
    let x : AddsColumns w a old one i = search (rules, c.in_ok-part-in-Negate.ensures) in
    let is : own ≡ operator_step e i i = search (rules, c.in_ok-operator_node-in-Negate.ensures) in
    let columns : map pterm new ≡ map pterm one ++ own = search (rules, c.in_ok-own-in-Negate.ensures.columns) in
    let place : at ≡ w + length one = search (rules, c.in_ok-own-in-Negate.ensures.place) in
    one_adds w old new own at e a parts one i x is columns place

pub returns-in_ok-own-in-Case : goal.returns-in_ok-own-in-Case
returns-in_ok-own-in-Case t c =
    let w = c.args.width in
    let d = term c.in-Case.c.value in
    let a = term c.in-Case.a.value in
    let b = term c.in-Case.b.value in
    let old = c.args.columns.now.items in
    let one = c.push_columns.new.columns.items in
    let two = c.push_columns-in-Case.new.columns.items in
    let three = c.push_columns-in-Case-2.new.columns.items in
    let new = c.push_node-in-Case.new.columns.items in
    let m = c.in_ok-test-in-Case.test.first in
    let i = c.in_ok-left-in-Case.left.first in
    let j = c.in_ok-right-in-Case.right.first in
    let own = terms_of c.in_ok-case_node-in-Case.field-0 in
    let at = c.in_ok-own-in-Case.own.first in
    let z : AddsColumns w d old one m = search (rules, c.in_ok-test-in-Case.ensures) in
    let x : AddsColumns w a one two i = search (rules, c.in_ok-left-in-Case.ensures) in
    let y : AddsColumns w b two three j = search (rules, c.in_ok-right-in-Case.ensures) in
    let is : own ≡ case_step m i j = search (rules, c.in_ok-case_node-in-Case.ensures) in
    let columns : map pterm new ≡ map pterm three ++ own = search (rules, c.in_ok-own-in-Case.ensures.columns) in
    let place : at ≡ w + length three = search (rules, c.in_ok-own-in-Case.ensures.place) in
    rw c.in-Case.is (case_adds w old new own at d a b one two three m i j z x y is columns place)
