-- Without GROUP BY and HAVING, the items decide.
use Rattle.std.proofs.Common.{◌≡◌, ℕ, false, length, map, refl, sym, ap, ◌∙◌, rules}
use Rattle.std.specs.Prelude.{Option, Some, None, is_some, nat_lt}
use Rattle.std.specs.List.{list_any}
use Rattle.std.proofs.lemmas.Bool.{true≢false}
use Rattle.au_parse.specs.Views.{condition_view, item_view}
use Rattle.au_parse.specs.declared.Item.{Item}
use Rattle.au_parse.specs.declared.Term.{Term}
use Rattle.au_typing.specs.Items.{item_written, items_written}
use Rattle.au_typing.proofs.Clauses.{any_written}
use Rattle.au_typing.proofs.select.is_grouped.Goals as goal
use Rattle.au_typing.proofs.select.is_grouped.Goals.{then-part, else-part}

some_view : (o : Option (ℕ × Term)) → is_some (condition_view o) ≡ is_some o
some_view None = refl
some_view (Some c) = refl

pub returns-else-is_some : goal.returns-else-is_some
returns-else-is_some c =
    let items : c.have_aggregate.result ≡ nat_lt 0 (length (items_written (map item_view c.args.part.now.items.items))) =
    c.have_aggregate.ensures ∙ ap (list_any (λ (item : Item). nat_lt 0 (length (item_written (item_view item))))) c.as_slice.ensures.value ∙ any_written c.args.part.now.items.items in
    elim c.if-part.branch [
      | then-part w ↦ absurd (true≢false (sym w.if-part.true ∙ sym w.value-is ∙ c.if-is_some.false))
      | else-part w ↦
          let none : is_some c.args.part.now.having ≡ false = search (rules, sym w.is_some.ensures ∙ sym w.value-is ∙ c.if-is_some.false) in
          rw (w.if-part.false, some_view c.args.part.now.having, none) items
    ]
