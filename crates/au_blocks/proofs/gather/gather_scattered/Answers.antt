-- One record more, and the end.
use Rattle.std.proofs.Common.{◌≡◌, ◌∙◌, ◌+◌, ◌++◌, ◌∷◌, [], List, ℕ, cond, get_or, take, Some, refl, sym, ap, arith}
use Rattle.std.specs.Prelude.{bytes_eq, not}
use Rattle.std.specs.List.{list_any, position_or_len}
use Rattle.std.proofs.lemmas.List.{get_or_read, length-take-le, take_all, take_more}
use Rattle.au_csv.specs.Texts.{Record}
use Rattle.au_blocks.specs.Entries.{is_absent, label_of, role_of}
use Rattle.au_blocks.specs.Inferring.{is_alternative}
use Rattle.au_blocks.specs.Labels.{lent_labels}
use Rattle.au_blocks.specs.Order.{labels, numbered}
use Rattle.au_blocks.specs.Tallies.{nothing}
use Rattle.au_blocks.proofs.GatherStep.{few-at, labels-push, place-within, tallies, tallies-are, tallies-blocks, tallies-push}
use Rattle.au_blocks.proofs.Numbering.{either, numbered-push}
use Rattle.au_blocks.proofs.gather.gather_scattered.Goals as goal

pub index-requires : goal.index-requires
index-requires c =
    let inv = c.loop-number.invariant in
    let f = c.args.format in
    let seen = take c.loop-number.number c.args.rows.now in
    let l = c.field.result.now in
    let are = tallies-are f seen l (lent_labels c.loop-number.labels) c.loop-number.tallies.items c.place_near.new.tallies.items inv.labels inv.tallies c.in_ok-recent.ensures.tallies in
    let place : c.in_ok-recent.recent ≡ position_or_len (bytes_eq l) (labels seen) = c.in_ok-recent.ensures.place ∙ ap (position_or_len (bytes_eq l)) inv.labels in
    let low = place-within f seen l c.place_near.new.tallies.items are in
    rw (place, c.place_near.new.tallies.ok.0) low

pub index_mut-requires : goal.index_mut-requires
index_mut-requires c =
    let inv = c.loop-number.invariant in
    let f = c.args.format in
    let seen = take c.loop-number.number c.args.rows.now in
    let l = c.field.result.now in
    let are = tallies-are f seen l (lent_labels c.loop-number.labels) c.loop-number.tallies.items c.place_near.new.tallies.items inv.labels inv.tallies c.in_ok-recent.ensures.tallies in
    let place : c.in_ok-recent.recent ≡ position_or_len (bytes_eq l) (labels seen) = c.in_ok-recent.ensures.place ∙ ap (position_or_len (bytes_eq l)) inv.labels in
    let low = place-within f seen l c.place_near.new.tallies.items are in
    rw (place, c.place_near.new.tallies.ok.0) low

pub with-requires : goal.with-requires
with-requires c =
    let inv = c.loop-number.invariant in
    let f = c.args.format in
    let rows = c.args.rows.now in
    let n = c.loop-number.number in
    let seen = take n rows in
    let l = c.field.result.now in
    let ts = c.place_near.new.tallies.items in
    let known = list_any (bytes_eq l) (labels seen) in
    let are = tallies-are f seen l (lent_labels c.loop-number.labels) c.loop-number.tallies.items ts inv.labels inv.tallies c.in_ok-recent.ensures.tallies in
    let place : c.in_ok-recent.recent ≡ position_or_len (bytes_eq l) (labels seen) = c.in_ok-recent.ensures.place ∙ ap (position_or_len (bytes_eq l)) inv.labels in
    let low = place-within f seen l ts are in
    let at : c.index.result.now ≡ get_or ts c.in_ok-recent.recent nothing = get_or_read ts c.in_ok-recent.recent c.index.result.now (rw place low) c.index.ensures nothing in
    let few = few-at f seen ts known c.in_ok-recent.recent are in
    rw at (omega (arith, few, length-take-le n rows (omega (arith, c.loop-number-test.true)), c.loop-number-test.true))

pub loop-number-preserved : goal.loop-number-preserved
loop-number-preserved c =
    let inv = c.loop-number.invariant in
    let f = c.args.format in
    let rows = c.args.rows.now in
    let n = c.loop-number.number in
    let within = c.loop-number-test.true in
    let seen = take n rows in
    let r = get_or rows n [] in
    let x = c.role_in-role.result in
    let l = c.field.result.now in
    let ts = c.place_near.new.tallies.items in
    let found : c.index-rows-number.result ≡ r = get_or_read rows n c.index-rows-number.result within c.index-rows-number.is [] in
    let label : l ≡ label_of r = c.field.ensures ∙ ap label_of found in
    let has : role_of f r ≡ Some x = ap (role_of f) (sym found) ∙ c.role_in-role.ensures in
    let are = tallies-are f seen l (lent_labels c.loop-number.labels) c.loop-number.tallies.items ts inv.labels inv.tallies c.in_ok-recent.ensures.tallies in
    let place : c.in_ok-recent.recent ≡ position_or_len (bytes_eq l) (labels seen) = c.in_ok-recent.ensures.place ∙ ap (position_or_len (bytes_eq l)) inv.labels in
    let low = place-within f seen l ts are in
    let at : c.index.result.now ≡ get_or ts c.in_ok-recent.recent nothing = get_or_read ts c.in_ok-recent.recent c.index.result.now (rw place low) c.index.ensures nothing in
    let more : take (n + 1) rows ≡ seen ++ r ∷ [] = take_more rows n [] within in
    let pushed = tallies-push f seen r x has ts (rw label at are) in
    let alternative : is_alternative f r ≡ not (is_absent x) = rw has refl in
    record {
      labels = c.in_ok-recent.ensures.labels ∙ rw (label, inv.labels) (sym (labels-push seen r) ∙ ap labels (sym more));
      tallies = rw (c.with.ensures, at, place, label) pushed ∙ ap (tallies f) (sym more);
      numbered = c.in_ok-put.ensures
          ∙ (λ i. inv.numbered i ++ cond (is_absent x) [] (((place ∙ ap (λ t. position_or_len (bytes_eq t) (labels seen)) label) i, found i) ∷ []))
          ∙ ap (λ (ps : List (ℕ × Record)). numbered f seen ++ ps) (either (is_absent x) (is_alternative f r) ((position_or_len (bytes_eq (label_of r)) (labels seen), r) ∷ []) alternative)
          ∙ sym (numbered-push f seen r) ∙ ap (numbered f) (sym more);
    }

pub returns-clause-tallies : goal.returns-clause-tallies
returns-clause-tallies c =
    let f = c.args.format in
    let rows = c.args.rows.now in
    c.loop-number.invariant.tallies ∙ ap (tallies f) (take_all c.loop-number.number rows c.loop-number-test.false) ∙ tallies-blocks f rows c.requires.blocks
