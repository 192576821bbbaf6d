-- One record more, absent or an alternative.
use Rattle.std.proofs.Common.{◌≡◌, ◌∙◌, true, false, Some, filter, length, sym, ap, arith, rules}
use Rattle.std.specs.Prelude.{not}
use Rattle.std.proofs.lemmas.List.{length_push, with_items_is}
use Rattle.au_blocks.specs.Entries.{is_absent, role_of}
use Rattle.au_blocks.specs.Inferring.{is_alternative}
use Rattle.au_blocks.specs.OnePass.{is_bare, is_fitting}
use Rattle.au_blocks.proofs.OnePassColumns.{kinds-over, with_row-over}
use Rattle.au_blocks.proofs.TakenRecords.{absent-fits, all-more, by-role, length-with_row, row-fits, taken-more, taken-same}
use Rattle.au_blocks.proofs.intake.Intake.take.Goals as goal

pub returns-then-is_absent : goal.returns-then-is_absent
returns-then-is_absent c f width kinds rows taken bare =
    let r = c.args.record.now in
    let x = c.in-Some.role in
    let named : role_of f r ≡ Some x = ap (λ g. role_of g r) (sym taken.format) ∙ sym c.in-Some.ensures in
    let absent : is_absent x ≡ true = sym c.is_absent.ensures ∙ c.if-is_absent.true in
    let none : is_alternative f r ≡ false = by-role f r x named ∙ ap not absent in
    let same = taken-same (is_alternative f) rows r none in
    let wide : length r ≡ width = sym c.len.ensures ∙ c.if-len-self.false ∙ taken.wide in
    let empty : is_bare r ≡ true = rw c.has_value.ensures at bare in
    record {
      format = taken.format;
      wide = taken.wide;
      columns = rw same taken.columns;
      blocks = c.in_ok-add.ensures f rows taken.blocks named c.if-not-branch.false;
      count = rw same taken.count;
      fitting = all-more (is_fitting f width kinds) rows r taken.fitting (absent-fits f width kinds r x wide named absent empty);
    }

pub returns : goal.returns
returns c f width kinds rows taken goes =
    let r = c.args.record.now in
    let x = c.in-Some.role in
    let named : role_of f r ≡ Some x = ap (λ g. role_of g r) (sym taken.format) ∙ sym c.in-Some.ensures in
    let there : is_absent x ≡ false = sym c.is_absent.ensures ∙ c.if-is_absent.false in
    let one : is_alternative f r ≡ true = by-role f r x named ∙ ap not there in
    let more = taken-more (is_alternative f) rows r one in
    let wide : length r ≡ width = sym c.len.ensures ∙ c.if-len-self.false ∙ taken.wide in
    let before = c.deref_mut.ensures.value ∙ taken.columns in
    let values = rw (taken.format, before, kinds-over f (filter (is_alternative f) rows) 0 kinds) at (c.in_ok-push_row.ensures.values goes) in
    let pushed = c.in_ok-push_row.ensures.cells goes in
    let cells = rw (taken.format, before, with_row-over f r 0 (filter (is_alternative f) rows) kinds) at pushed in
    let held = c.args.self.now.columns in
    let long : length c.push_row.new.columns ≡ held.len =
    ap length pushed ∙ length-with_row c.args.self.now.format r 0 c.deref_mut.result.now ∙ ap length c.deref_mut.ensures.value ∙ sym held.ok.0 in
    record {
      format = taken.format;
      wide = taken.wide;
      columns = with_items_is held c.push_row.new.columns long ∙ rw more cells;
      blocks = c.in_ok-add.ensures f rows taken.blocks named c.if-not-branch.false;
      count = rw (more, length_push (filter (is_alternative f) rows) r) (search (rules, arith, taken.count, c.in-Some-checked_add.ensures));
      fitting = all-more (is_fitting f width kinds) rows r taken.fitting (row-fits f width kinds r x wide named there values);
    }
