-- Rows behind others.
use Rattle.std.proofs.Common.{◌≡◌, ◌<◌, ◌+◌, ap, arith, map, subst, sym, ◌∙◌}
use Rattle.std.proofs.lemmas.List.{length-map}
use Rattle.au_columns.specs.Batches.{AreLong, joined, rows_of}
use Rattle.au_columns.proofs.Joined.{all_joined, as_many, behind_none, joined_long, joined_rows}
use Rattle.au_columns.proofs.collected.behind.Goals as goal

pub appended-requires : goal.appended-requires
appended-requires c =
    let more = c.args.more.now in
    let some : 0 < c.args.count = omega (arith, c.if-count-eq0.false) in
    as_many c.args.count c.args.added c.args.columns.items (map (λ a. a.value) more) some c.requires.some c.requires.alike ∙ length-map more (λ a. a.value)

pub returns-in_ok-made-clause-rows : goal.returns-in_ok-made-clause-rows
returns-in_ok-made-clause-rows c =
    behind_none c.args.count c.args.added c.args.columns.items (map (λ a. a.value) c.args.more.now) c.in_ok-made.made.items c.if-count-eq0.true c.in_ok-made.ensures

pub returns-in_ok-made-2-clause-rows : goal.returns-in_ok-made-2-clause-rows
returns-in_ok-made-2-clause-rows c =
    let n = c.args.count in
    let m = c.args.added in
    let cs = c.args.columns.items in
    let more = c.args.more.now in
    let ds = map (λ a. a.value) more in
    let some : 0 < n = omega (arith, c.if-count-eq0.false) in
    let alike = as_many n m cs ds some c.requires.some c.requires.alike in
    let is : c.in_ok-made-2.made.items ≡ all_joined cs ds = c.in_ok-made-2.ensures ∙ ap (λ k. joined k cs ds) (sym (length-map more (λ a. a.value))) in
    ap (rows_of (n + m)) is ∙ joined_rows n m cs ds c.requires.long alike

pub returns-in_ok-made-2-clause-long : goal.returns-in_ok-made-2-clause-long
returns-in_ok-made-2-clause-long c =
    let n = c.args.count in
    let m = c.args.added in
    let cs = c.args.columns.items in
    let more = c.args.more.now in
    let ds = map (λ a. a.value) more in
    let some : 0 < n = omega (arith, c.if-count-eq0.false) in
    let alike = as_many n m cs ds some c.requires.some c.requires.alike in
    let is : c.in_ok-made-2.made.items ≡ all_joined cs ds = c.in_ok-made-2.ensures ∙ ap (λ k. joined k cs ds) (sym (length-map more (λ a. a.value))) in
    subst (AreLong (n + m)) (sym is) (joined_long n m cs ds c.requires.long c.requires.added alike)
