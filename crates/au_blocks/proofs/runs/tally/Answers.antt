-- One record more, with a role and without one.
use Rattle.std.proofs.Common.{◌≡◌, ◌∙◌, [], Some, None, get_or, take, sym, ap, arith}
use Rattle.std.proofs.lemmas.List.{get_or_read, length-take-le}
use Rattle.au_blocks.specs.declared.tally.Tally.{Tally}
use Rattle.au_blocks.specs.Entries.{role_of}
use Rattle.au_blocks.specs.Tallies.{with_role}
use Rattle.au_blocks.proofs.RunEntries.{run-more, run-stays}
use Rattle.au_blocks.proofs.Tallying.{few-alternatives}
use Rattle.au_blocks.proofs.runs.tally.Goals as goal
use Rattle.au_blocks.proofs.runs.tally.Goals.{in-Some, in_default}

pub with-tally-requires : goal.with-tally-requires
with-tally-requires c =
    let run = c.args.run.now in
    let i = c.loop-place.place in
    let few = few-alternatives c.args.format (take i run) in
    rw (c.loop-place.invariant) (omega (arith, few, length-take-le i run (omega (arith, c.loop-place-test.true)), c.loop-place-test.true))

pub loop-place-preserved : goal.loop-place-preserved
loop-place-preserved c =
    let f = c.args.format in
    let run = c.args.run.now in
    let i = c.loop-place.place in
    let within = c.loop-place-test.true in
    let at : c.index-run-place.result ≡ get_or run i [] = get_or_read run i c.index-run-place.result within c.index-run-place.is [] in
    elim c.match-role.branch [
      | in-Some w ↦
          let has : role_of f (get_or run i []) ≡ Some w.in-Some.role = sym (w.in-Some.ensures ∙ ap (role_of f) at) in
          w.tally-is ∙ w.with-tally.ensures ∙ ap (λ (t : Tally). with_role t w.in-Some.role) c.loop-place.invariant ∙ sym (run-more f run i w.in-Some.role within has)
      | in_default w ↦
          let has : role_of f (get_or run i []) ≡ None = sym (w.in_default.ensures ∙ ap (role_of f) at) in
          w.tally-is ∙ c.loop-place.invariant ∙ sym (run-stays f run i within has)
    ]
