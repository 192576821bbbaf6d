-- Each source is read as the plan keeps it.
use Rattle.std.specs.Prelude.{◌⊎◌}
use Rattle.std.proofs.Common.{subst}
use Rattle.std.proofs.lemmas.Result.{IfOk-weaker}
use Rattle.au_algebra.specs.Ordinary.{Rows}
use Rattle.au_physical.specs.Physicals.{physical_tree}
use Rattle.au_program.specs.Inputs.{Reads}
use Rattle.au_program.specs.KeptRows.{kept_rows}
use Rattle.au_program.specs.Programs.{ReadsLess}
use Rattle.au_program.specs.Sources.{AreParts, CanRun, Holds, IsFound, LeavesOver, PairsLeave, PairsOver, ProductRuns, StartsOver, StepRuns, Stops}
use Rattle.au_program.proofs.NarrowedSources.{last_less, table_less}
use Rattle.au_program.proofs.readiness.+narrow.Goals as goal

pub returns-in_ok-keep-in-Table-clause-reads : goal.returns-in_ok-keep-in-Table-clause-reads
returns-in_ok-keep-in-Table-clause-reads t c =
    let p = physical_tree c.args.plan.now in
    let q = physical_tree c.narrow.new.plan in
    let r = physical_tree c.keep.new.plan in
    let before = c.in-Table.before.value in
    let narrowed = c.narrow.new.sources in
    let less = subst (λ s. ReadsLess s narrowed p q) c.deref_mut.ensures.value c.in_ok-place-in-Table.ensures.reads in
    let reads = subst (λ n. (whole : Rows) → Reads n (kept_rows c.in-Table.kept whole) (kept_rows c.keep.new.kept whole) q r) c.in_ok-place-in-Table.ensures.count c.in_ok-keep-in-Table.ensures in
    rw c.in-Table.is
    (IfOk-weaker c.more.result _ _
    (λ n is.
    table_less before narrowed _ _ p q less c.in-Table.field-1 c.in-Table.kept c.keep.new.kept r reads (λ ts rows h. h) (λ ts rows b. b) (λ ts k. k) (λ ts k. k) (λ ts s. s) (λ ts s. s))
    c.more.ensures)

pub returns-in_ok-place-in-Step-clause-reads : goal.returns-in_ok-place-in-Step-clause-reads
returns-in_ok-place-in-Step-clause-reads t c =
    let p = physical_tree c.args.plan.now in
    let q = physical_tree c.narrow-in-Step.new.plan in
    let before = c.in-Step.before.value in
    let own = c.in-Step.field-1.value in
    let how = c.in-Step.field-2 in
    let narrowed = c.narrow-in-Step.new.sources in
    let less = subst (λ s. ReadsLess s narrowed p q) c.deref_mut-in-Step.ensures.value c.in_ok-place-in-Step.ensures.reads in
    rw c.in-Step.is
    (IfOk-weaker c.more-in-Step.result _ _
    (λ n is.
    last_less before narrowed _ _ p q less (λ ts. IsFound (Holds ts own) how) (λ ts. StepRuns (CanRun ts own) (StartsOver (Holds ts own) how)) (λ ts. Stops ts own ⊎ LeavesOver (Holds ts own) how)
    (λ ts rows h. h) (λ ts rows b. b) (λ ts k. k) (λ ts k. k) (λ ts s. s) (λ ts s. s))
    c.more-in-Step.ensures)

pub returns-in_ok-place-in-Pairs-clause-reads : goal.returns-in_ok-place-in-Pairs-clause-reads
returns-in_ok-place-in-Pairs-clause-reads t c =
    let p = physical_tree c.args.plan.now in
    let q = physical_tree c.narrow-in-Pairs.new.plan in
    let before = c.in-Pairs.before.value in
    let left = c.in-Pairs.field-1.value in
    let right = c.in-Pairs.field-2.value in
    let pairing = c.in-Pairs.field-3 in
    let narrowed = c.narrow-in-Pairs.new.sources in
    let less = subst (λ s. ReadsLess s narrowed p q) c.deref_mut-in-Pairs.ensures.value c.in_ok-place-in-Pairs.ensures.reads in
    rw c.in-Pairs.is
    (IfOk-weaker c.more-in-Pairs.result _ _
    (λ n is.
    last_less before narrowed _ _ p q less (λ ts. AreParts (Holds ts left) (Holds ts right) pairing)
    (λ ts. ProductRuns (CanRun ts left) (CanRun ts right) (PairsOver (Holds ts left) (Holds ts right) pairing))
    (λ ts. Stops ts left ⊎ (Stops ts right ⊎ PairsLeave (Holds ts left) (Holds ts right) pairing))
    (λ ts rows h. h) (λ ts rows b. b) (λ ts k. k) (λ ts k. k) (λ ts s. s) (λ ts s. s))
    c.more-in-Pairs.ensures)
