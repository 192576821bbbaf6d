-- One operator more.
use Rattle.std.proofs.Common.{◌≡◌, ◌+◌, ◌-◌, ◌<◌, arith, length, refl}
use Rattle.au_physical.specs.Physicals.{physical_tree}
use Rattle.au_columns.specs.Chains.{lent_trees}
use Rattle.au_columns.proofs.Chains.{all_taken, next_leaves, next_taken, none_taken, tree_at}
use Rattle.au_columns.proofs.chain.worked.Goals as goal

pub loop-left-init : goal.loop-left-init
loop-left-init c = record {
  taken = none_taken c.args.operators.now (length c.args.operators.now) c.args.rows refl;
  within = omega arith;
}

pub loop-left-preserved : goal.loop-left-preserved
loop-left-preserved c =
    let ops = c.args.operators.now in
    let i = c.loop-left.left - 1 in
    let p = c.index-operators-left.result in
    let next : c.loop-left.left ≡ i + 1 = omega (arith, c.loop-left-test.true) in
    let below : i < length ops = omega (arith, c.loop-left.invariant.within, next) in
    let at = tree_at ops i p below c.index-operators-left.is in
    record {
      taken = next_taken (lent_trees ops) c.loop-left.left i next (physical_tree p.now) at c.args.rows c.loop-left.made c.loop-left.invariant.taken c.in-Ok.made c.in-Ok.ensures.0 c.in-Ok.ensures.1;
      within = omega (arith, c.loop-left.invariant.within, next);
    }

pub returns-in-Err : goal.returns-in-Err
returns-in-Err c e =
    let ops = c.args.operators.now in
    let i = c.loop-left.left - 1 in
    let p = c.index-operators-left.result in
    let next : c.loop-left.left ≡ i + 1 = omega (arith, c.loop-left-test.true) in
    let below : i < length ops = omega (arith, c.loop-left.invariant.within, next) in
    let at = tree_at ops i p below c.index-operators-left.is in
    next_leaves (lent_trees ops) c.loop-left.left i next (physical_tree p.now) at c.args.rows c.loop-left.made c.loop-left.invariant.taken (c.in-Err.ensures e)

pub returns : goal.returns
returns c = all_taken (lent_trees c.args.operators.now) c.loop-left.left c.args.rows c.loop-left.made (omega (arith, c.loop-left-test.false)) c.loop-left.invariant.taken
