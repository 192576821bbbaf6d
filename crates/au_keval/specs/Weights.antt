-- The annotations of truths: 1 for true and 0 for false, twice in a pair, and a triple of these for whether a condition
-- holds certainly, in the guess and possibly. Valid truths have valid annotations, and products of these are valid.
use Rattle.std.specs.Prelude.{◌≡◌, ℕ, ◌≤◌, Bool, true, false, refl, if◌then◌else◌}
use Rattle.std.proofs.Common.{zero-le, le_refl, mul-le-mul, sym}
use Rattle.std.proofs.lemmas.Bool.{true≢false}
use Rattle.au_annot.specs.Pairs as pairs
use Rattle.au_annot.specs.Pairs.{PairCounts, pair_of, IsPair}
use Rattle.au_annot.specs.Triples.{Counts, counts, times, IsTriple}
use Rattle.au_expr.specs.Truths.{IsAnyBool, IsThreeWay}
use Rattle.au_expr.specs.declared.truth.ThreeWay.{ThreeWay}

-- 1 for true and 0 for false
abbrev pub truth_count : Bool → ℕ
truth_count t = if t then 1 else 0

-- the same in every world and in the guess world
abbrev pub twice_of : Bool → PairCounts
twice_of t = pair_of (truth_count t) (truth_count t)

-- the same of each of the three
abbrev pub truth_triple : ThreeWay → Counts
truth_triple t = counts (truth_count t.least) (truth_count t.guess) (truth_count t.most)

pub counts_valid : (t : Bool) → IsAnyBool t → Unit {0}
counts_valid t ok = tt

pub counts_times : (m n : ℕ) → Unit {0} → Unit {0} → Unit {0}
counts_times m n p q = tt

pub pairs_valid : (t : Bool) → IsAnyBool t → IsPair (twice_of t)
pairs_valid t ok = record { certain_guess = le_refl (truth_count t) }

pub pairs_times : (s t : PairCounts) → IsPair s → IsPair t → IsPair (pairs.times s t)
pairs_times s t p q = record { certain_guess = mul-le-mul p.certain_guess q.certain_guess }

rising : (p q : Bool) → (p ≡ true → q ≡ true) → truth_count p ≤ truth_count q
rising true true h = le_refl 1
rising true false h = absurd (true≢false (sym (h refl)))
rising false q h = zero-le

pub triples_valid : (t : ThreeWay) → IsThreeWay t → IsTriple (truth_triple t)
triples_valid t ok = record {
  least_guess = rising t.least t.guess ok.least_guess;
  guess_most = rising t.guess t.most ok.guess_most;
}

pub triples_times : (s t : Counts) → IsTriple s → IsTriple t → IsTriple (times s t)
triples_times s t p q = record {
  least_guess = mul-le-mul p.least_guess q.least_guess;
  guess_most = mul-le-mul p.guess_most q.guess_most;
}
