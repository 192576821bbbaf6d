-- The sort is by the numbers, and stable.
use Rattle.std.proofs.Common.{rules, ℕ, [], Bor}
use Rattle.std.specs.Prelude.{nat_lt}
use Rattle.std.proofs.lemmas.Fn.{always_returns_same}
use Rattle.au_csv.specs.Texts.{Record}
use Rattle.au_blocks.proofs.Numbering.{kept, kept-below, risen}
use Rattle.au_blocks.proofs.gather.sorted.Goals as goal

abbrev number : ℕ × Bor Record → ℕ
number p = p.0

pub returns-clause-rise : goal.returns-clause-rise
returns-clause-rise c = risen c.sort_by_key.new.self.items (c.in_ok-sort_by_key.ensures.sorted number (always_returns_same _ _ _ (λ a r f k. search rules)))

pub returns-clause-stable : goal.returns-clause-stable
returns-clause-stable c = kept c.args.numbered.items c.sort_by_key.new.self.items (record { ref_ptr = (0, 0); now = [] }) (c.sort_by_key.ensures.stable number (always_returns_same _ _ _ (λ a r f k. search rules)))

pub returns-clause-below : goal.returns-clause-below
returns-clause-below c = λ n below. kept-below (λ (p : ℕ × Bor Record). nat_lt p.0 n) c.args.numbered.items c.sort_by_key.new.self.items c.sort_by_key.ensures.permutation below
