-- A triple says how often a tuple occurs at least, in the selected-guess world, and at most, over all possible worlds
-- (Feng, Huber, Glavic, Kennedy, SIGMOD 2021). Sum, product and order go component by component.
use Rattle.std.specs.Prelude.{ℕ, ◌+◌, ◌*◌, ◌≤◌, Bool, ◌&&◌, List, [], ◌∷◌, ◌==◌, nat_le}
use Rattle.au_annot.specs.Counts.{count_fits}

-- how often a tuple occurs at least, in the selected-guess world, and at most
pub record Counts : Type 0 where
  pub least : ℕ
  pub guess : ℕ
  pub most : ℕ

abbrev pub counts : ℕ → ℕ → ℕ → Counts
counts l g m = record { least = l; guess = g; most = m }

-- least ≤ guess ≤ most
pub record IsTriple (t : Counts) : Type 0 where
  pub least_guess : t.least ≤ t.guess
  pub guess_most : t.guess ≤ t.most

-- the sum and the product
abbrev pub plus : Counts → Counts → Counts
plus a b = counts (a.least + b.least) (a.guess + b.guess) (a.most + b.most)

abbrev pub times : Counts → Counts → Counts
times a b = counts (a.least * b.least) (a.guess * b.guess) (a.most * b.most)

-- the triples of a tuple that never occurs, and of one that always occurs once
abbrev pub none : Counts
none = counts 0 0 0

abbrev pub one : Counts
one = counts 1 1 1

-- whether each component is at most the other's
abbrev pub at_most : Counts → Counts → Bool
at_most a b = nat_le a.least b.least && nat_le a.guess b.guess && nat_le a.most b.most

-- whether no component exceeds 2^127-1
abbrev pub in_range : Counts → Bool
in_range t = count_fits t.least && count_fits t.guess && count_fits t.most

-- the sum of several triples
abbrev pub total_counts : List Counts → Counts
total_counts [] = none
total_counts (t ∷ ts) = plus t (total_counts ts)

-- whether no copy is possible
abbrev pub is_none : Counts → Bool
is_none t = t.most == 0
