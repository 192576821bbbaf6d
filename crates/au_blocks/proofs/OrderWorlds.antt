-- Two worlds of the orders.
use Rattle.std.specs.Prelude.{◌≡◌, ℕ, List, [], ◌∷◌, length, Option, Some, None, codes, pos}
use Rattle.std.proofs.Common.{arith, refl, ap, get_or, lit≤, lit<}
use Rattle.au_value.specs.declared.value.Value.{Value}
use Rattle.au_value.specs.declared.value.Value.TheVariants.{Int, Text}
use Rattle.au_blocks.specs.Tables.{IsBlockTable}
use Rattle.au_blocks.specs.Blocks.{IsCopies, once}
use Rattle.au_blocks.specs.WorldLaws.{HaveTwoWorlds, order, orders}
use Rattle.au_blocks.specs.Worlds.{Taken, guess_world, taken}
use Rattle.au_blocks.proofs.GuessWorlds.{guess_world_is_world}

once_is : IsCopies once
once_is = record { least_guess = lit≤ tt; guess_most = lit≤ tt; bounded = lit≤ tt }

pub orders_is_table : IsBlockTable orders
orders_is_table = record {
  table = record { rows = refl };
  kinds = refl;
  blocks = (
    record { nonempty = lit< tt; guess = lit< tt; copies = (once_is, (once_is, tt)) },
    (
      record { nonempty = lit< tt; guess = lit< tt; copies = (once_is, tt) },
      (record { nonempty = lit< tt; guess = lit< tt; copies = (once_is, tt) }, tt),
    ),
  );
}

-- one copy of an order's row
abbrev taken_once : ℕ → ℕ → List ℕ → ℕ → Option Taken
taken_once i id city amount = Some (taken i (Int (pos id) ∷ Text city ∷ Int (pos amount) ∷ []) 1)

-- the first order goes to Bergen, and the third is absent
pub orders_worlds : HaveTwoWorlds (orders ∷ [])
orders_worlds = record {
  one = guess_world (orders ∷ []);
  one_is = guess_world_is_world (orders ∷ []) (orders_is_table, tt);
  other = (taken_once 1 1 (codes "Bergen") 12 ∷ taken_once 0 2 (codes "Bergen") 5 ∷ None ∷ []) ∷ [];
  other_is = (
    (
      record { of = order 1 (codes "Bergen") 12; found = refl; allows = record { row = refl; least = lit≤ tt; most = lit≤ tt } },
      (record { of = order 2 (codes "Bergen") 5; found = refl; allows = record { row = refl; least = lit≤ tt; most = lit≤ tt } }, (refl, tt)),
    ),
    tt,
  );
  differ = λ same. let counts : 3 ≡ 2 = ap (λ (rows : List (List (List Value))). length (get_or rows 0 [])) same in absurd (omega arith);
}
