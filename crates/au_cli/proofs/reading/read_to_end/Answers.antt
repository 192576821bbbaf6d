-- Of a file that is too large as many bytes are left as were not taken.
use Rattle.std.proofs.Common.{◌≡◌, ◌∙◌, ◌∷◌, ◌++◌, ◌+◌, [], ℕ, List, Option, Some, None, ap, sym, refl, drop, length, arith}
use Rattle.std.specs.Prelude.{IfSome}
use Rattle.std.specs.Io.KnownBytes.{Consumes}
use Rattle.au_cli.specs.Files.{greatest_size}
use Rattle.au_cli.proofs.reading.read_to_end.Goals as goal

rest_of : (bytes rest : List ℕ) → drop (length bytes) (bytes ++ rest) ≡ rest
rest_of [] rest = refl
rest_of (b ∷ bytes) rest = rest_of bytes rest

taken : (n : ℕ) (before now : Option (List ℕ)) (bytes : List ℕ) → Consumes before now bytes → length bytes ≡ n → IfSome before (λ left. now ≡ Some (drop n left))
taken n None now bytes consumed size = tt
taken n (Some left) None bytes consumed size = absurd consumed
taken n (Some left) (Some rest) bytes consumed size = rw (consumed, ← size) (ap Some (sym (rest_of bytes rest)))

pub returns-clause-taken : goal.returns-clause-taken
returns-clause-taken g c is =
    let end = c.loop-bytes in
    let size : length end.bytes.items ≡ greatest_size + 1 = grind (arith, end.invariant.size, end.bytes.ok.0) in
    taken (greatest_size + 1) _ _ end.bytes.items end.invariant.so_far size
