-- The block table that the generator writes: the draws of a linear congruential generator (Lehmer 1949, with the
-- constants of ANSI C), three for each block, and the text that they give, block by block.
use Rattle.std.specs.Prelude.{ℕ, zero, suc, ◌+◌, ◌*◌, ◌/◌, ◌%◌, ◌^◌, ◌==◌, List, [], ◌++◌, codes, decimal, if◌then◌else◌}
use Rattle.std.specs.List.{flat_map, range_with_len}

-- the state after one more draw
abbrev pub next : ℕ → ℕ
next x = (x * 1103515245 + 12345) % 2 ^ 31

-- the state after k draws
abbrev pub state : ℕ → ℕ → ℕ
state start zero = start % 2 ^ 31
state start (suc k) = next (state start k)

-- the number that draw k gives; the draws are counted from 1
abbrev pub draw : ℕ → ℕ → ℕ
draw start k = state start k / 65536

-- the record of a block's guess, which is its first alternative
abbrev pub guess_record : ℕ → ℕ → ℕ → List ℕ
guess_record i a b =
    decimal i ++ codes ",guess," ++ decimal i ++ codes ",g" ++ decimal (a % 4) ++ codes "," ++ decimal (b % 100) ++ codes "\n"

-- the record of its second alternative: the next group, and an amount greater by 7
abbrev pub alternative_record : ℕ → ℕ → ℕ → List ℕ
alternative_record i a b =
    decimal i ++ codes ",alt," ++ decimal i ++ codes ",g" ++ decimal ((a + 1) % 4) ++ codes "," ++ decimal (b % 100 + 7) ++ codes "\n"

-- the record that says that the block may be absent
abbrev pub absent_record : ℕ → List ℕ
absent_record i = decimal i ++ codes ",absent,,,\n"

-- the records of block i: one block in three has a second alternative, and one in five may be absent
abbrev pub block_text : ℕ → ℕ → ℕ → ℕ → List ℕ
block_text i a b c =
    guess_record i a b ++ (if c % 3 == 0 then alternative_record i a b else []) ++ (if c % 5 == 0 then absent_record i else [])

-- the records of block j + 1, which has draws 3j + 1 to 3j + 3
abbrev pub drawn_block : ℕ → ℕ → List ℕ
drawn_block start j = block_text (j + 1) (draw start (3 * j + 1)) (draw start (3 * j + 2)) (draw start (3 * j + 3))

-- the names and kinds of the columns
abbrev pub header : List ℕ
header = codes "_block,_role,id:int,grp:text,amount:int\n"

-- the whole text of n blocks
unfoldable pub text : ℕ → ℕ → List ℕ
text start n = header ++ flat_map (drawn_block start) (range_with_len 0 n)
