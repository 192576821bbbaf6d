-- How long the text of a block, and of all blocks, is at most.
use Rattle.std.proofs.Common.{ℕ, zero, suc, ◌+◌, ◌*◌, ◌%◌, ◌<◌, ◌≤◌, ◌==◌, Bool, true, false, cond, List, [], ◌++◌, length, decimal, arith, length-append}
use Rattle.std.specs.List.{flat_map, range_with_len}
use Rattle.std.proofs.lemmas.Fmt.{length-decimal-le}
use Rattle.au_gen.specs.Generator.{guess_record, alternative_record, absent_record, block_text, draw, drawn_block, header, text}

-- a number of at most six digits
six : (i : ℕ) → i ≤ 100000 → length (decimal i) ≤ 6
six i few = length-decimal-le 6 i (omega arith) (omega arith) (omega arith)

-- the record of a guess
guess_length : (i a b : ℕ) → i ≤ 100000 → length (guess_record i a b) ≤ 26
guess_length i a b few =
    let group : length (decimal (a % 4)) ≤ 1 = length-decimal-le 1 (a % 4) (omega arith) (omega arith) (omega arith) in
    let amount : length (decimal (b % 100)) ≤ 2 = length-decimal-le 2 (b % 100) (omega arith) (omega arith) (omega arith) in
    simp length-append (omega (arith, six i few, group, amount))

-- the record of a second alternative
alternative_length : (i a b : ℕ) → i ≤ 100000 → length (alternative_record i a b) ≤ 25
alternative_length i a b few =
    let group : length (decimal ((a + 1) % 4)) ≤ 1 = length-decimal-le 1 ((a + 1) % 4) (omega arith) (omega arith) (omega arith) in
    let amount : length (decimal (b % 100 + 7)) ≤ 3 = length-decimal-le 3 (b % 100 + 7) (omega arith) (omega arith) (omega arith) in
    simp length-append (omega (arith, six i few, group, amount))

-- the record of an absence
absent_length : (i : ℕ) → i ≤ 100000 → length (absent_record i) ≤ 17
absent_length i few = simp length-append (omega (arith, six i few))

-- what may be there is no longer than what is there
perhaps : (p : Bool) (xs : List ℕ) (n : ℕ) → length xs ≤ n → length (cond p xs []) ≤ n
perhaps true xs n short = short
perhaps false xs n short = omega arith

-- three lists, one after another
three_lengths : (xs ys zs : List ℕ) (l m n : ℕ) → length xs ≤ l → length ys ≤ m → length zs ≤ n → length (xs ++ ys ++ zs) ≤ l + m + n
three_lengths xs ys zs l m n hx hy hz = simp length-append (omega arith)

-- the records of a block
block_length : (i a b c : ℕ) → i ≤ 100000 → length (block_text i a b c) ≤ 68
block_length i a b c few =
    three_lengths (guess_record i a b) (cond (c % 3 == 0) (alternative_record i a b) []) (cond (c % 5 == 0) (absent_record i) []) 26 25 17
    (guess_length i a b few)
    (perhaps (c % 3 == 0) (alternative_record i a b) 25 (alternative_length i a b few))
    (perhaps (c % 5 == 0) (absent_record i) 17 (absent_length i few))

-- the records of several blocks
blocks_length : (s a n : ℕ) → a + n ≤ 100000 → length (flat_map (drawn_block s) (range_with_len a n)) ≤ 68 * n
blocks_length s a zero few = omega arith
blocks_length s a (suc n) few =
    let first : length (drawn_block s a) ≤ 68 = block_length (a + 1) (draw s (3 * a + 1)) (draw s (3 * a + 2)) (draw s (3 * a + 3)) (omega arith) in
    let rest : length (flat_map (drawn_block s) (range_with_len (a + 1) n)) ≤ 68 * n = blocks_length s (a + 1) n (omega arith) in
    omega (arith, first, rest, length-append (drawn_block s a) (flat_map (drawn_block s) (range_with_len (a + 1) n)))

-- the whole text of few enough blocks is shorter than 7,000,000 bytes
pub text_length : (s n : ℕ) → n ≤ 100000 → length (text s n) < 7000000
unfolding text
text_length s n few =
    let blocks : length (flat_map (drawn_block s) (range_with_len 0 n)) ≤ 68 * n = blocks_length s 0 n (omega arith) in
    omega (arith, blocks, length-append header (flat_map (drawn_block s) (range_with_len 0 n)))
