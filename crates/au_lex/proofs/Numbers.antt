-- Numbers, with a point among their digits or without: how far one runs, and what it spells.
use Rattle.std.proofs.Common.{◌≡◌, ℕ, zero, suc, ◌+◌, ◌-◌, ◌*◌, ◌^◌, ◌≤◌, ◌<◌, ◌||◌, Bool, true, false, cond, List, [], ◌∷◌, ◌++◌, length, take, drop, Some, None, Err, refl, sym, ap, ◌∙◌, subst, arith, pos, get_or, get_or-drop, length-take, length-drop}
use Rattle.std.specs.Prelude.{◌==◌, ℤ, slice_index, nat_lt, if◌then◌else◌}
use Rattle.std.specs.List.{prefix_len, list_all}
use Rattle.std.proofs.lemmas.List.{append-nil, drop-take, take-take}
use Rattle.std.proofs.lemmas.List.Folds.{length-prefix_len}
use Rattle.std.proofs.lemmas.List.Sums.{prefix_len-le-length, prefix_len_passes}
use Rattle.std.proofs.lemmas.Bool.Decides.{nat_tests}
use Rattle.std.proofs.lemmas.Int.{to_z_pos}
use mir.Val.{to_z, of_z}
use mir.Syntax.{w128}
use Rattle.std.specs.Char.{is_ascii_digit, digit_value}
use Rattle.std.specs.Str.Parse.{digits_value, digits_value_after}
use Rattle.au_lex.specs.declared.Lexeme.{Lexeme}
use Rattle.au_lex.specs.declared.Lexeme.TheVariants as lex
use Rattle.au_lex.specs.declared.LexFault.TheVariants.{BadNumber}
use Rattle.au_lex.specs.Lexemes.{begins_name, spelled, fraction, fraction_length, whole_digits, fraction_digits, number_length, number_lexeme}
use Rattle.au_lex.specs.Tokens.{token_at, longest, is_unclosed, is_bad_number, Finds}
use Rattle.au_lex.specs.Fronts.{most, number_after, number_within, scaled}
use Rattle.au_lex.proofs.Longest.{longest_is, list_all-take}
use Rattle.au_lex.proofs.Fronts.{value_grows, digit_low, not_open, token_bad, token_ok}

-- the digits that a front of a text begins with
short_step : (p : ℕ → Bool) (x : ℕ) (xs : List ℕ) (m : ℕ) (b : Bool) → p x ≡ b → suc m ≤ cond b (1 + prefix_len p xs) 0
    → (m ≤ prefix_len p xs → prefix_len p (take m xs) ≡ m) → prefix_len p (x ∷ take m xs) ≡ suc m
short_step p x xs m true is h more = rw (is, more (omega arith)) (omega arith)
short_step p x xs m false is h more = absurd (omega arith)

prefix_short : (p : ℕ → Bool) (xs : List ℕ) (m : ℕ) → m ≤ prefix_len p xs → prefix_len p (take m xs) ≡ m
prefix_short p [] zero h = refl
prefix_short p [] (suc m) h = absurd (omega arith)
prefix_short p (x ∷ xs) zero h = refl
prefix_short p (x ∷ xs) (suc m) h = short_step p x xs m (p x) refl h (prefix_short p xs m)

long_step : (p : ℕ → Bool) (x : ℕ) (xs : List ℕ) (m : ℕ) (b : Bool) → p x ≡ b → cond b (1 + prefix_len p xs) 0 ≤ suc m
    → (prefix_len p xs ≤ m → prefix_len p (take m xs) ≡ prefix_len p xs) → prefix_len p (x ∷ take m xs) ≡ prefix_len p (x ∷ xs)
long_step p x xs m true is h more = rw (is, more (omega arith))
long_step p x xs m false is h more = rw is

prefix_long : (p : ℕ → Bool) (xs : List ℕ) (m : ℕ) → prefix_len p xs ≤ m → prefix_len p (take m xs) ≡ prefix_len p xs
prefix_long p [] zero h = refl
prefix_long p [] (suc m) h = refl
prefix_long p (x ∷ xs) zero h = omega arith
prefix_long p (x ∷ xs) (suc m) h = long_step p x xs m (p x) refl h (prefix_long p xs m)

-- a point and so many digits
abbrev point_and : ℕ → ℕ
point_and zero = 0
point_and (suc n) = suc n + 1

point_grows : (n m : ℕ) → n ≤ m → point_and n ≤ point_and m
point_grows zero m h = omega arith
point_grows (suc n) zero h = absurd (omega arith)
point_grows (suc n) (suc m) h = omega arith

fraction_is : (ds : List ℕ) → fraction_length ds ≡ point_and (length ds)
fraction_is [] = refl
fraction_is (d ∷ ds) = refl

run_length : (rest : List ℕ) → length (take (prefix_len is_ascii_digit rest) rest) ≡ prefix_len is_ascii_digit rest
run_length rest = length-prefix_len is_ascii_digit rest

-- behind a point
front_grows : (rest : List ℕ) (m : ℕ) → prefix_len is_ascii_digit (take m rest) ≤ prefix_len is_ascii_digit rest
front_grows rest m = by_order (nat_lt (prefix_len is_ascii_digit rest) m) refl
  where
    by_order : (b : Bool) → nat_lt (prefix_len is_ascii_digit rest) m ≡ b → prefix_len is_ascii_digit (take m rest) ≤ prefix_len is_ascii_digit rest
    by_order true is = let far : prefix_len is_ascii_digit rest ≤ m = grind (arith, nat_tests) in omega (arith, prefix_long is_ascii_digit rest m far)
    by_order false is = let near : m ≤ prefix_len is_ascii_digit rest = grind (arith, nat_tests) in omega (arith, prefix_short is_ascii_digit rest m near)

-- the digits behind a point are no more in a front of the text
fraction_front : (xs : List ℕ) (m : ℕ) → fraction_length (fraction (take m xs)) ≤ fraction_length (fraction xs)
fraction_front [] zero = omega arith
fraction_front [] (suc m) = omega arith
fraction_front (b ∷ rest) zero = omega arith
fraction_front (b ∷ rest) (suc m) = by_point (b == 46) refl
  where
    by_point : (p : Bool) → (b == 46) ≡ p → fraction_length (fraction (b ∷ take m rest)) ≤ fraction_length (fraction (b ∷ rest))
    by_point false is = rw is (omega arith)
    by_point true is =
        rw (is, fraction_is (take (prefix_len is_ascii_digit (take m rest)) (take m rest)), fraction_is (take (prefix_len is_ascii_digit rest) rest), run_length (take m rest), run_length rest)
        (point_grows _ _ (front_grows rest m))

-- a front of as many bytes as a point and its digits take has the same digits
fraction_full : (xs : List ℕ) → fraction (take (fraction_length (fraction xs)) xs) ≡ fraction xs
fraction_full [] = refl
fraction_full (b ∷ rest) = by_point (b == 46) refl
  where
    by_run : (n : ℕ) → n ≡ prefix_len is_ascii_digit rest → (b == 46) ≡ true → fraction (take (point_and n) (b ∷ rest)) ≡ take n rest
    by_run zero is point = refl
    by_run (suc n) is point =
        let e : point_and (suc n) ≡ suc (suc n) = omega arith in
        let same : prefix_len is_ascii_digit (take (suc n) rest) ≡ suc n = prefix_short is_ascii_digit rest (suc n) (omega arith) in
        rw (e, point, same) (take-take (suc n) (suc n) rest (omega arith))

    by_point : (p : Bool) → (b == 46) ≡ p → fraction (take (fraction_length (fraction (b ∷ rest))) (b ∷ rest)) ≡ fraction (b ∷ rest)
    by_point false is = rw is
    by_point true is = rw (is, fraction_is (take (prefix_len is_ascii_digit rest) rest), run_length rest) (by_run (prefix_len is_ascii_digit rest) refl is)

pub fraction_fits : (xs : List ℕ) → fraction_length (fraction xs) ≤ length xs
fraction_fits [] = omega arith
fraction_fits (b ∷ rest) = by_point (b == 46) refl
  where
    fits : (n : ℕ) → n ≤ length rest → point_and n ≤ length (b ∷ rest)
    fits zero h = omega arith
    fits (suc n) h = omega arith

    by_point : (p : Bool) → (b == 46) ≡ p → fraction_length (fraction (b ∷ rest)) ≤ length (b ∷ rest)
    by_point false is = rw is (omega arith)
    by_point true is = rw (is, fraction_is (take (prefix_len is_ascii_digit rest) rest), run_length rest) (fits (prefix_len is_ascii_digit rest) (prefix_len-le-length is_ascii_digit rest))

pub fraction_below : (xs : List ℕ) → length (fraction xs) ≤ fraction_length (fraction xs)
fraction_below xs = by_items (fraction xs)
  where
    by_items : (ds : List ℕ) → length ds ≤ fraction_length ds
    by_items [] = omega arith
    by_items (d ∷ ds) = omega arith

fraction_low : (xs : List ℕ) → 0 < fraction_length (fraction xs) → slice_index xs (fraction_length (fraction xs) - 1) < 128
fraction_low [] some = absurd (omega arith)
fraction_low (b ∷ rest) some = by_point (b == 46) refl some
  where
    by_run : (n : ℕ) → n ≡ prefix_len is_ascii_digit rest → 0 < point_and n → slice_index (b ∷ rest) (point_and n - 1) < 128
    by_run zero is more = absurd (omega arith)
    by_run (suc n) is more =
        let e : point_and (suc n) - 1 ≡ suc n = omega arith in
        rw e (digit_low (get_or rest n 0) (prefix_len_passes is_ascii_digit rest n 0 (omega arith)))

    by_point : (p : Bool) → (b == 46) ≡ p → 0 < fraction_length (fraction (b ∷ rest)) → slice_index (b ∷ rest) (fraction_length (fraction (b ∷ rest)) - 1) < 128
    by_point false is more = absurd (omega (arith, rw is at more))
    by_point true is more =
        rw (is, fraction_is (take (prefix_len is_ascii_digit rest) rest), run_length rest)
        (by_run (prefix_len is_ascii_digit rest) refl (rw (is, fraction_is (take (prefix_len is_ascii_digit rest) rest), run_length rest) at more))

pub fraction_all : (xs : List ℕ) → list_all is_ascii_digit (fraction xs) ≡ true
fraction_all [] = refl
fraction_all (b ∷ rest) = by_point (b == 46) refl
  where
    by_point : (p : Bool) → (b == 46) ≡ p → list_all is_ascii_digit (fraction (b ∷ rest)) ≡ true
    by_point false is = rw is
    by_point true is = rw is (list_all-take is_ascii_digit rest (prefix_len is_ascii_digit rest) (omega arith))

pub digits_all : (text : List ℕ) → list_all is_ascii_digit (take (prefix_len is_ascii_digit text) text) ≡ true
digits_all text = list_all-take is_ascii_digit text (prefix_len is_ascii_digit text) (omega arith)

-- a front of a text whose number runs so far
behind_front : (text : List ℕ) (n j : ℕ) → n ≡ prefix_len is_ascii_digit text → fraction_digits (take (n + j) text) ≡ fraction (take j (drop n text))
behind_front text n j is = rw (prefix_long is_ascii_digit text (n + j) (omega arith), ← is, drop-take n j text)

front_number : (text : List ℕ) (m : ℕ) → number_length (take m text) ≤ number_length text
front_number text m = by_order (nat_lt (prefix_len is_ascii_digit text) m) refl
  where
    n : ℕ
    n = prefix_len is_ascii_digit text

    by_parts : (j : ℕ) → number_length (take (n + j) text) ≤ number_length text
    by_parts j =
        let same : prefix_len is_ascii_digit (take (n + j) text) ≡ n = prefix_long is_ascii_digit text (n + j) (omega arith) in
        let behind : fraction_length (fraction_digits (take (n + j) text)) ≤ fraction_length (fraction_digits text) =
        subst (λ ds. fraction_length ds ≤ fraction_length (fraction_digits text)) (sym (behind_front text n j refl)) (fraction_front (drop n text) j) in
        omega (arith, same, behind)

    by_order : (b : Bool) → nat_lt n m ≡ b → number_length (take m text) ≤ number_length text
    by_order true is =
        let e : m ≡ n + (m - n) = grind (arith, nat_tests) in
        rw e (by_parts (m - n))
    by_order false is =
        let near : m ≤ n = grind (arith, nat_tests) in
        let zero_more : m + 0 ≡ m = omega arith in
        let none : drop m (take m text) ≡ [] = ap (λ k. drop m (take k text)) (sym zero_more) ∙ drop-take m 0 text in
        rw (prefix_short is_ascii_digit text m near, none) (omega arith)

number_fits : (text : List ℕ) → number_length text ≤ length text
number_fits text = omega (arith, fraction_fits (drop (prefix_len is_ascii_digit text) text), length-drop (prefix_len is_ascii_digit text) text, prefix_len-le-length is_ascii_digit text)

-- the front that is a number, as a whole
full_whole : (text : List ℕ) → prefix_len is_ascii_digit (take (number_length text) text) ≡ prefix_len is_ascii_digit text
full_whole text = prefix_long is_ascii_digit text (number_length text) (omega arith)

full_digits : (text : List ℕ) → whole_digits (take (number_length text) text) ≡ whole_digits text
full_digits text = rw (full_whole text) (take-take (prefix_len is_ascii_digit text) (number_length text) text (omega arith))

full_fraction : (text : List ℕ) → fraction_digits (take (number_length text) text) ≡ fraction_digits text
full_fraction text = behind_front text (prefix_len is_ascii_digit text) (fraction_length (fraction_digits text)) refl ∙ fraction_full (drop (prefix_len is_ascii_digit text) text)

-- the number that is all of a text's digits, with the point
abbrev pub number_of : List ℕ → Lexeme
number_of text = number_lexeme (whole_digits text) (fraction_digits text)

full_length : (text : List ℕ) → number_length (take (number_length text) text) ≡ number_length text
full_length text = ap (λ n. n + fraction_length (fraction_digits (take (number_length text) text))) (full_whole text) ∙ ap (λ ds. prefix_len is_ascii_digit text + fraction_length ds) (full_fraction text)

full_number : (text : List ℕ) → number_of (take (number_length text) text) ≡ number_of text
full_number text = ap (λ ds. number_lexeme ds (fraction_digits (take (number_length text) text))) (full_digits text) ∙ ap (number_lexeme (whole_digits text)) (full_fraction text)

-- what begins with a digit spells a number or nothing
digit_no_name : (b : ℕ) → is_ascii_digit b ≡ true → (begins_name b ≡ false) × ((b == 34) ≡ false) × ((b == 39) ≡ false)
digit_no_name b is = (grind (arith, nat_tests), grind (arith, nat_tests), grind (arith, nat_tests))

spelled_digits : (b : ℕ) (rest : List ℕ) → is_ascii_digit b ≡ true
    → spelled (b ∷ rest) ≡ (if number_length (b ∷ rest) == length (b ∷ rest) then Some (number_lexeme (whole_digits (b ∷ rest)) (fraction_digits (b ∷ rest))) else None)
spelled_digits b rest is = let facts = digit_no_name b is in rw (facts.0, facts.1, facts.2, is)

spells : (b : ℕ) (rest : List ℕ) (what : Lexeme) → is_ascii_digit b ≡ true → number_length (b ∷ rest) ≡ length (b ∷ rest)
    → number_lexeme (whole_digits (b ∷ rest)) (fraction_digits (b ∷ rest)) ≡ what → spelled (b ∷ rest) ≡ Some what
spells b rest what digit runs is = let test : (number_length (b ∷ rest) == length (b ∷ rest)) ≡ true = grind (arith, nat_tests) in spelled_digits b rest digit ∙ rw (test, is)

spells_not : (b : ℕ) (rest : List ℕ) → is_ascii_digit b ≡ true → number_length (b ∷ rest) < length (b ∷ rest) → spelled (b ∷ rest) ≡ None
spells_not b rest digit runs = let test : (number_length (b ∷ rest) == length (b ∷ rest)) ≡ false = grind (arith, nat_tests) in spelled_digits b rest digit ∙ rw test

some_digits : (b : ℕ) (rest : List ℕ) → is_ascii_digit b ≡ true → 0 < prefix_len is_ascii_digit (b ∷ rest)
some_digits b rest is = rw is (omega arith)

pub digits_longest : (b : ℕ) (rest : List ℕ) → is_ascii_digit b ≡ true → longest (suc (length rest)) (b ∷ rest) ≡ Some (number_length (b ∷ rest), number_of (b ∷ rest))
digits_longest b rest is = by_length (number_length (b ∷ rest) - 1) (omega (arith, some_digits b rest is))
  where
    by_length : (k : ℕ) → number_length (b ∷ rest) ≡ suc k → longest (suc (length rest)) (b ∷ rest) ≡ Some (number_length (b ∷ rest), number_of (b ∷ rest))
    by_length k len =
        let fits : suc k ≤ suc (length rest) = omega (arith, number_fits (b ∷ rest)) in
        let all : number_length (b ∷ take k rest) ≡ suc k =
        ap (λ n. number_length (take n (b ∷ rest))) (sym len) ∙ full_length (b ∷ rest) ∙ len in
        let taken : length (take k rest) ≡ k = omega (arith, length-take k rest) in
        let what : number_lexeme (whole_digits (b ∷ take k rest)) (fraction_digits (b ∷ take k rest)) ≡ number_of (b ∷ rest) =
        ap (λ n. number_of (take n (b ∷ rest))) (sym len) ∙ full_number (b ∷ rest) in
        longest_is b k rest (number_of (b ∷ rest)) (spells b (take k rest) (number_of (b ∷ rest)) is (omega arith) what)
        (λ m beyond within. spells_not b (take m rest) is (omega (arith, front_number (b ∷ rest) (suc m), length-take m rest)))
        (length rest - k) (length rest) (omega arith) (omega arith)
        ∙ ap (λ n. Some (n, number_of (b ∷ rest))) (sym len)

-- what makes a number bad, where digits begin the text
abbrev pub number_faulty : List ℕ → Bool
number_faulty text =
    nat_lt 39 (length (whole_digits text ++ fraction_digits text)) || nat_lt 9 (length (fraction_digits text)) || nat_lt most (digits_value 10 (whole_digits text ++ fraction_digits text))
    || begins_name (slice_index text (number_length text))

pub bad_is : (b : ℕ) (rest : List ℕ) → is_ascii_digit b ≡ true → is_bad_number (b ∷ rest) ≡ number_faulty (b ∷ rest)
bad_is b rest is =
    let some : nat_lt 0 (prefix_len is_ascii_digit (b ∷ rest)) ≡ true = let more = some_digits b rest is in grind (arith, nat_tests) in
    rw (length-prefix_len is_ascii_digit (b ∷ rest), some)

whole_open : (b : ℕ) (rest : List ℕ) → is_ascii_digit b ≡ true → is_unclosed (b ∷ rest) ≡ false
whole_open b rest is = let facts = digit_no_name b is in not_open b rest facts.2 facts.1

last_low : (b : ℕ) (rest : List ℕ) → is_ascii_digit b ≡ true → slice_index (b ∷ rest) (number_length (b ∷ rest) - 1) < 128
last_low b rest is = by_fraction (fraction_length (fraction_digits (b ∷ rest))) refl
  where
    n : ℕ
    n = prefix_len is_ascii_digit (b ∷ rest)

    by_fraction : (f : ℕ) → f ≡ fraction_length (fraction (drop n (b ∷ rest))) → slice_index (b ∷ rest) (n + f - 1) < 128
    by_fraction zero f_is =
        let some = some_digits b rest is in
        let e : n + 0 - 1 ≡ n - 1 = omega arith in
        rw e (digit_low (get_or (b ∷ rest) (n - 1) 0) (prefix_len_passes is_ascii_digit (b ∷ rest) (n - 1) 0 (omega arith)))
    by_fraction (suc f) f_is =
        let e : n + suc f - 1 ≡ n + f = omega arith in
        let at : slice_index (drop n (b ∷ rest)) f ≡ slice_index (b ∷ rest) (n + f) = get_or-drop n (b ∷ rest) f 0 in
        let less : fraction_length (fraction (drop n (b ∷ rest))) - 1 ≡ f = omega arith in
        rw (e, ← at, ← less) (fraction_low (drop n (b ∷ rest)) (omega arith))

-- the same of texts that are not taken apart
pub number_bad_at : (at : ℕ) (text : List ℕ) → 0 < length text → is_ascii_digit (slice_index text 0) ≡ true → number_faulty text ≡ true → token_at at text ≡ Err (BadNumber at)
number_bad_at at [] some digit bad = absurd (omega arith)
number_bad_at at (b ∷ rest) some digit bad = token_bad at (b ∷ rest) (whole_open b rest digit) (bad_is b rest digit ∙ bad)

pub number_at : (at : ℕ) (text : List ℕ) → 0 < length text → is_ascii_digit (slice_index text 0) ≡ true → number_faulty text ≡ false → Finds at text (number_length text) (number_of text)
number_at at [] some digit good = absurd (omega arith)
number_at at (b ∷ rest) some digit good = record {
  is = token_ok at (b ∷ rest) (number_length (b ∷ rest), number_of (b ∷ rest)) (whole_open b rest digit) (bad_is b rest digit ∙ good) (digits_longest b rest digit);
  some = omega (arith, some_digits b rest digit);
  within = number_fits (b ∷ rest);
  ascii = last_low b rest digit;
}

-- the number of digits before and behind a point
digits_behind : (n : ℕ) (xs ys : List ℕ) → digits_value_after 10 n (xs ++ ys) ≡ digits_value_after 10 (digits_value_after 10 n xs) ys
digits_behind n [] ys = refl
digits_behind n (x ∷ xs) ys = digits_behind (n * 10 + digit_value x) xs ys

value_is : (n v : ℕ) (t : Bool) → nat_lt most v ≡ t → Some n ≡ (if t then None else Some v) → (n ≡ v) × (nat_lt most v ≡ false)
value_is n v true is found = cc
value_is n v false is found = (cc, is)

no_value : (v : ℕ) (t : Bool) → nat_lt most v ≡ t → (if t then None else Some v) ≡ None → nat_lt most v ≡ true
no_value v true is found = is
no_value v false is found = cc

pub value_of : (n before : ℕ) (digits : List ℕ) → Some n ≡ number_after before digits → (n ≡ digits_value_after 10 before digits) × (nat_lt most (digits_value_after 10 before digits) ≡ false)
value_of n before digits found = value_is n (digits_value_after 10 before digits) _ refl found

none_within : (digits : List ℕ) → nat_lt most (digits_value 10 digits) ≡ true → None ≡ number_within digits
none_within digits is = rw is

pub whole_too_great : (whole digits : List ℕ) → None ≡ number_after 0 whole → None ≡ number_within (whole ++ digits)
whole_too_great whole digits none =
    let above : nat_lt most (digits_value_after 10 0 whole) ≡ true = no_value (digits_value_after 10 0 whole) _ refl (sym none) in
    let grows : digits_value_after 10 0 whole ≤ digits_value 10 (whole ++ digits) =
    omega (arith, value_grows (digits_value_after 10 0 whole) digits, digits_behind 0 whole digits) in
    none_within (whole ++ digits) (grind (arith, nat_tests))

pub fraction_too_great : (before : ℕ) (whole digits : List ℕ) → Some before ≡ number_after 0 whole → None ≡ number_after before digits → None ≡ number_within (whole ++ digits)
fraction_too_great before whole digits found none =
    let is : digits_value 10 (whole ++ digits) ≡ digits_value_after 10 before digits = digits_behind 0 whole digits ∙ ap (λ n. digits_value_after 10 n digits) (sym (value_of before 0 whole found).0) in
    none_within (whole ++ digits) (ap (nat_lt most) is ∙ no_value (digits_value_after 10 before digits) _ refl (sym none))

pub both_read : (before value : ℕ) (whole digits : List ℕ) → Some before ≡ number_after 0 whole → Some value ≡ number_after before digits
    → (value < 2 ^ 127) × (Some (pos value) ≡ number_within (whole ++ digits))
both_read before value whole digits found more =
    let facts = value_of value before digits more in
    let is : digits_value 10 (whole ++ digits) ≡ value = digits_behind 0 whole digits ∙ ap (λ n. digits_value_after 10 n digits) (sym (value_of before 0 whole found).0) ∙ sym facts.0 in
    let low : nat_lt most value ≡ false = ap (nat_lt most) facts.0 ∙ facts.1 in
    (grind (arith, nat_tests), rw (is, low))

-- What the call has found: the digits before and behind the point, and what follows them.
module _ (text whole behind digits rest : List ℕ) (whole_is : whole ≡ take (prefix_len is_ascii_digit text) text) (behind_is : behind ≡ drop (prefix_len is_ascii_digit text) text)
    (digits_is : digits ≡ fraction behind) (rest_is : rest ≡ drop (fraction_length digits) behind) where
  same_digits : digits ≡ fraction_digits text
  same_digits = digits_is ∙ ap fraction behind_is

  next : slice_index rest 0 ≡ slice_index text (number_length text)
  next =
      ap (λ xs. slice_index xs 0) rest_is
      ∙ get_or-drop (fraction_length digits) behind 0 0
      ∙ ap (λ xs. slice_index xs (fraction_length digits + 0)) behind_is
      ∙ get_or-drop (prefix_len is_ascii_digit text) text (fraction_length digits + 0) 0
      ∙ ap (λ k. slice_index text k) (let e = ap fraction_length same_digits in omega (arith, e))

  abbrev misshapen : Bool
  misshapen = nat_lt 39 (length (whole ++ digits)) || nat_lt 9 (length digits) || begins_name (slice_index rest 0)

  abbrev faulty_of : List ℕ → List ℕ → ℕ → Bool
  faulty_of ws ds b = nat_lt 39 (length (ws ++ ds)) || nat_lt 9 (length ds) || nat_lt most (digits_value 10 (ws ++ ds)) || begins_name b

  faulty_is : number_faulty text ≡ (nat_lt 39 (length (whole ++ digits)) || nat_lt 9 (length digits) || nat_lt most (digits_value 10 (whole ++ digits)) || begins_name (slice_index rest 0))
  faulty_is =
      ap (λ ws. faulty_of ws (fraction_digits text) (slice_index text (number_length text))) (sym whole_is)
      ∙ ap (λ ds. faulty_of whole ds (slice_index text (number_length text))) (sym same_digits)
      ∙ ap (faulty_of whole digits) (sym next)

  by_tests : (a b c d : Bool) → (a || b || d) ≡ true → (a || b || c || d) ≡ true
  by_tests true b c d is = refl
  by_tests false true c d is = refl
  by_tests false false true d is = refl
  by_tests false false false d is = is

  by_value : (a b c d : Bool) → c ≡ true → (a || b || c || d) ≡ true
  by_value true b c d is = refl
  by_value false true c d is = refl
  by_value false false true d is = refl
  by_value false false false d is = cc

  all_well : (a b c d : Bool) → (a || b || d) ≡ false → c ≡ false → (a || b || c || d) ≡ false
  all_well true b c d is low = cc
  all_well false true c d is low = cc
  all_well false false true d is low = cc
  all_well false false false d is low = is

  pub shape_bad : (at : ℕ) → 0 < length text → is_ascii_digit (slice_index text 0) ≡ true → misshapen ≡ true → token_at at text ≡ Err (BadNumber at)
  shape_bad at some digit bad = number_bad_at at text some digit (faulty_is ∙ by_tests (nat_lt 39 (length (whole ++ digits))) (nat_lt 9 (length digits)) (nat_lt most (digits_value 10 (whole ++ digits))) (begins_name (slice_index rest 0)) bad)

  pub value_bad : (at : ℕ) → 0 < length text → is_ascii_digit (slice_index text 0) ≡ true → None ≡ number_within (whole ++ digits) → token_at at text ≡ Err (BadNumber at)
  value_bad at some digit none = number_bad_at at text some digit (faulty_is ∙ by_value (nat_lt 39 (length (whole ++ digits))) (nat_lt 9 (length digits)) (nat_lt most (digits_value 10 (whole ++ digits))) (begins_name (slice_index rest 0)) (above (digits_value 10 (whole ++ digits)) _ refl (sym none)))
    where
      above : (v : ℕ) (t : Bool) → nat_lt most v ≡ t → (if t then None else Some (pos v)) ≡ None → nat_lt most v ≡ true
      above v true is found = is
      above v false is found = cc

  scaled_is : (ds : List ℕ) → scaled (pos (digits_value 10 (whole ++ ds))) (length ds) ≡ number_lexeme whole ds
  scaled_is [] = ap (λ xs. lex.Number (pos (digits_value 10 xs))) (append-nil whole)
  scaled_is (d ∷ ds) = refl

  length_is : length text - length rest ≡ number_length text
  length_is =
      let e = ap fraction_length same_digits in
      omega (arith, e, ap length rest_is, length-drop (fraction_length digits) behind, ap length behind_is, length-drop (prefix_len is_ascii_digit text) text, number_fits text)

  number_is : (n : ℤ) (v : ℕ) (t : Bool) → nat_lt most v ≡ t → Some n ≡ (if t then None else Some (pos v)) → (n ≡ pos v) × (nat_lt most v ≡ false)
  number_is n v true is found = cc
  number_is n v false is found = (cc, is)

  low_number : (v : ℕ) → nat_lt most v ≡ false → v < 2 ^ 127
  low_number v is = grind (arith, nat_tests)

  pub number_good : (at : ℕ) (n : ℤ) → 0 < length text → is_ascii_digit (slice_index text 0) ≡ true → misshapen ≡ false → Some n ≡ number_within (whole ++ digits)
      → Finds at text (length text - length rest) (scaled (to_z w128 (of_z w128 n)) (length digits))
  number_good at n some digit shape found =
      let facts = number_is n (digits_value 10 (whole ++ digits)) _ refl found in
      let signed : to_z w128 (of_z w128 n) ≡ pos (digits_value 10 (whole ++ digits)) =
      ap (λ z. to_z w128 (of_z w128 z)) facts.0 ∙ to_z_pos w128 (digits_value 10 (whole ++ digits)) (low_number (digits_value 10 (whole ++ digits)) facts.1) in
      let what : number_of text ≡ scaled (to_z w128 (of_z w128 n)) (length digits) =
      ap (λ xs. number_lexeme xs (fraction_digits text)) (sym whole_is) ∙ ap (number_lexeme whole) (sym same_digits) ∙ sym (scaled_is digits) ∙ ap (λ z. scaled z (length digits)) (sym signed) in
      rw (length_is, ← what) (number_at at text some digit (faulty_is ∙ all_well (nat_lt 39 (length (whole ++ digits))) (nat_lt 9 (length digits)) (nat_lt most (digits_value 10 (whole ++ digits))) (begins_name (slice_index rest 0)) shape facts.1))
