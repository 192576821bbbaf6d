-- Lists that stand one after the other in one list.
use Rattle.std.proofs.Common.{◌≡◌, ℕ, zero, suc, ◌+◌, ◌-◌, ◌<◌, ◌≤◌, List, [], ◌∷◌, ◌++◌, length, get_or, take, drop, refl, ap, arith}
use Rattle.std.specs.Prelude.{slice_get}
use Rattle.std.proofs.Math.Seq.{drop-append_seam}
use Rattle.std.proofs.lemmas.List.{drop-append-le, drop_all, drop_more, length-append, length-drop, length-take-le, take-append-le, take_all}
use Rattle.csv.specs.Records.{Rising, last_end}
use Rattle.csv.proofs.RecordFacts.{rising-end, rising-first, rising-more}
use Rattle.au_csv.specs.Flat.{between}

-- as many as there are stops
pub between-length : {A : Type 0} (start : ℕ) (stops : List ℕ) (xs : List A) → length (between start stops xs) ≡ length stops
unfolding between
between-length start [] xs = refl
between-length start (stop ∷ stops) xs = ap suc (between-length stop stops xs)

-- one list more, behind the last
pub between-more : {A : Type 0} (start : ℕ) (stops : List ℕ) (xs ys : List A) → Rising start stops (length xs) → last_end start stops ≡ length xs
    → between start (stops ++ length (xs ++ ys) ∷ []) (xs ++ ys) ≡ between start stops xs ++ ys ∷ []
unfolding between Rising last_end
between-more start [] xs ys rising last =
    let size = length-append xs ys in
    let all : length ys ≤ length (xs ++ ys) - length xs = omega arith in
    rw (last, drop-append_seam xs ys, take_all (length (xs ++ ys) - length xs) ys all) refl
between-more start (stop ∷ stops) xs ys rising last =
    let up = rising-first stop stops (length xs) rising.1 in
    let low = rising.0 in
    let size = length-drop start xs in
    let head : take (stop - start) (drop start (xs ++ ys)) ≡ take (stop - start) (drop start xs) =
    rw (drop-append-le start xs ys (omega arith)) (take-append-le (stop - start) (drop start xs) ys (omega arith)) in
    rw (head, between-more stop stops xs ys rising.1 last) refl

-- and one stop more rises on
pub rising-pushed : {A : Type 0} (start : ℕ) (stops : List ℕ) (xs ys : List A) → Rising start stops (length xs) → Rising start (stops ++ length (xs ++ ys) ∷ []) (length (xs ++ ys))
rising-pushed start stops xs ys rising =
    let size = length-append xs ys in
    rising-end start stops (length (xs ++ ys)) (rising-more start stops (length xs) (length (xs ++ ys)) rising (omega arith))

-- the next list, and the stops behind its own
pub between-next : {A : Type 0} (start : ℕ) (stops : List ℕ) (i : ℕ) (xs : List A) → i < length stops
    → between start (drop i stops) xs ≡ take (get_or stops i 0 - start) (drop start xs) ∷ between (get_or stops i 0) (drop (i + 1) stops) xs
unfolding between
between-next start stops i xs lt = rw (drop_more stops i 0 lt) refl

pub rising-next : (start : ℕ) (stops : List ℕ) (i size : ℕ) → i < length stops → Rising start (drop i stops) size
    → (start ≤ get_or stops i 0) × Rising (get_or stops i 0) (drop (i + 1) stops) size
unfolding Rising
rising-next start stops i size lt rising = rw (drop_more stops i 0 lt) at rising

-- and none behind the last stop
pub between-end : {A : Type 0} (start : ℕ) (stops : List ℕ) (i : ℕ) (xs : List A) → length stops ≤ i → between start (drop i stops) xs ≡ []
unfolding between
between-end start stops i xs past = rw (drop_all i stops past) refl

-- how many items lie between two places
pub between-count : {A : Type 0} (start stop : ℕ) (xs : List A) → start ≤ stop → stop ≤ length xs → length (take (stop - start) (drop start xs)) ≡ stop - start
between-count start stop xs low high =
    let size = length-drop start xs in
    length-take-le (stop - start) (drop start xs) (omega arith)

-- the items between two places are those of the list
pub slice_get-take : {A : Type 0} (n i : ℕ) (xs : List A) → i < n → slice_get (take n xs) i ≡ slice_get xs i
slice_get-take zero i xs lt = absurd (omega arith)
slice_get-take (suc n) i [] lt = refl
slice_get-take (suc n) zero (x ∷ xs) lt = refl
slice_get-take (suc n) (suc i) (x ∷ xs) lt = slice_get-take n i xs (omega arith)

pub slice_get-drop : {A : Type 0} (start i : ℕ) (xs : List A) → slice_get (drop start xs) i ≡ slice_get xs (start + i)
slice_get-drop zero i xs = let e : 0 + i ≡ i = omega arith in rw e refl
slice_get-drop (suc start) zero [] = refl
slice_get-drop (suc start) (suc i) [] = refl
slice_get-drop (suc start) i (x ∷ xs) = let e : suc start + i ≡ suc (start + i) = omega arith in rw e (slice_get-drop start i xs)
