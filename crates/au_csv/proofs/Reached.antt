-- What a reader gives in turn, up to the end, is the list of records of the text.
use Rattle.std.proofs.Common.{◌≡◌, ℕ, zero, suc, ◌+◌, ◌≤◌, Bool, true, false, List, [], ◌∷◌, ◌++◌, length, Some, None, refl, ap, sym, ◌∙◌, arith, subst}
use Rattle.std.specs.Prelude.{Option, if◌then◌else◌}
use Rattle.csv.specs.declared.parser.Config.{Config}
use Rattle.csv.specs.declared.parser.State.{State}
use Rattle.csv.specs.declared.parser.State.TheVariants as st
use Rattle.csv.specs.Machine.{Read, next_record, is_end, step, fields_after, field_after, ends_at_end}
use Rattle.csv.specs.Reading.{Reached, AreRecords, NextIs, ReadsNext, TookRecord, default_config, is_bom, pending_of, records, records_from, records_next, source_of, strip_bom}
use Rattle.csv.specs.declared.reader.Reader.{Reader}
use Rattle.csv.proofs.ReadFacts.{reached-more}

-- a record takes at least one byte, where there is one
shorter_step : (b : Bool) (p q : Read) (more : Option Read) (n : ℕ) → length q.2 ≤ n → ((r : Read) → more ≡ Some r → length r.2 ≤ n)
    → (if b then Some q else more) ≡ Some p → length p.2 ≤ n
shorter_step true p q more n here later is = let e : q ≡ p = cc in subst (λ x. length x.2 ≤ n) e here
shorter_step false p q more n here later is = later p is

at_end_step : (b : Bool) (p q : Read) → length q.2 ≤ 0 → (if b then Some q else None) ≡ Some p → length p.2 ≤ 0
at_end_step true p q here is = let e : q ≡ p = cc in subst (λ x. length x.2 ≤ 0) e here
at_end_step false p q here is = cc

pub shorter : (cfg : Config) (xs : List ℕ) (s : State) (fields : List (List ℕ)) (field : List ℕ) (c : ℕ) (p : Read) → next_record cfg s fields field (c ∷ xs) ≡ Some p → length p.2 ≤ length xs
unfolding next_record
shorter cfg [] s fields field c p is =
    shorter_step (is_end (step cfg s c).1) p _ _ 0 (omega arith) (λ r. at_end_step (ends_at_end (step cfg s c).0) r _ (omega arith)) is
shorter cfg (d ∷ xs) s fields field c p is =
    shorter_step (is_end (step cfg s c).1) p _ _ (length (d ∷ xs)) (omega arith)
    (λ r later. let h : length r.2 ≤ length xs = shorter cfg xs (step cfg s c).0 (fields_after (step cfg s c).1 fields field) (field_after (step cfg s c).1 c field) d r later in omega arith) is

-- records in turn are those of the text, where as many may come
records_from-Reached : (cfg : Config) (rows : List (List (List ℕ))) (n : ℕ) (s s2 : State) (xs ys : List ℕ)
    → Reached cfg s xs rows s2 ys → next_record cfg s2 [] [] ys ≡ None → length rows ≤ n → records_from cfg n s xs ≡ rows
unfolding Reached records_from
records_from-Reached cfg [] zero s s2 xs ys reached none fits = refl
records_from-Reached cfg [] (suc n) s s2 xs ys reached none fits =
    let here : next_record cfg s [] [] xs ≡ None = rw (reached.0, reached.1) none in ap (records_next (records_from cfg n)) here
records_from-Reached cfg (r ∷ rows) zero s s2 xs ys reached none fits = absurd (omega arith)
records_from-Reached cfg (r ∷ rows) (suc n) s s2 xs ys reached none fits =
    let later : records_from cfg n reached.0.1 reached.0.2 ≡ rows = records_from-Reached cfg rows n reached.0.1 s2 reached.0.2 ys reached.3 none (omega arith) in
    ap (records_next (records_from cfg n)) reached.1 ∙ rw (later, reached.2)

-- there is at most one record more than there are bytes
none_at_start : (cfg : Config) (s s2 : State) (xs ys : List ℕ) (rows : List (List (List ℕ))) → s ≡ st.StartRecord → xs ≡ [] → Reached cfg s xs rows s2 ys → length rows ≤ 0
unfolding Reached next_record
none_at_start cfg s s2 xs ys [] start empty reached = omega arith
none_at_start cfg s s2 xs ys (r ∷ rows) start empty reached =
    let none : next_record cfg s [] [] xs ≡ None = rw (start, empty) in cc (none, reached.1)

last_step : (b : Bool) (p q : Read) → q.1 ≡ st.StartRecord → q.2 ≡ [] → (if b then Some q else None) ≡ Some p → (p.1 ≡ st.StartRecord) × (p.2 ≡ [])
last_step true p q start empty is = let e : q ≡ p = cc in subst (λ x. (x.1 ≡ st.StartRecord) × (x.2 ≡ [])) e (start, empty)
last_step false p q start empty is = cc

rows_fit : (cfg : Config) (rows : List (List (List ℕ))) (s s2 : State) (xs ys : List ℕ) → Reached cfg s xs rows s2 ys → length rows ≤ length xs + 1
unfolding Reached next_record
rows_fit cfg [] s s2 xs ys reached = omega arith
rows_fit cfg (r ∷ rows) s s2 [] ys reached =
    let last = last_step (ends_at_end s) reached.0 _ refl refl reached.1 in
    let h : length rows ≤ 0 = none_at_start cfg reached.0.1 s2 reached.0.2 ys rows last.0 last.1 reached.3 in omega arith
rows_fit cfg (r ∷ rows) s s2 (c ∷ xs) ys reached =
    let h : length reached.0.2 ≤ length xs = shorter cfg xs s [] [] c reached.0 reached.1 in
    let k : length rows ≤ length reached.0.2 + 1 = rows_fit cfg rows reached.0.1 s2 reached.0.2 ys reached.3 in omega arith

-- the records of the text begin with records in turn, where as many may come
records_from-front : (cfg : Config) (rows : List (List (List ℕ))) (n : ℕ) (s s2 : State) (xs ys : List ℕ)
    → Reached cfg s xs rows s2 ys → length rows ≤ n → (rest : List (List (List ℕ))) × (records_from cfg n s xs ≡ rows ++ rest)
unfolding Reached records_from
records_from-front cfg [] n s s2 xs ys reached fits = (records_from cfg n s xs, refl)
records_from-front cfg (r ∷ rows) zero s s2 xs ys reached fits = absurd (omega arith)
records_from-front cfg (r ∷ rows) (suc n) s s2 xs ys reached fits =
    let later = records_from-front cfg rows n reached.0.1 s2 reached.0.2 ys reached.3 (omega arith) in
    (later.0, ap (records_next (records_from cfg n)) reached.1 ∙ rw (later.1, reached.2) refl)

-- records that a reader gives in turn are the first of the text
pub records-front : (cfg : Config) (xs ys : List ℕ) (s : State) (rows : List (List (List ℕ))) → Reached cfg st.StartRecord xs rows s ys
    → (rest : List (List (List ℕ))) × (records cfg xs ≡ rows ++ rest)
records-front cfg xs ys s rows reached =
    records_from-front cfg rows (length xs + 1) st.StartRecord s xs ys reached (rows_fit cfg rows st.StartRecord s xs ys reached)

-- and those up to the end are all
pub records-AreRecords : (cfg : Config) (xs : List ℕ) (rows : List (List (List ℕ))) → AreRecords cfg st.StartRecord xs rows → records cfg xs ≡ rows
records-AreRecords cfg xs rows all =
    records_from-Reached cfg rows (length xs + 1) st.StartRecord all.0 xs all.1 all.2 all.3 (rows_fit cfg rows st.StartRecord all.0 xs all.1 all.2)

-- a text without its byte order mark isn't longer
strip_bom-le : (xs : List ℕ) → length (strip_bom xs) ≤ length xs
unfolding strip_bom
strip_bom-le [] = omega arith
strip_bom-le (a ∷ []) = omega arith
strip_bom-le (a ∷ b ∷ []) = omega arith
strip_bom-le (a ∷ b ∷ c ∷ rest) =
    elim (is_bom a b c) as (λ t. length (if t then rest else a ∷ b ∷ c ∷ rest) ≤ length (a ∷ b ∷ c ∷ rest)) [
      | true ↦ omega arith
      | false ↦ omega arith
    ]

-- so its reader gives at most one record more than there are bytes
pub records-fit : (xs ys : List ℕ) (s : State) (rows : List (List (List ℕ))) → Reached default_config st.StartRecord (strip_bom xs) rows s ys → length rows ≤ length xs + 1
records-fit xs ys s rows reached =
    let fit = rows_fit default_config rows st.StartRecord s (strip_bom xs) ys reached in
    let shorter = strip_bom-le xs in
    omega arith

-- records in turn, and a record more that a reader took
next_taken : (o : Option Read) (f : List (List ℕ)) (s : State) (z : List ℕ) → NextIs o true f s z → (p : Read) × (o ≡ Some p) × (f ≡ p.0)
next_taken None f s z is = cc is
next_taken (Some p) f s z is = (p, refl, is.1)

taken_more : (cfg : Config) (s0 s s2 : State) (xs ys : List ℕ) (rows : List (List (List ℕ))) (f : List (List ℕ)) (after : Option (List ℕ))
    → ReadsNext cfg s (Some ys) after true f s2 → Reached cfg s0 xs rows s ys → (p : Read) × Reached cfg s0 xs (rows ++ f ∷ []) p.1 p.2
taken_more cfg s0 s s2 xs ys rows f None took reached = absurd took
taken_more cfg s0 s s2 xs ys rows f (Some z) took reached =
    let next = next_taken (next_record cfg s [] [] ys) f s2 z took in
    (next.0, subst (λ r. Reached cfg s0 xs (rows ++ r ∷ []) next.0.1 next.0.2) (sym next.2) (reached-more cfg s0 s xs ys rows next.0 reached next.1))

pub rows-taken : {R : Type 0} (rem : R → Option (List ℕ)) (a b : Reader R) (f : List (List ℕ)) (cfg : Config) (s0 : State) (xs ys : List ℕ) (rows : List (List (List ℕ)))
    → a.config ≡ cfg → source_of rem a ≡ Some ys → Reached cfg s0 xs rows a.state ys → TookRecord rem a b f → (p : Read) × Reached cfg s0 xs (rows ++ f ∷ []) p.1 p.2
rows-taken rem a b f cfg s0 xs ys rows config source reached took =
    taken_more cfg s0 a.state b.state xs ys rows f (pending_of (rem b.rdr) b) (rw (config, source) at took) reached
