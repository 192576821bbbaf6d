-- Rows of matches, found by their ids.
use Rattle.std.proofs.Common.{◌≡◌, ◌∙◌, ◌||◌, Bool, cond, true, false, refl, sym, ap, List, [], ◌∷◌, ◌++◌, Option, Some, None, append-nil}
use Rattle.std.specs.Prelude.{find, is_some, option_map}
use Rattle.std.specs.Option.{option_or}
use Rattle.std.specs.Str.{bytes_eq}
use Rattle.std.proofs.lemmas.Bool.{true≢false}
use Rattle.std.proofs.lemmas.Slice.Eq.{bytes_eq-Decides}
use Rattle.clap.specs.Walk.{Row, Text, at_row, has_row, more_values, stronger, with_values, without}
use Rattle.clap.specs.declared.parser.matches.ValueSource.TheVariants.{CommandLine}
use Rattle.clap.specs.declared.builder.value_parser.Reading.TheVariants.{AsWritten}

-- the first row of an id
abbrev pub row_at : Text → List Row → Option Row
row_at id rows = find (λ r. bytes_eq r.id id) rows

-- a row of these values, from the command line
abbrev pub row_for : Text → List Text → Row
row_for id values = record { id = id; values = values; count = None; source = Some CommandLine; reading = AsWritten }

-- a row with more values
abbrev pub with_more : List Text → Row → Row
with_more values r = record r { values = r.values ++ values; source = Some (stronger r.source CommandLine) }

has_case : (b : Bool) (r : Row) (others : Bool) (found : Option Row) → others ≡ is_some found → (b || others) ≡ is_some (cond b (Some r) found)
has_case true r others found e = refl
has_case false r others found e = e

-- a row is there where it is found
pub has_row-at : (id : Text) (rows : List Row) → has_row id rows ≡ is_some (row_at id rows)
has_row-at id [] = refl
has_row-at id (r ∷ rows) = has_case (bytes_eq r.id id) r (has_row id rows) (row_at id rows) (has_row-at id rows)

no_some : (x : Row) → Some x ≡ None → ⊥
no_some x e = true≢false (ap is_some e)

end_case : (b : Bool) (r : Row) (changed put : List Row) (found : Option Row) (rest : List Row) → (found ≡ None → put ≡ rest)
    → cond b (Some r) found ≡ None → cond b changed (r ∷ put) ≡ r ∷ rest
end_case true r changed put found rest below h = absurd (no_some r h)
end_case false r changed put found rest below h = ap (λ rs. r ∷ rs) (below h)

-- a row that is missing is put at the end
pub put_at_end : (id : Text) (change : Row → List Row) (missing rows : List Row) → row_at id rows ≡ None → at_row id change missing rows ≡ rows ++ missing
put_at_end id change missing [] e = refl
put_at_end id change missing (r ∷ rows) e =
    end_case (bytes_eq r.id id) r (change r ++ rows) (at_row id change missing rows) (row_at id rows) (rows ++ missing) (put_at_end id change missing rows) e

last_case : (b : Bool) (r : Row) (found earlier last : Option Row) → found ≡ option_or earlier last → cond b (Some r) found ≡ option_or (cond b (Some r) earlier) last
last_case true r found earlier last e = refl
last_case false r found earlier last e = e

-- a row at the end is found where there is no other of its id
pub at_end : (id : Text) (rows : List Row) (last : Row) → row_at id (rows ++ last ∷ []) ≡ option_or (row_at id rows) (cond (bytes_eq last.id id) (Some last) None)
at_end id [] last = refl
at_end id (r ∷ rows) last =
    last_case (bytes_eq r.id id) r (row_at id (rows ++ last ∷ [])) (row_at id rows) (cond (bytes_eq last.id id) (Some last) None) (at_end id rows last)

-- the same, where the row of the id is known
pub added : (id : Text) (rows : List Row) (last : Row) (known : Option Row) → row_at id rows ≡ known → row_at id (rows ++ last ∷ []) ≡ option_or known (cond (bytes_eq last.id id) (Some last) None)
added id rows last known e = at_end id rows last ∙ ap (λ o. option_or o (cond (bytes_eq last.id id) (Some last) None)) e

-- the values of an id that has no row are put at the end
pub set_once : (id : Text) (values : List Text) (rows : List Row) → row_at id rows ≡ None → with_values id AsWritten CommandLine values (without id rows) ≡ rows ++ row_for id values ∷ []
set_once id values rows e =
    ap (with_values id AsWritten CommandLine values) (put_at_end id (λ _. []) [] rows e ∙ append-nil rows) ∙ put_at_end id (more_values CommandLine values) (row_for id values ∷ []) rows e

more_case : (b : Bool) (id : Text) (x : Row) (more : Row) (rows later : List Row) (change : Row → Row) → bytes_eq x.id id ≡ b
    → more ≡ change x → more.id ≡ x.id → (is_some (row_at id rows) ≡ true → row_at id later ≡ option_map change (row_at id rows))
    → is_some (cond b (Some x) (row_at id rows)) ≡ true
    → row_at id (cond b (more ∷ rows) (x ∷ later)) ≡ option_map change (cond b (Some x) (row_at id rows))
more_case true id x more rows later change is changed same below h =
    let e : bytes_eq more.id id ≡ true = ap (λ i. bytes_eq i id) same ∙ is in rw e (ap Some changed)
more_case false id x more rows later change is changed same below h = rw is (below h)

-- the row of an id gets more values
pub more_here : (id : Text) (values : List Text) (missing rows : List Row) → is_some (row_at id rows) ≡ true
    → row_at id (at_row id (more_values CommandLine values) missing rows) ≡ option_map (with_more values) (row_at id rows)
more_here id values missing [] h = absurd (true≢false (sym h))
more_here id values missing (x ∷ rows) h =
    more_case (bytes_eq x.id id) id x (with_more values x) rows (at_row id (more_values CommandLine values) missing rows) (with_more values) refl refl refl (more_here id values missing rows) h

other_case : (b : Bool) (id other : Text) (x more : Row) (rows later : List Row) → bytes_eq x.id id ≡ b → bytes_eq id other ≡ false → more.id ≡ x.id
    → (is_some (row_at id rows) ≡ true → row_at other later ≡ row_at other rows) → is_some (cond b (Some x) (row_at id rows)) ≡ true
    → row_at other (cond b (more ∷ rows) (x ∷ later)) ≡ cond (bytes_eq x.id other) (Some x) (row_at other rows)
other_case true id other x more rows later is differ same below h =
    let x_is : x.id ≡ id = (bytes_eq-Decides x.id id).0 is in
    let e : bytes_eq x.id other ≡ false = ap (λ i. bytes_eq i other) x_is ∙ differ in
    let f : bytes_eq more.id other ≡ false = ap (λ i. bytes_eq i other) same ∙ e in
    rw (e, f) refl
other_case false id other x more rows later is differ same below h = ap (λ o. cond (bytes_eq x.id other) (Some x) o) (below h)

-- and the rows of other ids stay
pub more_other : (id other : Text) (values : List Text) (missing rows : List Row) → bytes_eq id other ≡ false → is_some (row_at id rows) ≡ true
    → row_at other (at_row id (more_values CommandLine values) missing rows) ≡ row_at other rows
more_other id other values missing [] differ h = absurd (true≢false (sym h))
more_other id other values missing (x ∷ rows) differ h =
    other_case (bytes_eq x.id id) id other x (with_more values x) rows (at_row id (more_values CommandLine values) missing rows) refl differ refl (more_other id other values missing rows differ) h
