-- Sources of which a plan reads just what it keeps.
use Rattle.std.specs.Prelude.{◌≡◌, ◌⊎◌, ℕ, List, [], ◌∷◌, ◌++◌, false, is_some, length, map, MatchOption, None, Option, Some, Vec}
use Rattle.std.specs.declared.alloc.Global.{Global}
use Rattle.std.proofs.Common.{⊎_elim, inl, inr, refl, sym, ◌∙◌, ap, subst, append_assoc}
use Rattle.std.proofs.lemmas.Bool.{true≢false}
use Rattle.au_algebra.specs.Ordinary.{Rows}
use Rattle.au_blocks.specs.Tables.{BlockTable}
use Rattle.au_translate.specs.Translate.{bounded_table}
use Rattle.au_plain.specs.Meaning.{kept}
use Rattle.au_physical.specs.Physicals.{PhysicalTree}
use Rattle.au_plan.specs.Narrowing.{Narrows}
use Rattle.au_encode.specs.Encode.{encode}
use Rattle.au_program.specs.Inputs.{Reads, ReadsAll}
use Rattle.au_program.specs.KeptRows.{kept_rows}
use Rattle.au_program.specs.Programs.{HoldsMore, ReadsLess}
use Rattle.au_program.specs.Sources.{Behind, CanRun, Holds, IsRead, IsThere, Stops, count}
use Rattle.au_program.specs.declared.sources.Sources.{Sources}
use Rattle.au_program.proofs.HeldSources.{holds_count}
use Rattle.au_program.proofs.ReadRows.{all_read, next_read, places_read}

-- of a table that was read whole the columns that a plan keeps, or all
places_kept :
    (t : ℕ) (places : Option (Vec ℕ Global)) (whole : Rows) (p q : PhysicalTree) → MatchOption places (q ≡ p) (λ ps. Narrows t ps.items p q) → Reads t whole (kept_rows places whole) p q
places_kept t None whole p q same = all_read t whole whole p q refl same
places_kept t (Some ps) whole p q narrows = places_read t ps.items whole (map (kept ps.items) whole) p q refl narrows

-- a table of which all is read comes to be read as a plan keeps it
pub keeps_less :
    (t : ℕ) (before places : Option (Vec ℕ Global)) (whole : Rows) (p q : PhysicalTree) → is_some before ≡ false → MatchOption places (q ≡ p) (λ ps. Narrows t ps.items p q) →
    Reads t (kept_rows before whole) (kept_rows places whole) p q
keeps_less t None places whole p q not narrows = places_kept t places whole p q narrows
keeps_less t (Some ps) places whole p q not narrows = absurd (true≢false not)

module _ (before narrowed old new : Sources) (p q : PhysicalTree) (less : ReadsLess before narrowed p q) where
  -- behind others, of which less is read
  module _ (Last : List BlockTable → List Rows → Type 0) (Runs Out : List BlockTable → Type 0)
      (opened : (ts : List BlockTable) (rows : List Rows) → Holds ts new rows → Behind (Holds ts narrowed) (Last ts) rows)
      (closed : (ts : List BlockTable) (rows : List Rows) → Behind (Holds ts before) (Last ts) rows → Holds ts old rows)
      (runs_opened : (ts : List BlockTable) → CanRun ts old → CanRun ts before × Runs ts) (runs_closed : (ts : List BlockTable) → CanRun ts narrowed × Runs ts → CanRun ts new)
      (stops_opened : (ts : List BlockTable) → Stops ts new → Stops ts narrowed ⊎ Out ts) (stops_closed : (ts : List BlockTable) → Stops ts before ⊎ Out ts → Stops ts old)
    where
      pub last_less : ReadsLess old new p q
      last_less = record {
        holds = λ ts held h.
            (let b : Behind (Holds ts narrowed) (Last ts) held = opened ts held h in
            let m : HoldsMore ts before b.front p q = less.holds ts b.front b.before in
            record {
              whole = m.whole ++ b.back;
              of = closed ts (m.whole ++ b.back) (record { front = m.whole; back = b.back; before = m.of; here = b.here; are = refl });
              reads = λ rest.
                  (let held_is : b.front ++ (b.back ++ rest) ≡ held ++ rest = sym (append_assoc b.front b.back rest) ∙ ap (λ l. l ++ rest) (sym b.are) in
                  subst (λ ws. ReadsAll ws (held ++ rest) p q) (sym (append_assoc m.whole b.back rest))
                  (subst (λ hs. ReadsAll (m.whole ++ (b.back ++ rest)) hs p q) held_is (m.reads (b.back ++ rest))));
            });
        can_run = λ ts c. (let r : CanRun ts before × Runs ts = runs_opened ts c in runs_closed ts (less.can_run ts r.0, r.1));
        may_stop = λ ts s. ⊎_elim (λ n. stops_closed ts (inl (less.may_stop ts n))) (λ o. stops_closed ts (inr o)) (stops_opened ts s);
      }

  -- a table, of which less is read
  module _ (place : ℕ) (all some : Option (Vec ℕ Global)) (r : PhysicalTree) (reads : (whole : Rows) → Reads (count narrowed) (kept_rows all whole) (kept_rows some whole) q r)
      (opened : (ts : List BlockTable) (rows : List Rows) → Holds ts new rows → Behind (Holds ts narrowed) (IsRead ts place some) rows)
      (closed : (ts : List BlockTable) (rows : List Rows) → Behind (Holds ts before) (IsRead ts place all) rows → Holds ts old rows)
      (runs_opened : (ts : List BlockTable) → CanRun ts old → CanRun ts before × IsThere ts place) (runs_closed : (ts : List BlockTable) → CanRun ts narrowed × IsThere ts place → CanRun ts new)
      (stops_opened : (ts : List BlockTable) → Stops ts new → Stops ts narrowed) (stops_closed : (ts : List BlockTable) → Stops ts before → Stops ts old)
    where
      pub table_less : ReadsLess old new p r
      table_less = record {
        holds = λ ts held h.
            (let b : Behind (Holds ts narrowed) (IsRead ts place some) held = opened ts held h in
            let m : HoldsMore ts before b.front p q = less.holds ts b.front b.before in
            let x = kept_rows all (encode (bounded_table b.here.table)) in
            let y = kept_rows some (encode (bounded_table b.here.table)) in
            let at : Reads (length b.front) x y q r = subst (λ n. Reads n x y q r) (sym (holds_count ts narrowed b.front b.before)) (reads (encode (bounded_table b.here.table))) in
            record {
              whole = m.whole ++ x ∷ [];
              of =
                  closed ts (m.whole ++ x ∷ [])
                  (record { front = m.whole; back = x ∷ []; before = m.of; here = record { table = b.here.table; at = b.here.at; are = refl }; are = refl });
              reads = λ rest.
                  (let held_is : (b.front ++ y ∷ []) ++ rest ≡ held ++ rest = ap (λ l. l ++ rest) (ap (λ l. b.front ++ l) (sym b.here.are) ∙ sym b.are) in
                  subst (λ ws. ReadsAll ws (held ++ rest) p r) (sym (append_assoc m.whole (x ∷ []) rest))
                  (subst (λ hs. ReadsAll (m.whole ++ x ∷ rest) hs p r) held_is
                  (next_read (m.whole ++ x ∷ rest) b.front rest (b.front ++ y ∷ []) x p q r (m.reads (x ∷ rest)) (record { held = y; behind = refl; reads = at }))));
            });
        can_run = λ ts c. (let k : CanRun ts before × IsThere ts place = runs_opened ts c in runs_closed ts (less.can_run ts k.0, k.1));
        may_stop = λ ts s. stops_closed ts (less.may_stop ts (stops_opened ts s));
      }
