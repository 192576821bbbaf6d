-- What a plan reads of its inputs, one input after the other.
use Rattle.std.specs.Prelude.{◌≡◌, ℕ, IsTrue, List, [], ◌∷◌, ◌++◌, length, map, is_some}
use Rattle.std.specs.List.{AllZip}
use Rattle.std.proofs.Common.{refl, sym, ◌∙◌, ap, subst, append_assoc, suc}
use Rattle.au_value.specs.declared.kinds.Kind.{Kind}
use Rattle.au_algebra.specs.Ordinary.{Rows}
use Rattle.au_plain.specs.Meaning.{kept}
use Rattle.au_plain.specs.PlanKinds.{HaveKinds}
use Rattle.au_physical.specs.PhysicalKinds.{IsPhysicalFor, physical_kinds}
use Rattle.au_physical.specs.Physicals.{PhysicalTree}
use Rattle.au_plan.specs.Narrowing.{Narrows}
use Rattle.au_plan.proofs.KeptKinds.{have_kept}
use Rattle.au_program.specs.Inputs.{ReadsNext, Reads, ReadsAll}

-- ---- one input

-- all rows
pub all_read : (t : ℕ) (whole held : Rows) (p q : PhysicalTree) → held ≡ whole → q ≡ p → Reads t whole held p q
all_read t whole held p q same plan =
    subst (λ hs. Reads t whole hs p q) (sym same)
    (subst (Reads t whole whole p) (sym plan)
    (record {
      kinds = λ front back ks n h typed. (ks, (h, refl));
      rows = λ front back n. refl;
      numbers = λ front back n. refl;
    }))

-- the columns that are kept
pub places_read : (t : ℕ) (ps : List ℕ) (whole held : Rows) (p q : PhysicalTree) → held ≡ map (kept ps) whole → Narrows t ps p q → Reads t whole held p q
places_read t ps whole held p q same narrows =
    subst (λ hs. Reads t whole hs p q) (sym same)
    (record {
      kinds = λ front back ks n h typed.
          let k = narrows.kinds front back ks n typed in
          (k.0, (have_kept ks ps k.0 whole h k.1.0, k.1.1));
      rows = λ front back n. narrows.rows front back whole n;
      numbers = λ front back n. narrows.numbers front back whole n;
    })

-- ---- one input after the other

-- kinds of tables, taken apart at one of them
record Apart (kinds : List (List Kind)) (done : List Rows) (x : Rows) (rest : List Rows) : Type 0 where
  front : List (List Kind)
  ks : List Kind
  back : List (List Kind)
  are : kinds ≡ front ++ ks ∷ back
  before : AllZip HaveKinds front done
  here : HaveKinds ks x
  behind : AllZip HaveKinds back rest

apart : (kinds : List (List Kind)) (done : List Rows) (x : Rows) (rest : List Rows) → AllZip HaveKinds kinds (done ++ x ∷ rest) → Apart kinds done x rest
apart [] [] x rest h = elim h [ ]
apart [] (d ∷ done) x rest h = elim h [ ]
apart (ks ∷ kinds) [] x rest h = record { front = []; ks = ks; back = kinds; are = refl; before = tt; here = h.0; behind = h.1 }
apart (js ∷ kinds) (d ∷ done) x rest h =
    let a = apart kinds done x rest h.1 in
    record { front = js ∷ a.front; ks = a.ks; back = a.back; are = ap (λ l. js ∷ l) a.are; before = (h.0, a.before); here = a.here; behind = a.behind }

as_long : (kinds : List (List Kind)) (done : List Rows) → AllZip HaveKinds kinds done → length kinds ≡ length done
as_long [] [] h = refl
as_long [] (d ∷ done) h = elim h [ ]
as_long (ks ∷ kinds) [] h = elim h [ ]
as_long (ks ∷ kinds) (d ∷ done) h = ap suc (as_long kinds done h.1)

zipped : (front back : List (List Kind)) (ks : List Kind) (done : List Rows) (x : Rows) (rest : List Rows) → AllZip HaveKinds front done → HaveKinds ks x → AllZip HaveKinds back rest → AllZip HaveKinds (front ++ ks ∷ back) (done ++ x ∷ rest)
zipped [] back ks [] x rest h k l = (k, l)
zipped [] back ks (d ∷ done) x rest h k l = elim h [ ]
zipped (js ∷ front) back ks [] x rest h k l = elim h [ ]
zipped (js ∷ front) back ks (d ∷ done) x rest h k l = (h.0, zipped front back ks done x rest h.1 k l)

-- a plan that is typed is typed over what is read of one more input
typed_next : (done rest : List Rows) (whole held : Rows) (p q : PhysicalTree) → Reads (length done) whole held p q → IsPhysicalFor (done ++ whole ∷ rest) p → IsPhysicalFor (done ++ held ∷ rest) q
typed_next done rest whole held p q r typed =
    let a = apart typed.kinds done whole rest typed.tables in
    let long : length a.front ≡ length done = as_long a.front done a.before in
    let is : IsTrue (is_some (physical_kinds (a.front ++ a.ks ∷ a.back) p)) = subst (λ ks. IsTrue (is_some (physical_kinds ks p))) a.are typed.typed in
    let k = r.kinds a.front a.back a.ks long a.here is in
    record {
      kinds = a.front ++ k.0 ∷ a.back;
      tables = zipped a.front a.back k.0 done held rest a.before k.1.0 a.behind;
      typed = subst (λ ks. IsTrue (is_some ks)) (sym k.1.1) is;
    }

-- one more
pub next_read :
    (whole done rest now : List Rows) (x : Rows) (p q r : PhysicalTree) → ReadsAll whole (done ++ x ∷ rest) p q → ReadsNext x done now q r → ReadsAll whole (now ++ rest) p r
next_read whole done rest now x p q r a f =
    let place : now ++ rest ≡ done ++ f.held ∷ rest = ap (λ l. l ++ rest) f.behind ∙ append_assoc done (f.held ∷ []) rest in
    subst (λ ts. ReadsAll whole ts p r) (sym place)
    (record {
      typed = λ t. typed_next done rest x f.held q r f.reads (a.typed t);
      rows = f.reads.rows done rest refl ∙ a.rows;
      numbers = f.reads.numbers done rest refl ∙ a.numbers;
    })
