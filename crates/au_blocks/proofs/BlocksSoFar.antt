-- Where the blocks lie of records that come one after the other: one record more, and the end.
use Rattle.std.proofs.Common.{◌≡◌, ◌∙◌, ℕ, ◌+◌, Bool, true, false, cond, eqb, List, [], ◌∷◌, ◌++◌, map, Option, Some, None, refl, sym, ap, subst, append_assoc, arith, Less, Equal}
use Rattle.std.specs.Prelude.{filter, flat_map, string_bytes}
use Rattle.std.specs.List.{cons_option}
use Rattle.std.specs.Option.{option_or}
use Rattle.std.proofs.lemmas.Grind.{flat_map-append}
use Rattle.std.proofs.lemmas.List.{append-nil, map-append}
use Rattle.std.proofs.lemmas.List.Elements.{filter-append, filter_map-append}
use Rattle.std.proofs.lemmas.List.Sums.{sum_by-cons, sum_by_push}
use Rattle.au_csv.specs.Texts.{Record}
use Rattle.au_blocks.specs.declared.block_places.BlockPlaces.{BlockPlaces}
use Rattle.au_blocks.specs.declared.extent.Extent.{Extent}
use Rattle.au_blocks.specs.declared.faults.TableFault.{TableFault}
use Rattle.au_blocks.specs.declared.faults.TableFault.TheVariants as fault
use Rattle.au_blocks.specs.declared.format.Format.{Format}
use Rattle.au_blocks.specs.declared.format.Format.TheVariants as format
use Rattle.au_blocks.specs.declared.role.Role.{Role}
use Rattle.au_blocks.specs.declared.tally.Tally.{Tally}
use Rattle.au_blocks.specs.BlockPlaces.{Begun, Ends, Grows, Lays, Parted, Placed, Starts, count_in, tallies_in}
use Rattle.au_blocks.specs.Defects.{blocks_defects}
use Rattle.au_blocks.specs.Entries.{block_entry, block_entry_of, copies_in, entries_of, entry_blocks, label_of, labelled, role_of}
use Rattle.au_blocks.specs.Headers.{cells_of, has_blocks}
use Rattle.au_blocks.specs.Inferring.{is_alternative}
use Rattle.au_blocks.specs.Order.{chosen, record_blocks}
use Rattle.au_blocks.specs.Read.{first}
use Rattle.au_blocks.specs.Runs.{label_order}
use Rattle.au_blocks.specs.Tallies.{certain, extent_of, extents_from, is_again, is_never, nothing, tallies_defect, tally_defect, tally_of, with_role}
use Rattle.au_blocks.proofs.GatherStep.{labelled-own}
use Rattle.au_blocks.proofs.LabelOrder.{one_label}
use Rattle.au_blocks.proofs.LabelRuns.{all-runs, longer-run, new-run}
use Rattle.au_blocks.proofs.Laying.{block-entries, plain-format}
use Rattle.au_blocks.proofs.Tallying.{first-defect, tally-push}

-- what blocks amount to, one block more
tallies-more : (f : Format) (done : List (List Record)) (b : List Record) → tallies_in f (done ++ b ∷ []) ≡ tallies_in f done ++ tally_of (entries_of f b) ∷ []
tallies-more f done b = ap (map tally_of) (map-append (entries_of f) done (b ∷ [])) ∙ map-append tally_of (map (entries_of f) done) (entries_of f b ∷ [])

-- where they lie, one block more
extents-more : (ts : List Tally) (t : Tally) (n : ℕ) → extents_from n (ts ++ t ∷ []) ≡ extents_from n ts ++ extent_of (n + count_in ts) t ∷ []
extents-more [] t n = let e : n ≡ n + count_in [] = omega arith in ap (λ k. extent_of k t ∷ []) e
extents-more (s ∷ ts) t n =
    let e : n + s.count + count_in ts ≡ n + count_in (s ∷ ts) = rw (sum_by-cons (λ (x : Tally). x.count) s ts) (omega arith) in
    ap (λ (es : List Extent). extent_of n s ∷ es)
    (extents-more ts t (n + s.count) ∙ ap (λ k. extents_from (n + s.count) ts ++ extent_of k t ∷ []) e)

extents-behind : (ts : List Tally) (t : Tally) → extents_from 0 (ts ++ t ∷ []) ≡ extents_from 0 ts ++ extent_of (count_in ts) t ∷ []
extents-behind ts t =
    let e : 0 + count_in ts ≡ count_in ts = omega arith in
    extents-more ts t 0 ∙ ap (λ k. extents_from 0 ts ++ extent_of k t ∷ []) e

-- whether a block has a defect, whatever its number is
no-defect : (a b c d : Bool) (p q r s v w x y : TableFault) → cond a (Some p) (cond b (Some q) (cond c (Some r) (cond d (Some s) None))) ≡ None
    → cond a (Some v) (cond b (Some w) (cond c (Some x) (cond d (Some y) None))) ≡ None
no-defect true b c d p q r s v w x y none = cc
no-defect false true c d p q r s v w x y none = cc
no-defect false false true d p q r s v w x y none = cc
no-defect false false false true p q r s v w x y none = cc
no-defect false false false false p q r s v w x y none = refl

any-number : (n m : ℕ) (t : Tally) → tally_defect m t ≡ None → tally_defect n t ≡ None
any-number n m t none =
    no-defect (is_again t.marked) (is_never t.marked) (eqb t.count 0) (is_again t.absent)
    (fault.TwoGuesses m) (fault.NoGuess m) (fault.OnlyAbsent m) (fault.TwoAbsent m) (fault.TwoGuesses n) (fault.NoGuess n) (fault.OnlyAbsent n) (fault.TwoAbsent n) none

-- no block has one, one block more
neither : (o p q : Option TableFault) → option_or o p ≡ None → (p ≡ None → q ≡ None) → option_or o q ≡ None
neither None p q none further = further none
neither (Some x) p q none further = cc

sound-more : (n m : ℕ) (ts : List Tally) (t : Tally) → tallies_defect n ts ≡ None → tally_defect m t ≡ None → tallies_defect n (ts ++ t ∷ []) ≡ None
sound-more n m [] t whole none = neither (tally_defect n t) None None (rw (any-number n m t none) refl) (λ e. e)
sound-more n m (s ∷ ts) t whole none = neither (tally_defect n s) (tallies_defect (n + 1) ts) (tallies_defect (n + 1) (ts ++ t ∷ [])) whole (λ e. sound-more (n + 1) m ts t e none)

-- the records of a last block, one record more
entries-more : (f : Format) (run : List Record) (r : Record) (x : Role) → role_of f r ≡ Some x → tally_of (entries_of f (run ++ r ∷ [])) ≡ with_role (tally_of (entries_of f run)) x
entries-more f run r x has =
    let e = block_entry x (copies_in f r) (cells_of f r) in
    let is : block_entry_of f r ≡ Some e = rw has refl in
    ap tally_of (filter_map-append (block_entry_of f) run (r ∷ []) ∙ ap (λ o. entries_of f run ++ cons_option o []) is) ∙ tally-push (entries_of f run) e

-- records of blocks, one block more
flat-more : (done : List (List Record)) (b : List Record) → flat_map (λ block. block) (done ++ b ∷ []) ≡ flat_map (λ block. block) done ++ b
flat-more done b = flat_map-append (λ block. block) done (b ∷ []) ∙ ap (λ (bs : List Record). flat_map (λ block. block) done ++ bs) (append-nil b)

-- no record yet
pub none-yet : (f : Format) → [] ≡ record_blocks f []
none-yet format.Plain = refl
none-yet format.Blocks = refl
none-yet format.Copies = refl

-- where no record has a label, no block is begun
unbegun : (b : Bool) (f : Format) (rows : List Record) (done : List (List Record)) (last : List ℕ) (t : Tally) → has_blocks f ≡ false → Ends b f rows done last t → (b ≡ false) × (done ≡ record_blocks f rows)
unbegun true f rows done last t plain ends = let e : true ≡ false = sym ends.blocks ∙ plain in cc
unbegun false f rows done last t plain ends = (refl, ends.0)

-- each record of a plain table is a block
alone : (f : Format) (rows : List Record) (r : Record) → has_blocks f ≡ false → record_blocks f rows ++ (r ∷ []) ∷ [] ≡ record_blocks f (rows ++ r ∷ [])
alone f rows r plain = rw plain (sym (map-append (λ (x : Record). x ∷ []) rows (r ∷ [])))

flat-alone : (rows : List Record) → flat_map (λ block. block) (map (λ (r : Record). r ∷ []) rows) ≡ rows
flat-alone [] = refl
flat-alone (r ∷ rows) = ap (λ (rs : List Record). r ∷ rs) (flat-alone rows)

-- the first record with a label
first-run : (r : Record) → Parted (r ∷ []) [] (r ∷ []) (label_of r)
first-run r = record {
  known = [];
  all = refl;
  before = tt;
  others = refl;
  own = sym (labelled-own [] r);
}

-- what is held, in parts
together : (f : Format) (rows : List Record) (held : BlockPlaces) (done : List (List Record)) (b : Bool) (last : List ℕ) (t : Tally) → held.format ≡ f → held.extents.items ≡ extents_from 0 (tallies_in f done)
    → tallies_defect 0 (tallies_in f done) ≡ None → held.first ≡ count_in (tallies_in f done) → held.begun ≡ b → string_bytes held.label ≡ last → held.tally ≡ t → Ends b f rows done last t → Lays f rows held
together f rows held done b last t own places sound count begun label tally ends = record {
  done = done;
  own = own;
  places = places;
  sound = sound;
  count = count;
  ends = rw (begun, label, tally) ends;
}

-- one whole block more
places-more : (f : Format) (done : List (List Record)) (block : List Record) (t : Tally) (was held : BlockPlaces) → was.extents.items ≡ extents_from 0 (tallies_in f done) → was.first ≡ count_in (tallies_in f done)
    → t ≡ tally_of (entries_of f block) → Placed t was held → held.extents.items ≡ extents_from 0 (tallies_in f (done ++ block ∷ []))
places-more f done block t was held places count is placed =
    placed.places ∙ (λ i. places i ++ extent_of (count i) (is i) ∷ []) ∙ sym (extents-behind (tallies_in f done) (tally_of (entries_of f block)))
    ∙ ap (extents_from 0) (sym (tallies-more f done block))

count-more : (f : Format) (done : List (List Record)) (block : List Record) (t : Tally) (was held : BlockPlaces) → was.first ≡ count_in (tallies_in f done)
    → t ≡ tally_of (entries_of f block) → Placed t was held → held.first ≡ count_in (tallies_in f (done ++ block ∷ []))
count-more f done block t was held count is placed =
    placed.count ∙ (λ i. count i + (is i).count) ∙ sym (sum_by_push (λ (x : Tally). x.count) (tallies_in f done) (tally_of (entries_of f block)))
    ∙ ap count_in (sym (tallies-more f done block))

whole-more : (f : Format) (done : List (List Record)) (block : List Record) (t : Tally) (was held : BlockPlaces) → tallies_defect 0 (tallies_in f done) ≡ None
    → t ≡ tally_of (entries_of f block) → Placed t was held → tallies_defect 0 (tallies_in f (done ++ block ∷ [])) ≡ None
whole-more f done block t was held sound is placed =
    ap (tallies_defect 0) (tallies-more f done block) ∙ sound-more 0 0 (tallies_in f done) (tally_of (entries_of f block)) sound (ap (tally_defect 0) (sym is) ∙ placed.sound)

-- one record more of a plain table
pub plain-record : (f : Format) (rows : List Record) (r : Record) (was held : BlockPlaces) → has_blocks was.format ≡ false → Lays f rows was → Placed certain was held → Lays f (rows ++ r ∷ []) held
plain-record f rows r was held none lays placed =
    let plain : has_blocks f ≡ false = ap has_blocks (sym lays.own) ∙ none in
    let ends = unbegun was.begun f rows lays.done (string_bytes was.label) was.tally plain lays.ends in
    let is : certain ≡ tally_of (entries_of f (r ∷ [])) = rw (plain-format f plain) refl in
    together f (rows ++ r ∷ []) held (lays.done ++ (r ∷ []) ∷ []) false (string_bytes was.label) was.tally (placed.own ∙ lays.own)
    (places-more f lays.done (r ∷ []) certain was held lays.places lays.count is placed)
    (whole-more f lays.done (r ∷ []) certain was held lays.sound is placed)
    (count-more f lays.done (r ∷ []) certain was held lays.count is placed)
    (placed.begun_as ∙ ends.0) placed.label_as placed.amount
    (ap (λ (bs : List (List Record)). bs ++ (r ∷ []) ∷ []) ends.1 ∙ alone f rows r plain, λ blocks. let e : true ≡ false = sym blocks ∙ plain in cc)

-- the first record with a label
unlabelled : (b : Bool) (f : Format) (rows : List Record) (done : List (List Record)) (last : List ℕ) (t : Tally) → b ≡ false → has_blocks f ≡ true → Ends b f rows done last t → (rows ≡ []) × (done ≡ [])
unlabelled true f rows done last t none blocks ends = cc
unlabelled false f rows done last t none blocks ends =
    let empty : rows ≡ [] = ends.1 blocks in
    (empty, ends.0 ∙ ap (record_blocks f) empty ∙ sym (none-yet f))

pub first-record : (f : Format) (rows : List Record) (r : Record) (x : Role) (was held : BlockPlaces) → has_blocks was.format ≡ true → was.begun ≡ false → role_of f r ≡ Some x
    → Lays f rows was → Starts (label_of r) x was held → Lays f (rows ++ r ∷ []) held
first-record f rows r x was held some none has lays starts =
    let blocks : has_blocks f ≡ true = ap has_blocks (sym lays.own) ∙ some in
    let empty = unlabelled was.begun f rows lays.done (string_bytes was.label) was.tally none blocks lays.ends in
    let one : Begun f (r ∷ []) [] (label_of r) (with_role nothing x) = record {
      run = r ∷ [];
      blocks = blocks;
      parted = first-run r;
      together = refl;
      amount = sym (entries-more f [] r x has);
    } in
    let all : Begun f (rows ++ r ∷ []) lays.done (label_of r) (with_role nothing x) = rw (empty.0, empty.1) one in
    together f (rows ++ r ∷ []) held lays.done true (label_of r) (with_role nothing x) (starts.own ∙ lays.own) (starts.places ∙ lays.places) lays.sound (starts.count ∙ lays.count)
    starts.begins starts.label_is starts.amount all

-- one record more of the last block
begun-ends : (b : Bool) (f : Format) (rows : List Record) (done : List (List Record)) (last : List ℕ) (t : Tally) → b ≡ true → Ends b f rows done last t → Begun f rows done last t
begun-ends true f rows done last t is ends = ends
begun-ends false f rows done last t is ends = cc

longer : (f : Format) (rows : List Record) (r : Record) (x : Role) (done : List (List Record)) (t : Tally) → role_of f r ≡ Some x → Begun f rows done (label_of r) t → Begun f (rows ++ r ∷ []) done (label_of r) (with_role t x)
longer f rows r x done t has b = record {
  run = b.run ++ r ∷ [];
  blocks = b.blocks;
  parted = longer-run rows done b.run r b.parted;
  together = sym (append_assoc (flat_map (λ block. block) done) b.run (r ∷ [])) ∙ ap (λ (rs : List Record). rs ++ r ∷ []) b.together;
  amount = ap (λ (s : Tally). with_role s x) b.amount ∙ sym (entries-more f b.run r x has);
}

pub next-record : (f : Format) (rows : List Record) (r : Record) (x : Role) (was held : BlockPlaces) → was.begun ≡ true → label_order (string_bytes was.label) (label_of r) ≡ Equal → role_of f r ≡ Some x
    → Lays f rows was → Grows x was held → Lays f (rows ++ r ∷ []) held
next-record f rows r x was held some equal has lays grows =
    let one : string_bytes was.label ≡ label_of r = one_label (string_bytes was.label) (label_of r) equal in
    let b = begun-ends was.begun f rows lays.done (string_bytes was.label) was.tally some lays.ends in
    let own : Begun f rows lays.done (label_of r) was.tally = subst (λ l. Begun f rows lays.done l was.tally) one b in
    together f (rows ++ r ∷ []) held lays.done true (label_of r) (with_role was.tally x) (grows.own ∙ lays.own) (grows.places ∙ lays.places) lays.sound (grows.count ∙ lays.count)
    (grows.begun_as ∙ some) (grows.label_as ∙ one) grows.amount (longer f rows r x lays.done was.tally has own)

-- the first record of a further block
further : (f : Format) (rows : List Record) (r : Record) (x : Role) (done : List (List Record)) (last : List ℕ) (t : Tally) → label_order last (label_of r) ≡ Less → role_of f r ≡ Some x
    → (b : Begun f rows done last t) → Begun f (rows ++ r ∷ []) (done ++ b.run ∷ []) (label_of r) (with_role nothing x)
further f rows r x done last t less has b = record {
  run = r ∷ [];
  blocks = b.blocks;
  parted = new-run rows done b.run last r less b.parted;
  together = ap (λ (rs : List Record). rs ++ r ∷ []) (flat-more done b.run ∙ b.together);
  amount = sym (entries-more f [] r x has);
}

pub further-record : (f : Format) (rows : List Record) (r : Record) (x : Role) (was whole held : BlockPlaces) → was.begun ≡ true → label_order (string_bytes was.label) (label_of r) ≡ Less → role_of f r ≡ Some x
    → Lays f rows was → Placed was.tally was whole → Starts (label_of r) x whole held → Lays f (rows ++ r ∷ []) held
further-record f rows r x was whole held some less has lays placed starts =
    let b = begun-ends was.begun f rows lays.done (string_bytes was.label) was.tally some lays.ends in
    together f (rows ++ r ∷ []) held (lays.done ++ b.run ∷ []) true (label_of r) (with_role nothing x) (starts.own ∙ placed.own ∙ lays.own)
    (starts.places ∙ places-more f lays.done b.run was.tally was whole lays.places lays.count b.amount placed)
    (whole-more f lays.done b.run was.tally was whole lays.sound b.amount placed)
    (starts.count ∙ count-more f lays.done b.run was.tally was whole lays.count b.amount placed)
    starts.begins starts.label_is starts.amount (further f rows r x lays.done (string_bytes was.label) was.tally less has b)

-- the alternatives of blocks are those of all their records
alternatives-in : (f : Format) (blocks : List (List Record)) → flat_map (λ block. filter (is_alternative f) block) blocks ≡ filter (is_alternative f) (flat_map (λ block. block) blocks)
alternatives-in f [] = refl
alternatives-in f (b ∷ bs) =
    ap (λ (rs : List Record). filter (is_alternative f) b ++ rs) (alternatives-in f bs) ∙ sym (filter-append (is_alternative f) b (flat_map (λ block. block) bs))

-- where the blocks of all records lie, if none has a defect
pub record Found (f : Format) (rows : List Record) (es : List Extent) : Type 0 where
  pub places : es ≡ extents_from 0 (map tally_of (entry_blocks f rows))
  pub sound : first (blocks_defects (entry_blocks f rows)) ≡ None
  pub order : chosen f rows ≡ filter (is_alternative f) rows

found : (f : Format) (rows : List Record) (es : List Extent) (blocks : List (List Record)) → blocks ≡ record_blocks f rows → flat_map (λ block. block) blocks ≡ rows
    → es ≡ extents_from 0 (tallies_in f blocks) → tallies_defect 0 (tallies_in f blocks) ≡ None → Found f rows es
found f rows es blocks all flat places sound =
    let are : tallies_in f blocks ≡ map tally_of (entry_blocks f rows) = ap (map tally_of) (ap (map (entries_of f)) all ∙ block-entries f rows) in
    record {
      places = places ∙ ap (extents_from 0) are;
      sound = sym (first-defect (entry_blocks f rows)) ∙ ap (tallies_defect 0) (sym are) ∙ sound;
      order = ap (flat_map (λ block. filter (is_alternative f) block)) (sym all) ∙ alternatives-in f blocks ∙ ap (filter (is_alternative f)) flat;
    }

-- no block is begun
flat-unbegun : (b : Bool) (f : Format) (rows : List Record) → has_blocks f ≡ b → (has_blocks f ≡ true → rows ≡ []) → flat_map (λ block. block) (record_blocks f rows) ≡ rows
flat-unbegun true f rows is empty =
    let none : rows ≡ [] = empty is in
    rw none (ap (flat_map (λ block. block)) (sym (none-yet f)))
flat-unbegun false f rows is empty = rw is (flat-alone rows)

ends-whole : (b : Bool) (f : Format) (rows : List Record) (done : List (List Record)) (last : List ℕ) (t : Tally) → b ≡ false → Ends b f rows done last t → (done ≡ record_blocks f rows) × (has_blocks f ≡ true → rows ≡ [])
ends-whole true f rows done last t none ends = cc
ends-whole false f rows done last t none ends = ends

pub all-whole : (f : Format) (rows : List Record) (was : BlockPlaces) → was.begun ≡ false → Lays f rows was → Found f rows was.extents.items
all-whole f rows was none lays =
    let ends = ends-whole was.begun f rows lays.done (string_bytes was.label) was.tally none lays.ends in
    found f rows was.extents.items lays.done ends.0 (ap (flat_map (λ block. block)) ends.0 ∙ flat-unbegun (has_blocks f) f rows refl ends.1) lays.places lays.sound

-- the last block is whole
runs-are : (f : Format) (rows : List Record) (done : List (List Record)) (run : List Record) (last : List ℕ) → has_blocks f ≡ true → Parted rows done run last → done ++ run ∷ [] ≡ record_blocks f rows
runs-are f rows done run last blocks p = rw blocks (all-runs rows done run last p ∙ ap (map (λ l. labelled l rows)) (sym p.all))

pub last-whole : (f : Format) (rows : List Record) (was held : BlockPlaces) → was.begun ≡ true → Lays f rows was → Placed was.tally was held → Found f rows held.extents.items
last-whole f rows was held some lays placed =
    let b = begun-ends was.begun f rows lays.done (string_bytes was.label) was.tally some lays.ends in
    found f rows held.extents.items (lays.done ++ b.run ∷ []) (runs-are f rows lays.done b.run (string_bytes was.label) b.blocks b.parted) (flat-more lays.done b.run ∙ b.together)
    (places-more f lays.done b.run was.tally was held lays.places lays.count b.amount placed)
    (whole-more f lays.done b.run was.tally was held lays.sound b.amount placed)
