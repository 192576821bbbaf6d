-- A column with a defect, and one without.
use Rattle.std.proofs.Common.{◌≡◌, ◌∙◌, ◌<◌, List, [], ℕ, get_or, length, sym, ap, arith}
use Rattle.std.specs.Prelude.{zip}
use Rattle.std.specs.List.{enumerate_from}
use Rattle.std.proofs.lemmas.List.{get_or_read, length-map}
use Rattle.std.proofs.lemmas.List.FromFn.{length-enumerate_from}
use Rattle.std.proofs.lemmas.Slice.Zip.{length-zip, get_or-zip}
use Rattle.au_blocks.specs.declared.format.Format.{Format}
use Rattle.au_blocks.specs.Headers.{column_name, column_names}
use Rattle.au_blocks.specs.Defects.{column_defects}
use Rattle.au_blocks.proofs.First.{scan-more, scan-here, scan-end}
use Rattle.au_blocks.proofs.header_faults.header_fault.Goals as goal

-- there are as many names as fields
length-names : (f : Format) (names fields : List (List ℕ)) → names ≡ column_names f fields → length names ≡ length fields
length-names f names fields is = ap length is ∙ length-map (enumerate_from 0 fields) (column_name f) ∙ length-enumerate_from 0 fields

-- the pair of a name and a field at a place
pair-at : (names fields : List (List ℕ)) (i : ℕ) → i < length names → i < length fields → get_or (zip names fields) i ([], []) ≡ (get_or names i [], get_or fields i [])
pair-at names fields i in_names in_fields = get_or-zip names fields i ([], []) in_names in_fields

pub column_fault-requires : goal.column_fault-requires
column_fault-requires c = omega (arith, length-names c.args.format c.args.names.now c.args.fields.now c.requires)

pub returns-in-Some : goal.returns-in-Some
returns-in-Some c =
    let names = c.args.names.now in
    let fields = c.args.fields.now in
    let i = c.loop-place.place in
    let long = length-names c.args.format names fields c.requires in
    let field : c.index-fields-place.result ≡ get_or fields i [] = get_or_read fields i c.index-fields-place.result c.loop-place-test.true c.index-fields-place.is [] in
    let pair = pair-at names fields i (omega (arith, long)) c.loop-place-test.true in
    let here = rw (c.as_str.ensures, field) at (sym c.in-Some.ensures) in
    let f = λ (x : ℕ × (List ℕ × List ℕ)). column_defects c.args.format names (x.0, x.1.0, x.1.1) in
    sym (c.loop-place.invariant ∙ scan-here f i (zip names fields) i ([], []) c.in-Some.fault (omega (arith, long, length-zip names fields)) (rw pair here))

pub loop-place-preserved : goal.loop-place-preserved
loop-place-preserved c =
    let names = c.args.names.now in
    let fields = c.args.fields.now in
    let i = c.loop-place.place in
    let long = length-names c.args.format names fields c.requires in
    let field : c.index-fields-place.result ≡ get_or fields i [] = get_or_read fields i c.index-fields-place.result c.loop-place-test.true c.index-fields-place.is [] in
    let pair = pair-at names fields i (omega (arith, long)) c.loop-place-test.true in
    let here = rw (c.as_str.ensures, field) at (sym c.in_default.ensures) in
    let f = λ (x : ℕ × (List ℕ × List ℕ)). column_defects c.args.format names (x.0, x.1.0, x.1.1) in
    c.loop-place.invariant ∙ scan-more f i (zip names fields) i ([], []) (omega (arith, long, length-zip names fields)) (rw pair here)

pub returns : goal.returns
returns c =
    let names = c.args.names.now in
    let fields = c.args.fields.now in
    let f = λ (x : ℕ × (List ℕ × List ℕ)). column_defects c.args.format names (x.0, x.1.0, x.1.1) in
    let long = length-names c.args.format names fields c.requires in
    sym (c.loop-place.invariant ∙ scan-end f c.loop-place.place (zip names fields) c.loop-place.place (omega (arith, long, length-zip names fields)))
