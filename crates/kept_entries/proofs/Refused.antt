-- From a part that is refused to the whole.
use Rattle.std.proofs.Common.{◌≡◌, ℕ, List, [], ◌∷◌, ◌++◌, map, ap, sym, ◌∙◌, codes, true, false, arith}
use Rattle.kj_value.specs.Json.{Json, text, list, object, items_of, members_of}
use Rattle.kj_value.specs.Fields.{Pairs}
use Rattle.kj_value.specs.Sound.{IsSoundJson}
use Rattle.kj_value.specs.Text.{text_of}
use Rattle.kept_entries.specs.declared.entry.Entry.{Entry}
use Rattle.kept_entries.specs.declared.fault.KeptFault.{KeptFault}
use Rattle.kept_entries.specs.declared.fault.KeptFault.TheVariants.{BadKept, NoMemory}
use Rattle.kept_entries.specs.Entry.{Name, are_in_order}
use Rattle.kept_entries.specs.Text.{IsCanonical, IsKept, path_json, part_json, entry_fields, entry_json, kept_json}
use Rattle.kept_entries.specs.Refusal.{IsRefusedKeptText, IsNotCanonical, IsNoList, IsNoEntry, AreNoFields, IsNoPath, IsNoName, IsNoPart}
use Rattle.kept_entries.proofs.OneList.{items_one, among, kept_one, part_one}

list_is : (is js : List Json) → list (items_of is) ≡ list (items_of js) → is ≡ js
list_is is js e = items_one is js (cc)

pub no_list : (done : List Entry) (j : Json) (rest js : List Json) (f : KeptFault) → js ≡ map entry_json done ++ j ∷ rest → IsNoEntry j f → IsNoList (list (items_of js)) f
no_list done j rest js NoMemory e h = tt
no_list done j rest js BadKept e h =
    λ es p.
    let q = among entry_json es (map entry_json done) j rest (list_is (map entry_json es) js p ∙ e) in
    h q.0 q.1

pub no_path : (done : List Name) (j : Json) (rest js : List Json) (f : KeptFault) → js ≡ map text done ++ j ∷ rest → IsNoName j f → IsNoPath (list (items_of js)) f
no_path done j rest js NoMemory e h = tt
no_path done j rest js BadKept e h =
    λ ns p.
    let q = among text ns (map text done) j rest (list_is (map text ns) js p ∙ e) in
    h q.0 q.1

pub no_at : (k l : Name) (i j : Json) (f : KeptFault) → IsNoPath i f → AreNoFields ((k, i) ∷ (l, j) ∷ []) f
no_at k l i j NoMemory h = tt
no_at k l i j BadKept h =
    λ e p.
    let first : (codes "at", path_json e.at) ≡ (k, i) = cc in
    h e.at (ap (λ (q : Name × Json). q.1) first)

pub no_was : (k l : Name) (i j : Json) (f : KeptFault) → IsNoPart j f → AreNoFields ((k, i) ∷ (l, j) ∷ []) f
no_was k l i j NoMemory h = tt
no_was k l i j BadKept h =
    λ e p.
    let last : (codes "was", part_json e.was) ≡ (l, j) = cc in
    h e.was (ap (λ (q : Name × Json). q.1) last)

pub not_kept : (t : List ℕ) (f : KeptFault) → IsNotCanonical t f → IsRefusedKeptText t f
not_kept t NoMemory h = tt
not_kept t BadKept h = λ es k. h (kept_json es) k.text

object_is : (ps qs : Pairs) → object (members_of ps) ≡ object (members_of qs) → ps ≡ qs
object_is ps qs e = part_one ps qs e

pub no_entry : (j : Json) (ps : Pairs) (f : KeptFault) → j ≡ object (members_of ps) → AreNoFields ps f → IsNoEntry j f
no_entry j ps NoMemory e h = tt
no_entry j ps BadKept e h = λ x p. h x (object_is (entry_fields x) ps (p ∙ e))

-- canonical texts of values that have one text are of one value
abbrev pub OneText : Type 0
OneText = (j k : Json) → IsSoundJson j → IsSoundJson k → text_of j ≡ text_of k → j ≡ k

same_value : (t : List ℕ) (j k : Json) → OneText → IsCanonical t j → IsCanonical t k → j ≡ k
same_value t j k one p q = one j k p.sound q.sound (sym p.spelled ∙ q.spelled)

pub no_entries : (t : List ℕ) (j : Json) (f : KeptFault) → OneText → IsCanonical t j → IsNoList j f → IsRefusedKeptText t f
no_entries t j NoMemory one p h = tt
no_entries t j BadKept one p h = λ es k. h es (same_value t (kept_json es) j one k.text p)

true_false : true ≡ false → ⊥
true_false e = grind arith

pub out_of_order : (t : List ℕ) (j : Json) (es : List Entry) → OneText → IsCanonical t j → kept_json es ≡ j → are_in_order es ≡ false → (fs : List Entry) → IsKept t fs → ⊥
out_of_order t j es one p q r fs k =
    let same : fs ≡ es = kept_one fs es (same_value t (kept_json fs) j one k.text p ∙ sym q) in
    true_false (sym k.order ∙ ap are_in_order same ∙ r)
