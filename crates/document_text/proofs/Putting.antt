-- The text of a document, cut where its number and its uid go.
use Rattle.std.proofs.Common.{◌≡◌, ◌≢◌, ◌∙◌, Bool, true, false, ℕ, ◌-◌, ◌<◌, ◌≤◌, List, [], ◌∷◌, ◌++◌, codes, refl, ap, sym, subst, arith, append_assoc, flat_map, take, drop, get_or, length, if◌then◌else◌, length-append, Ordering, Less, Equal, Greater, nat_cmp}
use Rattle.std.specs.Ordering.{match_ordering}
use Rattle.std.specs.Cmp.Lexicographic.{slice_cmp}
use Rattle.std.specs.Str.{IsCharBoundary}
use Rattle.std.proofs.lemmas.Str.{IsCharBoundary-before_ascii}
use Rattle.std.proofs.lemmas.List.{append-nil}
use Rattle.std.proofs.Math.Seq.{drop-append_seam, take-append_seam, get_or-append_seam}
use Rattle.std.proofs.lemmas.Cmp.{nat_list_cmp_total, tied_itself}
use Rattle.kj_value.specs.Characters.{quote}
use Rattle.kj_value.specs.Json.{Json, object, members_of}
use Rattle.kj_value.specs.Fields.{Pairs}
use Rattle.kj_value.specs.Sound.{IsSoundJson, AreRising}
use Rattle.kj_value.specs.Text.{escaped_byte, text_of, members_text}
use Rattle.kube_meta.specs.View.{ObjectView}
use Rattle.kube_meta.specs.Document.{document}
use Rattle.document_text.specs.inner.Ending.{ending}
use Rattle.document_text.specs.FieldLaws.{before, after, around_meta, others, fields_bare, document-bare, document-with, doc-text, doc_front, object-around, lead, more}
use Rattle.document_text.specs.inner.Cut.{IsCut, has_any, front_of, back_of}
use Rattle.document_text.specs.Numbered.{between, number_name, IsBare, IsParted, AreOthers, metadata_name, inside_metadata, with_numbers}
use Rattle.document_text.proofs.Passing.{pass_members}
use Rattle.document_text.proofs.Places.{fields_text}

-- ---- the fields of a bare document

-- the names before a name are others
itself : (a : List ℕ) → slice_cmp nat_cmp a a ≡ Equal
itself a = tied_itself nat_list_cmp_total a

abbrev parted_names : List ℕ → Pairs → Type 0
parted_names k [] = Unit {0}
parted_names k (e ∷ es) = (e.0 ≢ k) × parted_names k es

others_before : (k : List ℕ) (es : Pairs) → parted_names k (before k es)
others_before k [] = tt
others_before k (e ∷ es) = by (slice_cmp nat_cmp k e.0) refl (others_before k es)
  where
    by : (o : Ordering) → slice_cmp nat_cmp k e.0 ≡ o → parted_names k (before k es) → parted_names k (match_ordering o [] [] (e ∷ before k es))
    by Less is rest = tt
    by Equal is rest = tt
    by Greater is rest = (λ same. let z : Equal ≡ Greater = sym (itself k) ∙ (ap (λ (n : List ℕ). slice_cmp nat_cmp k n) (sym same) ∙ is) in absurd cc, rest)

both : (es : Pairs) (e : List ℕ × Json) (fs : Pairs) → parted_names metadata_name es → AreRising (members_of (es ++ e ∷ fs)) → AreOthers es × IsSoundJson e.1
both [] e fs p h = (tt, h.1)
both (d ∷ es) e fs p h = let r = both es e fs p.1 h.2 in ((p.0, h.1, r.0), r.1)

-- the fields of a bare document's text
pub parted_at : (x : ObjectView) (bytes rest : List ℕ) → IsBare x bytes → (y : ℕ) → bytes ≡ y ∷ rest
    → IsParted (before metadata_name (around_meta x)) (others x.meta) (after metadata_name (around_meta x)) rest
parted_at x bytes rest b y is =
    let es : Pairs = before metadata_name (around_meta x) in
    let fs : Pairs = after metadata_name (around_meta x) in
    let told : document x ≡ object (members_of (fields_bare x)) = document-bare x b.no_number b.no_uid in
    let sound : IsSoundJson (object (members_of (fields_bare x))) = subst (λ (j : Json). IsSoundJson j) told b.sound in
    let p = both es (metadata_name, object (members_of (others x.meta))) fs (others_before metadata_name (around_meta x)) sound in
    let spelled : y ∷ rest ≡ 123 ∷ fields_text es (others x.meta) fs = sym is ∙ (b.spelled ∙ ap text_of told) in
    record { others = p.0; sound = p.1; spelled = ap (λ (l : List ℕ). drop 1 l) spelled }

-- ---- where the text is cut

cut-text : (x : ObjectView) → text_of (object (members_of (fields_bare x))) ≡ front_of x ++ back_of x
cut-text x =
    let L : List ℕ = lead (before metadata_name (around_meta x)) metadata_name in
    let M : List ℕ = members_text (members_of (others x.meta)) in
    let R : List ℕ = more (after metadata_name (around_meta x)) ++ 125 ∷ [] in
    object-around (before metadata_name (around_meta x)) metadata_name (object (members_of (others x.meta))) (after metadata_name (around_meta x))
    ∙ ap (λ (w : List ℕ). 123 ∷ (L ++ 123 ∷ w)) (append_assoc M (125 ∷ []) R)
    ∙ ap (λ (w : List ℕ). 123 ∷ w) (sym (append_assoc L (123 ∷ M) (125 ∷ R)))

pub bare-text : (x : ObjectView) (bytes : List ℕ) → IsBare x bytes → bytes ≡ front_of x ++ back_of x
bare-text x bytes b = b.spelled ∙ (ap text_of (document-bare x b.no_number b.no_uid) ∙ cut-text x)

-- inside of the metadata of sound fields
pub rest-is : (os fs : Pairs) (inside : List ℕ) → IsSoundJson (object (members_of os)) → inside ≡ inside_metadata os fs
    → ending false 0 inside ≡ 125 ∷ (more fs ++ 125 ∷ [])
rest-is os fs inside sound is =
    ap (ending false 0) is ∙ pass_members (members_of os) false 0 (125 ∷ (more fs ++ 125 ∷ [])) (λ w. refl) sound

some-is : (os : Pairs) (r inside : List ℕ) (b : Bool) → inside ≡ members_text (members_of os) ++ r → (length r < length inside → b ≡ true) → (length inside ≤ length r → b ≡ false) → b ≡ has_any os
some-is [] r inside b is less more' = more' (let e = ap length is in omega (arith, e))
some-is (o ∷ os) r inside b is less more' =
    less (let e = ap length is in let a = length-append (members_text (members_of (o ∷ os))) r in omega (arith, e, a))

pub cut-is : (x : ObjectView) (bytes inside rest : List ℕ) (some : Bool) → IsBare x bytes → IsSoundJson (object (members_of (others x.meta)))
    → inside ≡ inside_metadata (others x.meta) (after metadata_name (around_meta x)) → rest ≡ ending false 0 inside
    → (length rest < length inside → some ≡ true) → (length inside ≤ length rest → some ≡ false)
    → IsCut x bytes (length bytes - length rest) some
cut-is x bytes inside rest some b sound is r less no_less =
    let fs : Pairs = after metadata_name (around_meta x) in
    let rest_is : rest ≡ back_of x = r ∙ rest-is (others x.meta) fs inside sound is in
    let whole : bytes ≡ front_of x ++ back_of x = bare-text x bytes b in
    let e = ap length whole in
    let f = ap length rest_is in
    let a = length-append (front_of x) (back_of x) in
    record {
      spelled = whole;
      at = omega (arith, e, f, a);
      fields = some-is (others x.meta) rest inside some (is ∙ ap (λ (w : List ℕ). members_text (members_of (others x.meta)) ++ w) (sym rest_is)) less no_less;
    }

-- ---- the text with the numbers

pub cut-front : (x : ObjectView) (bytes : List ℕ) (place : ℕ) (some : Bool) → IsCut x bytes place some → take place bytes ≡ front_of x
cut-front x bytes place some h = (λ i. take (h.at i) (h.spelled i)) ∙ take-append_seam (front_of x) (back_of x)

pub cut-back : (x : ObjectView) (bytes : List ℕ) (place : ℕ) (some : Bool) → IsCut x bytes place some → drop place bytes ≡ back_of x
cut-back x bytes place some h = (λ i. drop (h.at i) (h.spelled i)) ∙ drop-append_seam (front_of x) (back_of x)

pub cut-boundary : (x : ObjectView) (bytes : List ℕ) (place : ℕ) (some : Bool) → IsCut x bytes place some → IsCharBoundary bytes place
cut-boundary x bytes place some h =
    let e = ap length h.spelled in
    let a = length-append (front_of x) (back_of x) in
    let p = h.at in
    let brace : get_or bytes place 0 ≡ 125 = (λ i. get_or (h.spelled i) (h.at i) 0) ∙ get_or-append_seam (front_of x) 125 (more (after metadata_name (around_meta x)) ++ 125 ∷ []) 0 in
    IsCharBoundary-before_ascii bytes place (omega (arith, e, a, p)) (omega (arith, brace))

abbrev pub comma_if : Bool → List ℕ
comma_if b = if b then 44 ∷ [] else []

front-with : (es os : Pairs) → ((123 ∷ (lead es metadata_name ++ 123 ∷ members_text (members_of os))) ++ comma_if (has_any os)) ++ number_name ≡ doc_front es metadata_name os
front-with es [] =
    let L : List ℕ = lead es metadata_name in
    ap (λ (w : List ℕ). w ++ number_name) (append-nil (123 ∷ (L ++ 123 ∷ []))) ∙ ap (λ (w : List ℕ). 123 ∷ w) (append_assoc L (123 ∷ []) number_name)
front-with es (o ∷ os) =
    let L : List ℕ = lead es metadata_name in
    let M : List ℕ = members_text (members_of (o ∷ os)) in
    append_assoc (123 ∷ (L ++ 123 ∷ M)) (44 ∷ []) number_name
    ∙ ap (λ (w : List ℕ). 123 ∷ w) (append_assoc L (123 ∷ M) (44 ∷ number_name))
    ∙ ap (λ (w : List ℕ). 123 ∷ (L ++ 123 ∷ w)) (sym (append_assoc M (44 ∷ codes "\"resourceVersion\":") (34 ∷ [])))

turned : (f n b u r : List ℕ) → ((((f ++ n) ++ b) ++ u) ++ quote ∷ []) ++ r ≡ f ++ (n ++ (b ++ (u ++ quote ∷ r)))
turned f n b u r =
    append_assoc (((f ++ n) ++ b) ++ u) (quote ∷ []) r
    ∙ append_assoc ((f ++ n) ++ b) u (quote ∷ r)
    ∙ append_assoc (f ++ n) b (u ++ quote ∷ r)
    ∙ append_assoc f n (b ++ (u ++ quote ∷ r))

pub put-together : (x : ObjectView) (bytes n u front comma back : List ℕ) (place : ℕ) (some : Bool) → IsCut x bytes place some
    → front ≡ take place bytes → comma ≡ comma_if some → back ≡ drop place bytes → flat_map escaped_byte n ≡ n → flat_map escaped_byte u ≡ u
    → ((((((front ++ comma) ++ number_name) ++ n) ++ between) ++ u) ++ quote ∷ []) ++ back ≡ text_of (document (with_numbers n u x))
put-together x bytes n u front comma back place some h f k b pn pu =
    let es : Pairs = before metadata_name (around_meta x) in
    let fs : Pairs = after metadata_name (around_meta x) in
    let front_is : front ≡ front_of x = f ∙ cut-front x bytes place some h in
    let back_is : back ≡ back_of x = b ∙ cut-back x bytes place some h in
    let head : (front ++ comma) ++ number_name ≡ doc_front es metadata_name (others x.meta) =
    (λ i. (front_is i ++ (k ∙ ap comma_if h.fields) i) ++ number_name) ∙ front-with es (others x.meta) in
    (λ i. ((((head i ++ n) ++ between) ++ u) ++ quote ∷ []) ++ back_is i)
    ∙ turned (doc_front es metadata_name (others x.meta)) n between u (back_of x)
    ∙ sym (doc-text es metadata_name (others x.meta) fs n u pn pu)
    ∙ ap text_of (sym (document-with x n u))

pub never-empty : (x : ObjectView) (bytes : List ℕ) → IsBare x bytes → length bytes ≡ 0 → ⊥
never-empty x bytes b none = let e = ap length (bare-text x bytes b) in omega (arith, e, none)

-- what is found inside of a bare document's metadata
pub inside-is : (x : ObjectView) (bytes fields inside : List ℕ) (y : ℕ) → IsBare x bytes → bytes ≡ y ∷ fields
    → ((es os fs : Pairs) → IsParted es os fs fields → inside ≡ inside_metadata os fs)
    → IsSoundJson (object (members_of (others x.meta))) × (inside ≡ inside_metadata (others x.meta) (after metadata_name (around_meta x)))
inside-is x bytes fields inside y b is found =
    let p = parted_at x bytes fields b y is in
    (p.sound, found (before metadata_name (around_meta x)) (others x.meta) (after metadata_name (around_meta x)) p)

pub rest-fits : (x : ObjectView) (bytes inside rest : List ℕ) → IsBare x bytes
    → IsSoundJson (object (members_of (others x.meta))) × (inside ≡ inside_metadata (others x.meta) (after metadata_name (around_meta x)))
    → rest ≡ ending false 0 inside → length rest ≤ length bytes
rest-fits x bytes inside rest b found is =
    let e = ap length (bare-text x bytes b) in
    let f = ap length (is ∙ rest-is (others x.meta) (after metadata_name (around_meta x)) inside found.0 found.1) in
    let a = length-append (front_of x) (back_of x) in
    omega (arith, e, f, a)

-- one piece more
pub put_next : (before after made piece added : List ℕ) → after ≡ before ++ piece → piece ≡ added → before ≡ made → after ≡ made ++ added
put_next before after made piece added e f g = rw (e, f, g) refl
