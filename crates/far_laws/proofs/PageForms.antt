-- What a client reads of a page: the keys of its objects, and the token.
use Rattle.std.proofs.Common.{◌≡◌, ◌∙◌, refl, sym, ap, subst, ℕ, suc, ◌<◌, ◌≤◌, ◌^◌, Bool, true, false, Less, nat_cmp, List, [], ◌∷◌, ◌++◌, map, Option, None, Some, Ok, pos, codes, decimal, append-nil, arith}
use Rattle.std.specs.Int.{w64}
use Rattle.std.specs.Prelude.{FitsSigned, max, nat_eq, unwrap_or, option_map, IsTrue, IsUtf8, if◌then◌else◌}
use Rattle.std.specs.Ordering.{ordering_reverse}
use Rattle.std.specs.Cmp.Lexicographic.{slice_cmp}
use Rattle.std.proofs.lemmas.Cmp.{nat_list_cmp_total}
use Rattle.kj_value.specs.Json.{Json, whole, text, list, object, depth, items_depth, members_depth, items_of, members_of}
use Rattle.kj_value.specs.Fields.{Pairs, field}
use Rattle.kj_value.specs.KindLaws.{pairs_members, list_items}
use Rattle.kj_value.specs.Reading.{Reads}
use Rattle.kj_value.specs.Sound.{IsSoundJson, AreSoundItems, AreRising, ComesFirst}
use Rattle.kj_value.specs.Text.{text_of}
use Rattle.kj_value.specs.declared.reading.TheConstants.{MAX_JSON_LEVELS}
use Rattle.kube_meta.specs.Document.{document, metadata, optional, some_text, some_texts, some_list, some_generation}
use Rattle.kube_meta.specs.Key.{KeyView}
use Rattle.kube_meta.specs.Page.{Page}
use Rattle.kube_meta.specs.View.{MetaView, ObjectView}
use Rattle.kube_meta.specs.inner.Following.{IsAfter, Follows}
use Rattle.kube_meta.proofs.InOrder.{follows_later, follows-with, with_field-behind}
use Rattle.object_reading.specs.Fields.{object_at, text_at}
use Rattle.object_reading.proofs.Documents.{document-fields, fields, found_metadata}
use Rattle.object_reading.proofs.Metadata.{at}
use Rattle.document_text.specs.Numbered.{metadata_name, with_numbers}
use Rattle.document_text.specs.FieldLaws.{after, around_meta, before, document-bare, document-with, id, meta_with, others, rv}
use Rattle.api_calls.specs.Documents.{group_version, numbered, object_list}
use Rattle.api_calls.specs.Legal.{Each}
use Rattle.api_calls.specs.Meaning.{Meaning}
use Rattle.api_calls.specs.Objects.{Stored, object_key}
use Rattle.api_calls.specs.Replies.{AreShown, IsList, next_token}
use Rattle.api_calls.specs.Reply.{ReplyView}
use Rattle.api_calls.specs.Uid.{uid}
use Rattle.api_calls.specs.Versions.{KeepsKey, Stand, StandsAt}
use Rattle.api_calls.specs.declared.versions.TheConstants.{OBJECT_LEVELS}
use Rattle.far_laws.proofs.Values.{IsKept}
use Rattle.wire_client.specs.Forms.{fields_of, items_in, key_in, token_in}

-- ---- fields that rise

first_of_both : (k l : List ℕ) (i j : Json) (es fs : Pairs) → ComesFirst k (members_of (es ++ (l, i) ∷ fs)) → ComesFirst k (members_of (es ++ (l, j) ∷ fs))
first_of_both k l i j [] fs h = h
first_of_both k l i j (e ∷ es) fs h = h

-- another sound value in the place of one
swapped : (k : List ℕ) (i j : Json) (es fs : Pairs) → AreRising (members_of (es ++ (k, i) ∷ fs)) → IsSoundJson j → AreRising (members_of (es ++ (k, j) ∷ fs))
swapped k i j [] fs h s = (h.0, s, h.2)
swapped k i j (e ∷ es) fs h s = (first_of_both e.0 k i j es fs h.0, h.1, swapped k i j es fs h.2 s)

value_at : (k : List ℕ) (i : Json) (es fs : Pairs) → AreRising (members_of (es ++ (k, i) ∷ fs)) → IsSoundJson i
value_at k i [] fs h = h.1
value_at k i (e ∷ es) fs h = value_at k i es fs h.2

before_it : (k l : List ℕ) → IsAfter k l → slice_cmp nat_cmp l k ≡ Less
before_it k l a = nat_list_cmp_total.antisymm l k ∙ ap ordering_reverse a

-- one more field behind those before it
rising-behind : (k : List ℕ) (j : Json) (es : Pairs) → AreRising (members_of es) → Follows k es → IsSoundJson j → AreRising (members_of (es ++ (k, j) ∷ []))
rising-behind k j [] h f s = (tt, s, tt)
rising-behind k j (e ∷ []) h f s = (before_it k e.0 f.0, h.1, (tt, s, tt))
rising-behind k j (e ∷ d ∷ es) h f s = (h.0, h.1, rising-behind k j (d ∷ es) h.2 f.1 s)

follows-behind : (k l : List ℕ) (j : Json) (es : Pairs) → Follows l es → IsAfter k l → Follows k (es ++ (l, j) ∷ [])
follows-behind k l j es f a = subst (λ (ps : Pairs). Follows k ps) (with_field-behind l j es f) (follows-with k l j es f a)

follows_next : (k l : List ℕ) (o : Option Json) (es : Pairs) → Follows l es → IsAfter k l → Follows k (es ++ optional l o)
follows_next k l None es f a = rw (append-nil es) (follows_later k l es a f)
follows_next k l (Some j) es f a = follows-behind k l j es f a

-- the number comes behind the other fields of metadata
number_follows : (m : MetaView) → Follows rv (others m)
number_follows m =
    let r1 = follows_next (codes "creationTimestamp") (codes "annotations") (some_texts m.annotations) [] tt refl in
    let r2 = follows_next (codes "deletionTimestamp") (codes "creationTimestamp") (option_map text m.created) _ r1 refl in
    let r3 = follows_next (codes "finalizers") (codes "deletionTimestamp") (option_map text m.deleted) _ r2 refl in
    let r4 = follows_next (codes "generation") (codes "finalizers") (some_list (map text m.finalizers)) _ r3 refl in
    let r5 = follows_next (codes "labels") (codes "generation") (some_generation m.generation) _ r4 refl in
    let r6 = follows_next (codes "name") (codes "labels") (some_texts m.labels) _ r5 refl in
    let r7 = follows_next (codes "namespace") (codes "name") (some_text m.name) _ r6 refl in
    let r8 = follows_next (codes "ownerReferences") (codes "namespace") (some_text m.namespace) _ r7 refl in
    follows_next rv (codes "ownerReferences") (some_list m.owners) _ r8 refl

meta_rises : (os : Pairs) (n u : List ℕ) → AreRising (members_of os) → Follows rv os → AreRising (members_of (meta_with os n u))
meta_rises os n u h f =
    rising-behind id (text u) (os ++ (rv, text n) ∷ []) (rising-behind rv (text n) os h f tt) (follows-behind id rv (text n) os f refl) tt

-- an object's document is sound with a number and a uid as it is without
pub numbered_sound : (x : ObjectView) (n u : List ℕ) → x.meta.resource_version ≡ None → x.meta.uid ≡ None → IsSoundJson (document x) → IsSoundJson (document (with_numbers n u x))
numbered_sound x n u no_number no_uid s =
    let es = before metadata_name (around_meta x) in
    let fs = after metadata_name (around_meta x) in
    let bare : AreRising (members_of (es ++ (metadata_name, object (members_of (others x.meta))) ∷ fs)) = subst (λ (j : Json). IsSoundJson j) (document-bare x no_number no_uid) s in
    let own : AreRising (members_of (others x.meta)) = value_at metadata_name (object (members_of (others x.meta))) es fs bare in
    subst (λ (j : Json). IsSoundJson j) (sym (document-with x n u))
    (swapped metadata_name (object (members_of (others x.meta))) (object (members_of (meta_with (others x.meta) n u))) es fs bare
    (meta_rises (others x.meta) n u own (number_follows x.meta)))

-- ---- depths

depth_swapped : (k : List ℕ) (i j : Json) (es fs : Pairs) → depth i ≡ depth j → members_depth (members_of (es ++ (k, i) ∷ fs)) ≡ members_depth (members_of (es ++ (k, j) ∷ fs))
depth_swapped k i j [] fs same = ap (λ (n : ℕ). max n (members_depth (members_of fs))) same
depth_swapped k i j (e ∷ es) fs same = ap (λ (n : ℕ). max (depth e.1) n) (depth_swapped k i j es fs same)

depth_behind : (k : List ℕ) (s : List ℕ) (es : Pairs) → members_depth (members_of (es ++ (k, text s) ∷ [])) ≡ members_depth (members_of es)
depth_behind k s [] = refl
depth_behind k s (e ∷ es) = ap (λ (n : ℕ). max (depth e.1) n) (depth_behind k s es)

pub numbered_depth : (x : ObjectView) (n u : List ℕ) → x.meta.resource_version ≡ None → x.meta.uid ≡ None → depth (document (with_numbers n u x)) ≡ depth (document x)
numbered_depth x n u no_number no_uid =
    let es = before metadata_name (around_meta x) in
    let fs = after metadata_name (around_meta x) in
    let os = others x.meta in
    let meta : members_depth (members_of (meta_with os n u)) ≡ members_depth (members_of os) = depth_behind id u (os ++ (rv, text n) ∷ []) ∙ depth_behind rv n os in
    ap depth (document-with x n u)
    ∙ ap (λ (d : ℕ). suc d) (depth_swapped metadata_name (object (members_of (meta_with os n u))) (object (members_of os)) es fs (ap (λ (d : ℕ). suc d) meta))
    ∙ sym (ap depth (document-bare x no_number no_uid))

-- ---- the key of a document

text_back : (s : List ℕ) → unwrap_or (text_at (some_text s)) [] ≡ s
text_back [] = refl
text_back (b ∷ bs) = refl

fields_of_document : (x : ObjectView) → fields_of (document x) ≡ fields x
fields_of_document x = ap fields_of (document-fields x) ∙ pairs_members (fields x)

metadata_of : (x : ObjectView) → object_at (field (codes "metadata") (fields_of (document x))) ≡ metadata x.meta
metadata_of x =
    ap (λ (fs : Pairs). object_at (field (codes "metadata") fs)) (fields_of_document x) ∙ ap object_at (found_metadata x) ∙ pairs_members (metadata x.meta)

pub key_of_document : (x : ObjectView) → key_in (fields_of (document x)) ≡ record { ns = x.meta.namespace; name = x.meta.name }
key_of_document x =
    let ns = ap (λ (ms : Pairs). unwrap_or (text_at (field (codes "namespace") ms)) []) (metadata_of x)
    ∙ ap (λ (o : Option Json). unwrap_or (text_at o) []) (at (codes "namespace") x.meta (some_text x.meta.namespace) refl) ∙ text_back x.meta.namespace in
    let name = ap (λ (ms : Pairs). unwrap_or (text_at (field (codes "name") ms)) []) (metadata_of x)
    ∙ ap (λ (o : Option Json). unwrap_or (text_at o) []) (at (codes "name") x.meta (some_text x.meta.name) refl) ∙ text_back x.meta.name in
    λ i. record { ns = ns i; name = name i }

-- ---- the items of a page

-- the text of a sound value reads back as the value
abbrev pub TextReads : Type 0
TextReads = (j : Json) → IsSoundJson j → depth j ≤ MAX_JSON_LEVELS → IsUtf8 (text_of j) → Reads (text_of j) (depth j) j

-- bytes read as one value
abbrev pub OneReading : Type 0
OneReading = (bytes : List ℕ) (m n : ℕ) (j k : Json) → Reads bytes m j → Reads bytes n k → j ≡ k

abbrev pub json_key : Json → KeyView
json_key j = key_in (fields_of j)

module _ (m : Meaning) (stand : Stand m) (keeps : KeepsKey m) (honest : IsTrue m.honest) where
  -- what documents show
  record AreDocuments (es : List Stored) (js : List Json) : Type 0 where
    sound : AreSoundItems (items_of js)
    levels : items_depth (items_of js) ≤ OBJECT_LEVELS
    keys : map json_key js ≡ map object_key es

  documents : (boot v : ℕ) (es : List Stored) (js : List Json) → v < m.count → Each (IsKept m) es → AreShown m boot v es js → AreDocuments es js
  documents boot v [] [] known kept shown = record { sound = tt; levels = omega arith; keys = refl }
  documents boot v (e ∷ es) (j ∷ js) known kept shown =
      let more = documents boot v es js known kept.1 shown.1 in
      let x : ObjectView = shown.0.0 in
      let pairs = shown.0.1 honest in
      let at : StandsAt m v x = stand.pair v e.h x known kept.0.whole pairs in
      let is : j ≡ document (numbered boot e.number e.born x) = shown.0.2 in
      let number = decimal e.number in
      let id_text = uid boot e.born in
      let sound : IsSoundJson j = subst (λ (q : Json). IsSoundJson q) (sym is) (numbered_sound x number id_text at.no_number at.no_uid at.sound) in
      let same_depth : depth j ≡ depth (document x) = ap depth is ∙ numbered_depth x number id_text at.no_number at.no_uid in
      let levels = at.levels in
      let name = keeps.name v e.h x known kept.0.whole pairs in
      let namespace = keeps.namespace v e.h x known kept.0.whole pairs in
      let key : json_key j ≡ e.key = ap json_key is ∙ key_of_document (numbered boot e.number e.born x) ∙ (λ i. record { ns = namespace i; name = name i }) ∙ kept.0.key in
      record {
        sound = (sound, more.sound);
        levels = omega (arith, same_depth, levels, more.levels);
        keys = ap (λ (k : KeyView). k ∷ map json_key js) key ∙ ap (λ (ks : List KeyView). e.key ∷ ks) more.keys;
      }
  documents boot v [] (j ∷ js) known kept shown = absurd shown
  documents boot v (e ∷ es) [] known kept shown = absurd shown

  -- ---- the page

  list_sound : (v : ℕ) (js : List Json) (token : List ℕ) (number left : ℕ) → AreSoundItems (items_of js) → left < 2 ^ 63 → IsSoundJson (object_list m v js token number left)
  unfolding object_list
  list_sound v js token number left items few = by (nat_eq left 0)
    where
      fits : FitsSigned w64 (pos left)
      fits = omega (arith, few)

      by : (b : Bool) → IsSoundJson (object (members_of (
          (codes "apiVersion", text (group_version m v))
          ∷ (codes "items", list (items_of js))
          ∷ (codes "kind", text m.list_kind)
          ∷ (
            codes "metadata",
            object (members_of (
                (codes "continue", text token)
                ∷ optional (codes "remainingItemCount") (if b then None else Some (whole (pos left)))
                ++ (codes "resourceVersion", text (decimal number))
                ∷ [])),
          )
          ∷ [])))
      by true = (refl, tt, (refl, items, (refl, tt, (tt, (refl, tt, (tt, tt, tt)), tt))))
      by false = (refl, tt, (refl, items, (refl, tt, (tt, (refl, tt, (refl, fits, (tt, tt, tt))), tt))))

  list_depth : (v : ℕ) (js : List Json) (token : List ℕ) (number left : ℕ) → items_depth (items_of js) ≤ OBJECT_LEVELS → depth (object_list m v js token number left) ≤ MAX_JSON_LEVELS
  unfolding object_list
  list_depth v js token number left levels = by (nat_eq left 0)
    where
      by : (b : Bool) → depth (object (members_of (
          (codes "apiVersion", text (group_version m v))
          ∷ (codes "items", list (items_of js))
          ∷ (codes "kind", text m.list_kind)
          ∷ (
            codes "metadata",
            object (members_of (
                (codes "continue", text token)
                ∷ optional (codes "remainingItemCount") (if b then None else Some (whole (pos left)))
                ++ (codes "resourceVersion", text (decimal number))
                ∷ [])),
          )
          ∷ []))) ≤ MAX_JSON_LEVELS
      by true = omega (arith, levels)
      by false = omega (arith, levels)

  list_items_in : (v : ℕ) (js : List Json) (token : List ℕ) (number left : ℕ) → items_in (fields_of (object_list m v js token number left)) ≡ Some js
  unfolding object_list
  list_items_in v js token number left = ap (λ (ks : List Json). Some ks) (list_items js)

  list_token_in : (v : ℕ) (js : List Json) (token : List ℕ) (number left : ℕ) → token_in (fields_of (object_list m v js token number left)) ≡ token
  unfolding object_list
  list_token_in v js token number left = refl

  -- the objects of a page, their keys and the token, as they are read
  pub record AreRead (boot v : ℕ) (j : Json) (p : Page Stored) : Type 0 where
    pub shown : AreShown m boot v p.items (unwrap_or (items_in (fields_of j)) [])
    pub keys : map json_key (unwrap_or (items_in (fields_of j)) []) ≡ map object_key p.items
    pub token : token_in (fields_of j) ≡ next_token p

  pub page_read : (boot v levels : ℕ) (p : Page Stored) (r : ReplyView) (j : Json) → TextReads → OneReading → v < m.count → Each (IsKept m) p.items → p.remaining < 2 ^ 63
      → IsList m boot v p (Ok r) → Reads r.text levels j → AreRead boot v j p
  page_read boot v levels p r j text_reads one_reading known kept few shows reads =
      let js : List Json = shows.1 in
      let docs = documents boot v p.items js known kept shows.2 in
      let page : Json = object_list m v js (next_token p) p.number p.remaining in
      let spelled : r.text ≡ text_of page = shows.3 in
      let utf8 : IsUtf8 (text_of page) = subst (λ (bytes : List ℕ). IsUtf8 bytes) spelled reads.1.0 in
      let back = text_reads page (list_sound v js (next_token p) p.number p.remaining docs.sound few) (list_depth v js (next_token p) p.number p.remaining docs.levels) utf8 in
      let same : j ≡ page = one_reading (text_of page) levels (depth page) j page (subst (λ (bytes : List ℕ). Reads bytes levels j) spelled reads) back in
      let items : unwrap_or (items_in (fields_of j)) [] ≡ js =
      ap (λ (q : Json). unwrap_or (items_in (fields_of q)) []) same ∙ ap (λ (o : Option (List Json)). unwrap_or o []) (list_items_in v js (next_token p) p.number p.remaining) in
      record {
        shown = subst (λ (ks : List Json). AreShown m boot v p.items ks) (sym items) shows.2;
        keys = ap (λ (q : Json). map json_key (unwrap_or (items_in (fields_of q)) [])) same
            ∙ ap (λ (o : Option (List Json)). map json_key (unwrap_or o [])) (list_items_in v js (next_token p) p.number p.remaining) ∙ docs.keys;
        token = ap (λ (q : Json). token_in (fields_of q)) same ∙ list_token_in v js (next_token p) p.number p.remaining;
      }
