-- The keys of a page that is given are namespaces and names, so that a token can be of them.
use Rattle.std.proofs.Common.{◌≡◌, ◌∙◌, refl, sym, ap, subst, ◌&&◌, ℕ, suc, ◌<◌, ◌^◌, Bool, true, false, not, List, [], ◌∷◌, ◌++◌, map, Option, None, Some, Result, Ok, option_map, unwrap_or, codes, arith}
use Rattle.std.specs.Prelude.{is_none}
use Rattle.std.specs.Option.{option_or}
use Rattle.kj_value.specs.Json.{Json, null, boolean, whole, text, list, object}
use Rattle.kj_value.specs.Fields.{Pairs}
use Rattle.kj_value.specs.Kinds.{as_object}
use Rattle.base64.specs.declared.decode.DecodeError.{DecodeError}
use Rattle.base64.specs.Rfc4648.{encode_symbols}
use Rattle.base64.specs.Engines.{url_safe_no_pad}
use Rattle.base64.specs.GeneralPurpose.{decode_of, encode_of}
use Rattle.base64.proofs.EngineFacts.{decode_of-encode_of}
use Rattle.kube_meta.specs.Key.{KeyView}
use Rattle.kube_meta.specs.Names.{is_name, is_namespace}
use Rattle.object_reading.specs.Fields.{given as given_field, text_at}
use Rattle.object_reading.specs.Refusal.{is_given_text}
use Rattle.api_calls.specs.Legal.{Each}
use Rattle.api_calls.specs.Token.{IsToken, token_line, token_text}
use Rattle.api_calls.proofs.Tokens.{ascii-line}
use Rattle.http_routes.specs.Paths.{IsKey}
use Rattle.place.specs.Place.{Names}
use Rattle.wire_client.specs.Answers.{Reply, given, broken, long, gone, code, shape, Replies, form_fault, formed, reply_by_code, shaped, success_of}
use Rattle.wire_client.specs.Calls.{Call, lists}
use Rattle.wire_client.specs.Forms.{Path, told_if, first_told, of_object, anything, fits, fields_of, meta_field, has_version, has_namespace, has_name, has_number, fields_fault, object_fault, item_path, items_fault, items_in, is_token, key_in, page_fault, page_fields_fault, api_version}

-- ---- an item

-- where nothing is told, each test holds
all_hold : (a b c d : Bool) (p q r s : Path) → first_told (told_if (not a) p ∷ told_if (not b) q ∷ told_if (not c) r ∷ told_if (not d) s ∷ []) ≡ None
    → (b ≡ true) × (c ≡ true)
all_hold false b c d p q r s e = absurd (cc)
all_hold true false c d p q r s e = absurd (cc)
all_hold true true false d p q r s e = absurd (cc)
all_hold true true true d p q r s e = (refl, refl)

first_true : (a b : Bool) → (a && b) ≡ true → a ≡ true
first_true true b e = refl
first_true false b e = e

-- what is judged of a text that is there
judged : (kind : List ℕ → Bool) (o : Option Json) → is_given_text kind o ≡ true → kind (unwrap_or (text_at o) []) ≡ true
judged kind None e = absurd (cc)
judged kind (Some null) e = absurd (cc)
judged kind (Some (boolean b)) e = absurd (cc)
judged kind (Some (whole z)) e = absurd (cc)
judged kind (Some (text t)) e = e
judged kind (Some (list js)) e = absurd (cc)
judged kind (Some (object ms)) e = absurd (cc)

fields_valid : (version : List ℕ) (fs : Pairs) → fields_fault version anything fs ≡ None → IsKey (key_in fs)
unfolding fields_fault
fields_valid version fs e =
    let h = all_hold (has_version version fs) (has_namespace None fs) (has_name None fs) (has_number fs) (codes "apiVersion") (codes "metadata.namespace") (codes "metadata.name") (codes "metadata.resourceVersion") e in
    record {
      ns = first_true _ _ (judged (λ s. is_namespace s && fits None s) (meta_field (codes "namespace") fs) h.0);
      name = first_true _ _ (judged (λ s. is_name s && fits None s) (meta_field (codes "name") fs) h.1);
    }

object_valid : (version : List ℕ) (j : Json) → object_fault version anything j ≡ None → IsKey (key_in (fields_of j))
object_valid version j e = by_fields (as_object j) refl e
  where
    by_fields : (o : Option Pairs) → as_object j ≡ o → of_object (fields_fault version anything) o ≡ None → IsKey (key_in (unwrap_or (as_object j) []))
    by_fields None is h = absurd (cc)
    by_fields (Some fs) is h = subst (λ (o : Option Pairs). IsKey (key_in (unwrap_or o []))) (sym is) (fields_valid version fs h)

both_none : (o p : Option Path) → option_or o p ≡ None → (o ≡ None) × (p ≡ None)
both_none None p e = (refl, e)
both_none (Some path) p e = absurd (cc)

not_mapped : (i : ℕ) (o : Option Path) → option_map (item_path i) o ≡ None → o ≡ None
not_mapped i None e = refl
not_mapped i (Some path) e = absurd (cc)

items_valid : (version : List ℕ) (i : ℕ) (js : List Json) → items_fault version i js ≡ None → Each IsKey (map (λ j. key_in (fields_of j)) js)
items_valid version i [] e = tt
items_valid version i (j ∷ js) e =
    let h = both_none (option_map (item_path i) (object_fault version anything j)) (items_fault version (suc i) js) e in
    (object_valid version j (not_mapped i _ h.0), items_valid version (suc i) js h.1)

-- ---- a page

third_none : (a b d e : Bool) (p q r s : Path) (o : Option Path) → first_told (told_if a p ∷ told_if b q ∷ o ∷ told_if d r ∷ told_if e s ∷ []) ≡ None → o ≡ None
third_none true b d e p q r s o h = absurd (cc)
third_none false true d e p q r s o h = absurd (cc)
third_none false false d e p q r s None h = refl
third_none false false d e p q r s (Some path) h = absurd (cc)

abbrev pub keys_in : Json → List KeyView
keys_in j = map (λ k. key_in (fields_of k)) (unwrap_or (items_in (fields_of j)) [])

page_valid : (version : List ℕ) (j : Json) → page_fault version j ≡ None → Each IsKey (keys_in j)
unfolding page_fields_fault
page_valid version j e = by_fields (as_object j) refl e
  where
    by_fields : (o : Option Pairs) → as_object j ≡ o → of_object (page_fields_fault version) o ≡ None
        → Each IsKey (map (λ k. key_in (fields_of k)) (unwrap_or (items_in (unwrap_or (as_object j) [])) []))
    by_fields None is h = absurd (cc)
    by_fields (Some fs) is h =
        let none = third_none (not (has_version version fs)) (is_none (items_in fs)) (not (is_token (given_field (meta_field (codes "continue") fs)))) (not (has_number fs))
        (codes "apiVersion") (codes "items") (codes "metadata.continue") (codes "metadata.resourceVersion") (items_fault version 0 (unwrap_or (items_in fs) [])) h in
        subst (λ (o : Option Pairs). Each IsKey (map (λ k. key_in (fields_of k)) (unwrap_or (items_in (unwrap_or o [])) []))) (sym is)
        (items_valid version 0 (unwrap_or (items_in fs) []) none)

given_one : (j k : Json) → given j ≡ given k → j ≡ k
given_one j k e = cc

-- what is given has its form
pub formed_given : (version : List ℕ) (call : Call) (r : Reply) (j : Json) → given j ≡ formed version call r → form_fault version call j ≡ None
formed_given version call (given k) j is = by_fault (form_fault version call k) refl is
  where
    by_fault : (o : Option Path) → form_fault version call k ≡ o → given j ≡ shaped o k → form_fault version call j ≡ None
    by_fault None none is = subst (λ (q : Json). form_fault version call q ≡ None) (sym (given_one j k is)) none
    by_fault (Some path) none is = cc
formed_given version call broken j is = cc
formed_given version call long j is = cc
formed_given version call gone j is = cc
formed_given version call (code c) j is = cc
formed_given version call (shape path) j is = cc

pub given_valid : (n : Names) (limit : ℕ) (token bytes : List ℕ) (j : Json) → Replies n (lists limit token) (Some bytes) (given j) → Each IsKey (keys_in j)
given_valid n limit token bytes j r =
    page_valid (api_version n) j (formed_given (api_version n) (lists limit token) (reply_by_code (success_of (lists limit token)) r.0) j r.2)

-- ---- tokens

abbrev decoded : List ℕ → Result (List ℕ) DecodeError
decoded s = Ok s

pub valid_token : (number : ℕ) (key : KeyView) → number < 2 ^ 64 → IsKey key → IsToken number key
valid_token number key few v = record { number = few; ns = v.ns; name = v.name }

ok_one : (a b : List ℕ) → decoded a ≡ decoded b → a ≡ b
ok_one a b e = cc

no_line : (rest : List ℕ) → [] ≡ codes "1 " ++ rest → ⊥
no_line rest e = cc

nothing_encoded : encode_of url_safe_no_pad [] ≡ []
unfolding encode_symbols
nothing_encoded = refl

-- a token isn't empty
pub token_some : (number : ℕ) (key : KeyView) → IsToken number key → token_text number key ≡ [] → ⊥
unfolding token_text token_line
token_some number key t is =
    let ascii = ascii-line number key t in
    let back = decode_of-encode_of url_safe_no_pad (token_line number key) refl (λ i. omega (arith, ascii i)) in
    let none : decode_of url_safe_no_pad [] ≡ decoded (token_line number key) = ap (decode_of url_safe_no_pad) (sym is) ∙ back in
    let nothing : decode_of url_safe_no_pad [] ≡ decoded [] = ap (decode_of url_safe_no_pad) (sym nothing_encoded) ∙ decode_of-encode_of url_safe_no_pad [] refl (λ i. omega arith) in
    no_line _ (ok_one [] (token_line number key) (sym nothing ∙ none))
