-- How many bytes the texts have that a server replies.
use Rattle.std.proofs.Common.{◌≡◌, ◌∙◌, refl, ap, ℕ, ◌+◌, ◌-◌, ◌*◌, ◌<◌, ◌≤◌, ◌^◌, Bool, true, false, nat_lt, List, [], ◌∷◌, ◌++◌, length, length-append, None, pos, codes, decimal, arith}
use Rattle.std.specs.Int.{to_be_bytes, w128}
use Rattle.std.specs.Prelude.{◌==◌, flat_map, if◌then◌else◌}
use Rattle.std.proofs.lemmas.Fmt.{length-decimal-le}
use Rattle.kj_value.specs.Characters.{backslash, backspace, carriage_return, form_feed, line_feed, quote, space, tab}
use Rattle.kj_value.specs.Fields.{Pairs}
use Rattle.kj_value.specs.Json.{Json, Members, member, members_of, no_members, object, text}
use Rattle.kj_value.specs.Text.{escaped_byte, escaped_control, members_text, more_members, quoted, text_of}
use Rattle.kube_meta.specs.Document.{document}
use Rattle.kube_meta.specs.View.{ObjectView}
use Rattle.document_text.specs.FieldLaws.{after, around_meta, before, document-bare, document-with, id, meta_with, others, rv}
use Rattle.document_text.specs.Numbered.{metadata_name}
use Rattle.api_calls.specs.Documents.{numbered}
use Rattle.api_calls.specs.Meaning.{Meaning, Weighs, stored_text}
use Rattle.api_calls.specs.Uid.{uid, uid_high, uid_low}
use Rattle.api_calls.specs.Versions.{IgnoresStamps, IsOneToOne, Stand, StandsAt}
use Rattle.api_calls.specs.laws.SpelledLaws.{unnumbered-itself}
use Rattle.api_calls.proofs.Fields.{length-hyphenated_text}
use Rattle.api_calls.proofs.StoredBytes.{same_generation, stored_bytes}
use Rattle.far_laws.specs.TakenBack.{IsLight}

-- ---- texts between quotes

escaped_few : (b : ℕ) → length (escaped_byte b) ≤ 6
escaped_few b = by (b == quote) (b == backslash) (b == backspace) (b == tab) (b == line_feed) (b == form_feed) (b == carriage_return) (nat_lt b space)
  where
    by : (q s p t l f r c : Bool)
        → length (if q then codes "\\\"" else (if s then codes "\\\\" else (if p then codes "\\b" else (if t then codes "\\t" else (if l then codes "\\n" else (if f then codes "\\f" else (if r then codes "\\r" else (
        if c then escaped_control b else b ∷ []
        )))))))) ≤ 6
    by true s p t l f r c = omega arith
    by false true p t l f r c = omega arith
    by false false true t l f r c = omega arith
    by false false false true l f r c = omega arith
    by false false false false true f r c = omega arith
    by false false false false false true r c = omega arith
    by false false false false false false true c = omega arith
    by false false false false false false false true = omega arith
    by false false false false false false false false = omega arith

escaped_all : (s : List ℕ) → length (flat_map escaped_byte s) ≤ 6 * length s
escaped_all [] = omega arith
escaped_all (b ∷ bs) =
    let here = escaped_few b in
    let more = escaped_all bs in
    let long = length-append (escaped_byte b) (flat_map escaped_byte bs) in
    omega (arith, here, more, long)

pub quoted_few : (s : List ℕ) → length (quoted s) ≤ 2 + 6 * length s
quoted_few s =
    let inner = escaped_all s in
    let long = length-append (flat_map escaped_byte s) (34 ∷ []) in
    omega (arith, inner, long)

-- ---- fields

-- the bytes of an object's fields, each with a comma
abbrev pub size : Pairs → ℕ
size ps = length (more_members (members_of ps))

pub size-cons : (k : List ℕ) (j : Json) (ps : Pairs) → size ((k, j) ∷ ps) ≡ 2 + length (quoted k) + length (text_of j) + size ps
size-cons k j ps =
    let a = length-append (quoted k) (58 ∷ (text_of j ++ more_members (members_of ps))) in
    let b = length-append (text_of j) (more_members (members_of ps)) in
    omega (arith, a, b)

pub size-append : (ps qs : Pairs) → size (ps ++ qs) ≡ size ps + size qs
size-append [] qs = omega arith
size-append (p ∷ ps) qs =
    let a = size-cons p.0 p.1 (ps ++ qs) in
    let b = size-cons p.0 p.1 ps in
    let more = size-append ps qs in
    omega (arith, a, b, more)

length-members_text : (ms : Members) → length (members_text ms) ≡ length (more_members ms) - 1
length-members_text no_members = refl
length-members_text (member k j ms) = omega arith

pub length-object : (ps : Pairs) → length (text_of (object (members_of ps))) ≡ 2 + (size ps - 1)
length-object ps =
    let a = length-append (members_text (members_of ps)) (125 ∷ []) in
    let b = length-members_text (members_of ps) in
    omega (arith, a, b)

pub decimal_few : (n : ℕ) → n < 2 ^ 64 → length (decimal n) ≤ 20
decimal_few n few = length-decimal-le 20 n (omega arith) (omega (arith, few)) few

-- ---- an object with its number and its uid

uid_long : (boot born : ℕ) → length (uid boot born) ≡ 36
unfolding uid
uid_long boot born = length-hyphenated_text 97 (to_be_bytes w128 (uid_high boot * 2 ^ 64 + uid_low born))

meta_more : (os : Pairs) (n u : List ℕ) → length n ≤ 20 → length u ≡ 36 → size (meta_with os n u) ≤ size os + 500
meta_more os n u few long =
    let a = size-append (os ++ (rv, text n) ∷ []) ((id, text u) ∷ []) in
    let b = size-append os ((rv, text n) ∷ []) in
    let c = size-cons rv (text n) [] in
    let d = size-cons id (text u) [] in
    let e = quoted_few n in
    let f = quoted_few u in
    omega (arith, a, b, c, d, e, f, few, long)

-- in the middle of other fields
more_between : (es fs : Pairs) (k : List ℕ) (os qs : Pairs) → size qs ≤ size os + 500
    → length (text_of (object (members_of (es ++ (k, object (members_of qs)) ∷ fs)))) ≤ length (text_of (object (members_of (es ++ (k, object (members_of os)) ∷ fs)))) + 500
more_between es fs k os qs less =
    let a = length-object (es ++ (k, object (members_of qs)) ∷ fs) in
    let b = length-object (es ++ (k, object (members_of os)) ∷ fs) in
    let c = size-append es ((k, object (members_of qs)) ∷ fs) in
    let d = size-append es ((k, object (members_of os)) ∷ fs) in
    let e = size-cons k (object (members_of qs)) fs in
    let f = size-cons k (object (members_of os)) fs in
    let g = length-object qs in
    let h = length-object os in
    omega (arith, a, b, c, d, e, f, g, h, less)

numbered_more : (boot num born : ℕ) (x : ObjectView) → x.meta.resource_version ≡ None → x.meta.uid ≡ None → num < 2 ^ 64
    → length (text_of (document (numbered boot num born x))) ≤ length (text_of (document x)) + 500
numbered_more boot num born x no_number no_uid few =
    let es = before metadata_name (around_meta x) in
    let fs = after metadata_name (around_meta x) in
    let n = decimal num in
    let u = uid boot born in
    let digits = decimal_few num few in
    let more = more_between es fs metadata_name (others x.meta) (meta_with (others x.meta) n u) (meta_more (others x.meta) n u digits (uid_long boot born)) in
    let a : length (text_of (document (numbered boot num born x))) ≡ length (text_of (object (members_of (es ++ (metadata_name, object (members_of (meta_with (others x.meta) n u))) ∷ fs)))) =
    ap (λ (j : Json). length (text_of j)) (document-with x n u) in
    let b : length (text_of (document x)) ≡ length (text_of (object (members_of (es ++ (metadata_name, object (members_of (others x.meta))) ∷ fs)))) =
    ap (λ (j : Json). length (text_of j)) (document-bare x no_number no_uid) in
    omega (arith, a, b, more)

-- the weight of a value that isn't too large
light_chunks : (m : Meaning) (h : ObjectView) (w : ℕ) → IsLight m h → Weighs m h w → w ≤ 1024
light_chunks m h w light weighs =
    let few = light weighs.met.0 weighs.met.1 weighs.met.2 weighs.met.3 in
    let is = weighs.met.4 in
    omega (arith, few, is)

-- the text of a form of it
pub shown_few : (m : Meaning) (boot num born v w count : ℕ) (h x : ObjectView) → Stand m → IgnoresStamps m → IsOneToOne m → v < m.count → m.whole h → m.pair v h x → Weighs m h w → IsLight m h
    → h.meta.generation ≡ pos count → num < 2 ^ 64 → length (text_of (document (numbered boot num born x))) ≤ 263_000
shown_few m boot num born v w count h x stand ignores one known kept pairs weighs light counts few =
    let at : StandsAt m v x = stand.pair v h x known kept pairs in
    let generation = same_generation m v h x ignores one kept known pairs ∙ counts in
    let stored = stored_bytes m v w count h x stand kept known pairs weighs generation in
    let plain : length (stored_text x) ≡ length (text_of (document x)) = ap (λ (y : ObjectView). length (text_of (document y))) (unnumbered-itself m v x at) in
    let more = numbered_more boot num born x at.no_number at.no_uid few in
    let weight = light_chunks m h w light weighs in
    omega (arith, stored, plain, more, weight)
