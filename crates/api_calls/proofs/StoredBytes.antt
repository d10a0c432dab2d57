-- How many bytes a stored text has: stamps and a generation take no more than the measure gives them.
use Rattle.std.proofs.Common.{◌≡◌, ℕ, ◌+◌, ◌-◌, ◌*◌, ◌^◌, ◌<◌, ◌≤◌, List, [], ◌∷◌, ◌++◌, length, Option, Some, None, Bool, true, false, length-append, lit<, ap, refl, arith}
use Rattle.std.specs.Prelude.{ℤ, pos, map, if◌then◌else◌, codes, decimal, option_map, flat_map, IfSome, FitsSigned}
use Rattle.std.specs.Fmt.{digits}
use Rattle.std.specs.Int.{w64}
use Rattle.std.specs.Ordering.{nat_cmp, match_ordering, int_eq}
use Rattle.std.specs.declared.cmp.Ordering.{Ordering}
use Rattle.std.specs.declared.cmp.Ordering.TheVariants.{Less, Equal, Greater}
use Rattle.std.specs.Cmp.Lexicographic.{slice_cmp}
use Rattle.std.proofs.lemmas.Fmt.{length-decimal-le}
use Rattle.kj_value.specs.Json.{Json, whole, text, object, Members, no_members, member, members_of}
use Rattle.kj_value.specs.Text.{escaped_byte, quoted, text_of, members_text, more_members}
use Rattle.kj_value.specs.Fields.{Pairs, with_field}
use Rattle.kube_meta.specs.View.{MetaView, ObjectView}
use Rattle.kube_meta.specs.Document.{optional, some_text, some_texts, some_list, some_generation, metadata, document}
use Rattle.api_calls.specs.Meaning.{Meaning, Weighs, unnumbered, stored_text, stamped, longest_stamp, widest, chunks, measure}
use Rattle.api_calls.specs.Versions.{IsStamp, StandsAt, Stand, IgnoresStamps, IsOneToOne}

-- ---- fields

-- the bytes of an object's fields, each with a comma
abbrev size : Pairs → ℕ
size ps = length (more_members (members_of ps))

size-cons : (k : List ℕ) (j : Json) (ps : Pairs) → size ((k, j) ∷ ps) ≡ 2 + length (quoted k) + length (text_of j) + size ps
size-cons k j ps =
    let a = length-append (quoted k) (58 ∷ (text_of j ++ more_members (members_of ps))) in
    let b = length-append (text_of j) (more_members (members_of ps)) in
    omega (arith, a, b)

size-append : (ps qs : Pairs) → size (ps ++ qs) ≡ size ps + size qs
size-append [] qs = omega arith
size-append (p ∷ ps) qs =
    let a = size-cons p.0 p.1 (ps ++ qs) in
    let b = size-cons p.0 p.1 ps in
    let more = size-append ps qs in
    omega (arith, a, b, more)

length-members_text : (ms : Members) → length (members_text ms) ≡ length (more_members ms) - 1
length-members_text no_members = refl
length-members_text (member k j ms) = omega arith

length-object : (ps : Pairs) → length (text_of (object (members_of ps))) ≡ 2 + (size ps - 1)
length-object ps =
    let a = length-append (members_text (members_of ps)) (125 ∷ []) in
    let b = length-members_text (members_of ps) in
    omega (arith, a, b)

object_more : (ps qs : Pairs) → size ps ≤ size qs → length (text_of (object (members_of ps))) ≤ length (text_of (object (members_of qs)))
object_more ps qs h = let a = length-object ps in let b = length-object qs in omega (arith, h, a, b)

with_field_more : (k : List ℕ) (i j : Json) (ps : Pairs) → length (text_of i) ≤ length (text_of j) → size (with_field k i ps) ≤ size (with_field k j ps)
with_field_more k i j [] h = let a = size-cons k i [] in let b = size-cons k j [] in omega (arith, h, a, b)
with_field_more k i j (p ∷ ps) h = by (slice_cmp nat_cmp k p.0) (with_field_more k i j ps h)
  where
    by : (o : Ordering) → size (with_field k i ps) ≤ size (with_field k j ps)
        → size (match_ordering o ((k, i) ∷ p ∷ ps) ((p.0, i) ∷ ps) (p ∷ with_field k i ps)) ≤ size (match_ordering o ((k, j) ∷ p ∷ ps) ((p.0, j) ∷ ps) (p ∷ with_field k j ps))
    by Less more = let a = size-cons k i (p ∷ ps) in let b = size-cons k j (p ∷ ps) in omega (arith, h, a, b)
    by Equal more = let a = size-cons p.0 i ps in let b = size-cons p.0 j ps in omega (arith, h, a, b)
    by Greater more = let a = size-cons p.0 p.1 (with_field k i ps) in let b = size-cons p.0 p.1 (with_field k j ps) in omega (arith, more, a, b)

optional_more : (k : List ℕ) (i j : Json) → length (text_of i) ≤ length (text_of j) → size (optional k (Some i)) ≤ size (optional k (Some j))
optional_more k i j h = let a = size-cons k i [] in let b = size-cons k j [] in omega (arith, h, a, b)

-- ---- stamps and the generation

length-quoted : (s : List ℕ) → length (quoted s) ≡ 2 + length (flat_map escaped_byte s)
length-quoted s = let a = length-append (flat_map escaped_byte s) (34 ∷ []) in omega (arith, a)

stamp_more : (k : List ℕ) (o : Option (List ℕ)) → IfSome o IsStamp → size (optional k (option_map text o)) ≤ size (optional k (Some (text longest_stamp)))
stamp_more k None h = omega arith
stamp_more k (Some s) h =
    let a = length-quoted s in
    let b : length (flat_map escaped_byte s) ≡ length s = ap (λ (t : List ℕ). length t) h.plain in
    let c : length (quoted longest_stamp) ≡ 22 = refl in
    optional_more k (text s) (text longest_stamp) (omega (arith, a, b, c, h.bytes))

abbrev most : ℕ
most = 2 ^ 63 - 1

length-most : length (decimal most) ≡ 19
unfolding digits
length-most = refl

generation_more : (k : List ℕ) (n : ℕ) → n < 2 ^ 63 → size (optional k (some_generation (pos n))) ≤ size (optional k (some_generation (pos most)))
generation_more k n h = by (int_eq (pos n) (pos 0))
  where
    short : length (decimal n) ≤ 19
    short = length-decimal-le 19 n (lit< tt) (omega (arith, h)) (omega (arith, h))

    by : (b : Bool) → size (optional k (if b then None else Some (whole (pos n)))) ≤ size (optional k (Some (whole (pos most))))
    by true = omega arith
    by false = optional_more k (whole (pos n)) (whole (pos most)) (omega (arith, short, length-most))

-- ---- metadata

-- what neither a stamp nor the generation is
abbrev others : MetaView → ℕ
others m =
    size (optional (codes "annotations") (some_texts m.annotations))
    + size (optional (codes "finalizers") (some_list (map text m.finalizers)))
    + size (optional (codes "labels") (some_texts m.labels))
    + size (optional (codes "name") (some_text m.name))
    + size (optional (codes "namespace") (some_text m.namespace))
    + size (optional (codes "ownerReferences") (some_list m.owners))
    + size (optional (codes "resourceVersion") (option_map text m.resource_version))
    + size (optional (codes "uid") (option_map text m.uid))

sizes : (a c d f g l n s o r u : Pairs)
    → size (a ++ c ++ d ++ f ++ g ++ l ++ n ++ s ++ o ++ r ++ u) ≡ size c + size d + size g + (size a + size f + size l + size n + size s + size o + size r + size u)
sizes a c d f g l n s o r u =
    let p1 = size-append (a ++ c ++ d ++ f ++ g ++ l ++ n ++ s ++ o ++ r) u in
    let p2 = size-append (a ++ c ++ d ++ f ++ g ++ l ++ n ++ s ++ o) r in
    let p3 = size-append (a ++ c ++ d ++ f ++ g ++ l ++ n ++ s) o in
    let p4 = size-append (a ++ c ++ d ++ f ++ g ++ l ++ n) s in
    let p5 = size-append (a ++ c ++ d ++ f ++ g ++ l) n in
    let p6 = size-append (a ++ c ++ d ++ f ++ g) l in
    let p7 = size-append (a ++ c ++ d ++ f) g in
    let p8 = size-append (a ++ c ++ d) f in
    let p9 = size-append (a ++ c) d in
    let p10 = size-append a c in
    omega (arith, p1, p2, p3, p4, p5, p6, p7, p8, p9, p10)

size-metadata : (m : MetaView) → size (metadata m)
    ≡ size (optional (codes "creationTimestamp") (option_map text m.created)) + size (optional (codes "deletionTimestamp") (option_map text m.deleted))
    + size (optional (codes "generation") (some_generation m.generation)) + others m
unfolding metadata
size-metadata m = sizes
    (optional (codes "annotations") (some_texts m.annotations))
    (optional (codes "creationTimestamp") (option_map text m.created))
    (optional (codes "deletionTimestamp") (option_map text m.deleted))
    (optional (codes "finalizers") (some_list (map text m.finalizers)))
    (optional (codes "generation") (some_generation m.generation))
    (optional (codes "labels") (some_texts m.labels))
    (optional (codes "name") (some_text m.name))
    (optional (codes "namespace") (some_text m.namespace))
    (optional (codes "ownerReferences") (some_list m.owners))
    (optional (codes "resourceVersion") (option_map text m.resource_version))
    (optional (codes "uid") (option_map text m.uid))

abbrev widest_meta : MetaView → MetaView
widest_meta m = record m { created = Some longest_stamp; deleted = Some longest_stamp; generation = pos most }

metadata_more : (m : MetaView) → IfSome m.created IsStamp → IfSome m.deleted IsStamp → (n : ℕ) → n < 2 ^ 63 → m.generation ≡ pos n
    → size (metadata m) ≤ size (metadata (widest_meta m))
metadata_more m created deleted n small is =
    let a = size-metadata m in
    let b = size-metadata (widest_meta m) in
    let c = stamp_more (codes "creationTimestamp") m.created created in
    let d = stamp_more (codes "deletionTimestamp") m.deleted deleted in
    let g = generation_more (codes "generation") n small in
    let e = ap (λ (z : ℤ). size (optional (codes "generation") (some_generation z))) is in
    omega (arith, a, b, c, d, g, e)

-- ---- documents

document_more : (x y : ObjectView) → x.api_version ≡ y.api_version → x.kind ≡ y.kind → x.body ≡ y.body
    → size (metadata x.meta) ≤ size (metadata y.meta) → length (text_of (document x)) ≤ length (text_of (document y))
unfolding document
document_more x y api kind body h =
    object_more _ _ (same (with_field (codes "kind") (text x.kind) (with_field (codes "apiVersion") (text x.api_version) x.body))
    (with_field (codes "kind") (text y.kind) (with_field (codes "apiVersion") (text y.api_version) y.body))
    (λ i. with_field (codes "kind") (text (kind i)) (with_field (codes "apiVersion") (text (api i)) (body i))))
  where
    same : (ps qs : Pairs) → ps ≡ qs → size (with_field (codes "metadata") (object (members_of (metadata x.meta))) ps) ≤ size (with_field (codes "metadata") (object (members_of (metadata y.meta))) qs)
    same ps qs e = rw e (with_field_more (codes "metadata") (object (members_of (metadata x.meta))) (object (members_of (metadata y.meta))) qs (object_more (metadata x.meta) (metadata y.meta) h))

within_measure : (m : Meaning) (v n : ℕ) (x : ObjectView) → StandsAt m v x → x.meta.generation ≡ pos n → length (stored_text x) ≤ measure x
within_measure m v n x s is =
    let fits : FitsSigned w64 (pos n) = rw (← is) s.stamps.generation in
    document_more (unnumbered x) (unnumbered (widest x)) refl refl refl
    (metadata_more (unnumbered x).meta s.stamps.created s.stamps.deleted n (omega (arith, fits.sfits)) is)

in_chunks : (n w : ℕ) → chunks n ≤ w → n ≤ 256 * w
in_chunks n w h = omega (arith, h)

pub stored_bytes : (m : Meaning) (v w n : ℕ) (h x : ObjectView) → Stand m → m.whole h → v < m.count → m.pair v h x → Weighs m h w → x.meta.generation ≡ pos n
    → length (stored_text x) ≤ 256 * w
stored_bytes m v w n h x stand is known pairs weighs counts =
    let within = within_measure m v n x (stand.pair v h x known is pairs) counts in
    let most = in_chunks (measure x) w (weighs.within v x known pairs) in
    omega (arith, within, most)

-- the form of a hub value has its generation, since the form with the hub value's stamps and generation pairs with it too
pub same_generation : (m : Meaning) (v : ℕ) (h x : ObjectView) → IgnoresStamps m → IsOneToOne m → m.whole h → v < m.count → m.pair v h x → x.meta.generation ≡ h.meta.generation
same_generation m v h x ignores one is known pairs =
    ap (λ (o : ObjectView). o.meta.generation) (one.function v h x (stamped x h.meta.created h.meta.deleted h.meta.generation) known is pairs
    (ignores.pair v h x h.meta.created h.meta.deleted h.meta.generation pairs))
