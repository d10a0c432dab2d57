-- Each body that is taken of a request or a document has a filling.
use Rattle.std.proofs.Common.{◌≡◌, ◌∙◌, ℕ, zero, suc, ◌<◌, List, [], ◌∷◌, length, Bool, true, false, cond, Option, Ordering, Less, Equal, Greater, nat_cmp, is_eq, refl, ap, sym, subst, arith}
use Rattle.std.specs.Cmp.Lexicographic.{slice_cmp}
use Rattle.std.proofs.lemmas.Cmp.{nat_list_cmp_total}
use Rattle.std.specs.Prelude.{MatchBool, slice_index_or, codes}
use Rattle.kj_value.specs.Json.{Json, null, boolean, whole, text, list, object, Members, members_of}
use Rattle.kj_value.specs.Sound.{ComesFirst, IsSoundJson, AreRising}
use Rattle.kj_value.specs.Fields.{Pairs, without_field}
use Rattle.kj_value.specs.KindLaws.{members_pairs}
use Rattle.kube_meta.specs.View.{ObjectView}
use Rattle.object_reading.specs.Fields.{pairs_of}
use Rattle.object_reading.specs.Parts.{body_in, object_in}
use Rattle.struct_schema.specs.Shape.{Own, Shape, shape, MaybeShapes, MaybeShape}
use Rattle.struct_schema.specs.Filled.{Filled, NameFilled, RestFilled, AtEachName, is_object}
use Rattle.prune_default.specs.SoundDefaults.{HasSoundDefaults}
use Rattle.crd_reading.specs.View.{VersionView}
use Rattle.api_calls.specs.Meaning.{Request}
use Rattle.crd_meaning.specs.Definition.{Definition, IsLoaded, no_version, version_at}
use Rattle.crd_meaning.specs.Request.{IsTaken}
use Rattle.crd_meaning.specs.Admission.{schema_of, IsFilling}
use Rattle.crd_meaning.specs.Given.{Given}
use Rattle.crd_meaning.proofs.ReadSound.{reads_sound}

-- ---- the body of a value is one

comes_first-tail : (l : List ℕ) (e : List ℕ × Json) (es : Pairs) → ComesFirst l (members_of (e ∷ es)) → AreRising (members_of (e ∷ es)) → ComesFirst l (members_of es)
comes_first-tail l e [] p h = tt
comes_first-tail l e (f ∷ es) p h = nat_list_cmp_total.trans l e.0 f.0 p h.0

comes_first-without : (l k : List ℕ) (es : Pairs) → ComesFirst l (members_of es) → AreRising (members_of es) → ComesFirst l (members_of (without_field k es))
comes_first-without l k [] p h = tt
comes_first-without l k (e ∷ es) p h = by_order (slice_cmp nat_cmp k e.0)
  where
    by_order : (o : Ordering) → ComesFirst l (members_of (cond (is_eq o) es (e ∷ without_field k es)))
    by_order Less = p
    by_order Equal = comes_first-tail l e es p h
    by_order Greater = p

rising-without : (k : List ℕ) (es : Pairs) → AreRising (members_of es) → AreRising (members_of (without_field k es))
rising-without k [] h = tt
rising-without k (e ∷ es) h = by_order (rising-without k es h.2) (slice_cmp nat_cmp k e.0)
  where
    by_order : AreRising (members_of (without_field k es)) → (o : Ordering) → AreRising (members_of (cond (is_eq o) es (e ∷ without_field k es)))
    by_order r Less = (comes_first-without e.0 k es h.0 h.2, h.1, r)
    by_order r Equal = h.2
    by_order r Greater = (comes_first-without e.0 k es h.0 h.2, h.1, r)

body_sound : (es : Pairs) → AreRising (members_of es) → AreRising (members_of (body_in es))
body_sound es h =
    rising-without (codes "apiVersion") (without_field (codes "kind") (without_field (codes "metadata") es)) (rising-without (codes "kind") (without_field (codes "metadata") es) (rising-without (codes "metadata") es h))

pub object_sound : (j : Json) → IsSoundJson j → AreRising (members_of (object_in j).body)
object_sound null h = body_sound [] tt
object_sound (boolean b) h = body_sound [] tt
object_sound (whole z) h = body_sound [] tt
object_sound (text s) h = body_sound [] tt
object_sound (list js) h = body_sound [] tt
object_sound (object ms) h = body_sound (pairs_of ms) (subst AreRising (sym (members_pairs ms)) h)

-- ---- what an object becomes is an object

is_an_object : (o : Own) (ps : MaybeShapes) (a i : MaybeShape) (ms : Members) (k : Json) → Filled (shape o ps a i) (object ms) k → (ns : Members) × (k ≡ object ns)
is_an_object o ps a i ms k h = by_kind (is_object o.kind) k h
  where
    by_kind : (b : Bool) (k : Json) → MatchBool b (AtEachName (NameFilled ps (RestFilled a o.preserve)) ms k) (k ≡ object ms) → (ns : Members) × (k ≡ object ns)
    by_kind true null h = absurd h
    by_kind true (boolean b) h = absurd h
    by_kind true (whole z) h = absurd h
    by_kind true (text s) h = absurd h
    by_kind true (list js) h = absurd h
    by_kind true (object ns) h = (ns, refl)
    by_kind false k h = (ms, h)

pub filling_of : (s : Shape) (x : Pairs) → ((k : Json) × Filled s (object (members_of x)) k × IsSoundJson k) → (k : Pairs) × IsFilling s x k
filling_of (shape o ps a i) x (k, filled, sound) =
    let is = is_an_object o ps a i (members_of x) k filled in
    let same : k ≡ object (members_of (pairs_of is.0)) = is.1 ∙ ap object (sym (members_pairs is.0)) in (
      pairs_of is.0,
      record {
        filled = subst (Filled (shape o ps a i) (object (members_of x))) same filled;
        sound = subst IsSoundJson same sound;
      },
    )

-- ---- the defaults of each version

pub sound_at : (vs : List VersionView) (v : ℕ) → ((w : ℕ) → w < length vs → HasSoundDefaults (slice_index_or vs w no_version).schema) → HasSoundDefaults (slice_index_or vs v no_version).schema
sound_at [] v h = (tt, tt, tt, tt)
sound_at (w ∷ vs) zero h = h 0 (omega arith)
sound_at (w ∷ vs) (suc v) h = sound_at vs v (λ u p. h (suc u) (omega (arith, p)))

pub version_sound : (d : Definition) → IsLoaded d → (v : ℕ) → HasSoundDefaults (version_at d v).schema
version_sound d loaded v = sound_at d.view.versions v (λ w p. (loaded.roots w p).sound)

module _ (known : Given) (d : Definition) (sound : (v : ℕ) → HasSoundDefaults (version_at d v).schema) where
  pub filled_body : (v : ℕ) (x : Pairs) → AreRising (members_of x) → (k : Pairs) × IsFilling (version_at d v).schema x k
  filled_body v x h =
      filling_of (version_at d v).schema x (known.fills (version_at d v).schema (object (members_of x)) (sound v) h)

  pub taken_filled : (r : Request) (x : ObjectView) (e : Option ℕ) → IsTaken d r x e → (k : Pairs) × IsFilling (schema_of d r) x.body k
  taken_filled r x e t =
      let rising = object_sound t.value (reads_sound r.bytes _ t.value t.reads) in
      let body : x.body ≡ (object_in t.value).body = ap (λ (y : ObjectView). y.body) t.object in
      filled_body r.version x.body (subst (λ (b : Pairs). AreRising (members_of b)) (sym body) rising)
