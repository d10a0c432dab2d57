-- The form of a hub value has its stamps and its finalizers.
use Rattle.std.proofs.Common.{◌≡◌, ◌∙◌, ℕ, ◌<◌, List, Option, Some, Bool, true, false, ap, sym, refl}
use Rattle.std.specs.Prelude.{IsTrue}
use Rattle.kube_meta.specs.View.{ObjectView}
use Rattle.api_calls.specs.Meaning.{Meaning, stamped}
use Rattle.api_calls.specs.Objects.{marked}
use Rattle.api_calls.specs.Values.{has_finalizer, is_marked}
use Rattle.api_calls.specs.Versions.{IgnoresStamps, IsOneToOne, IsStamp, IsStored, KeepsFinalizers, Stand}
use Rattle.write_texts.specs.inner.Marking.{HoldsAs}

same-deleted : (m : Meaning) (v : ℕ) (h x : ObjectView) → IsOneToOne m → IgnoresStamps m → v < m.count → m.whole h → m.pair v h x → x.meta.deleted ≡ h.meta.deleted
same-deleted m v h x one ignores known whole pair =
    let again = ignores.pair v h x h.meta.created h.meta.deleted h.meta.generation pair in
    ap (λ (y : ObjectView). y.meta.deleted)
    (one.function v h x (stamped x h.meta.created h.meta.deleted h.meta.generation) known whole pair again)

-- what the form tells is told of the value
pub holds-as : (m : Meaning) (v : ℕ) (h : ObjectView) (bytes : List ℕ) (held marked : Bool) (s : IsStored m v h bytes)
    → (IsTrue m.honest → IsOneToOne m) → IgnoresStamps m → (IsTrue m.honest → KeepsFinalizers m)
    → held ≡ has_finalizer s.form → marked ≡ is_marked s.form → HoldsAs m h held marked
holds-as m v h bytes held marked s one ignores keeps is_held is_stamped = by m.honest refl
  where
    by : (b : Bool) → m.honest ≡ b → HoldsAs m h held marked
    by true honest =
        let fs = (keeps honest).same v h s.form s.known s.whole s.pairs in
        let ds = same-deleted m v h s.form (one honest) ignores s.known s.whole s.pairs in
        record {
          old = h;
          takes = λ _. refl;
          holds = ap (λ (x : List (List ℕ)). has_finalizer (record h { meta = record h.meta { finalizers = x } })) (sym fs) ∙ sym is_held;
          ends = ap (λ (x : Option (List ℕ)). is_marked (record h { meta = record h.meta { deleted = x } })) (sym ds) ∙ sym is_stamped;
        }
    by false no_meaning = record {
      old = s.form;
      takes = λ honest. let both : true ≡ false = sym honest ∙ no_meaning in cc;
      holds = sym is_held;
      ends = sym is_stamped;
    }

-- a whole value with a deletion stamp is whole
pub whole-marked : (m : Meaning) (h : ObjectView) (stamp : List ℕ) → Stand m → IgnoresStamps m → m.whole h → IsStamp stamp → m.whole (marked stamp h)
whole-marked m h stamp stand ignores whole is =
    let stamps = (stand.whole h whole).stamps in
    ignores.whole h h.meta.created (Some stamp) h.meta.generation (record { created = stamps.created; deleted = is; generation = stamps.generation }) whole
