-- A document has one value at a version, and none where it is refused.
use Rattle.std.proofs.Common.{◌≡◌, ◌∙◌, ℕ, ◌∷◌, Bool, true, false, Option, Some, None, refl, ap, ap₂, sym, subst}
use Rattle.std.specs.Prelude.{slice_get, ◌==◌, if◌then◌else◌, option_map}
use Rattle.std.proofs.lemmas.List.{append_cancel_left}
use Rattle.kj_value.specs.Json.{Json, object, members_of}
use Rattle.kj_value.specs.Fields.{Pairs}
use Rattle.kj_value.specs.KindLaws.{pairs_members}
use Rattle.kube_meta.specs.View.{ObjectView}
use Rattle.object_reading.specs.Fields.{pairs_of}
use Rattle.struct_schema.specs.Shape.{Shape}
use Rattle.struct_schema.specs.Filled.{Filled}
use Rattle.struct_schema.specs.Fault as check
use Rattle.api_calls.specs.Cause.{CauseView}
use Rattle.api_calls.specs.Meaning.{Fault}
use Rattle.hub_cells.specs.Level.{Name}
use Rattle.keep_laws.specs.Spokes.{Spoke, slash, api_version}
use Rattle.keep_laws.specs.WholeHub.{IsWholeHub}
use Rattle.crd_meaning.specs.Definition.{Definition, Seat, at_hub, at_spoke, nowhere, spoke_seat, spoke_place, seat, version_at, IsLoaded}
use Rattle.crd_meaning.specs.Objects.{PairsAt, IsFormAt}
use Rattle.crd_meaning.specs.Admission.{IsFilling, LeftAt}
use Rattle.crd_meaning.specs.Refusal.{cause_at}
use Rattle.crd_meaning.specs.Given.{Given}
use Rattle.crd_meaning.specs.Document.{early, IsGiven}
use Rattle.crd_meaning.specs.Converted.{schema_at, IsPassed, IsUnreadDocument, IsOneWith, document_with, metadata_in, IsConverted}
use Rattle.crd_meaning.specs.Unconverted.{IsBrokenDocument, IsBadlyKeptDocument, IsUnconverted, is_early, is_broken, badly_kept}
use Rattle.crd_meaning.proofs.Versions.{one_version}

-- ---- fields of an object

object_one : (es fs : Pairs) → object (members_of es) ≡ object (members_of fs) → es ≡ fs
object_one es fs e =
    let same : members_of es ≡ members_of fs = cc in
    sym (pairs_members es) ∙ ap pairs_of same ∙ pairs_members fs

-- ---- the version

name_one : (group n m : Name) → api_version group n ≡ api_version group m → n ≡ m
name_one group n m e = tail_one slash slash n m (append_cancel_left group (slash ∷ n) (slash ∷ m) e)
  where
    tail_one : (a b : ℕ) (x y : Name) → a ∷ x ≡ b ∷ y → x ≡ y
    tail_one a b x y p = cc

-- ---- where a spoke stands

place_of : (d : Definition) (v : ℕ) (s : Spoke) → seat d v ≡ at_spoke s → (p : ℕ) × (slice_get d.spokes.items p ≡ Some s)
place_of d v s e = by_hub (v == d.hub) e
  where
    spoke_one : (t : Spoke) → at_spoke t ≡ at_spoke s → t ≡ s
    spoke_one t q = cc

    by_spoke : (o : Option Spoke) → slice_get d.spokes.items (spoke_place d.hub v) ≡ o → spoke_seat o ≡ at_spoke s → (p : ℕ) × (slice_get d.spokes.items p ≡ Some s)
    by_spoke None p q = absurd (cc)
    by_spoke (Some t) p q = (spoke_place d.hub v, p ∙ ap Some (spoke_one t q))

    by_hub : (b : Bool) → (if b then at_hub else spoke_seat (slice_get d.spokes.items (spoke_place d.hub v))) ≡ at_spoke s → (p : ℕ) × (slice_get d.spokes.items p ≡ Some s)
    by_hub true q = absurd (cc)
    by_hub false q = by_spoke (slice_get d.spokes.items (spoke_place d.hub v)) refl q

module _ (known : Given) (d : Definition) (loaded : IsLoaded d) where
  taken_one : (j : Json) (v w : ℕ) (x y : ObjectView) → IsGiven d j v x → IsGiven d j w y → (v ≡ w) × (x ≡ y)
  taken_one j v w x y a b =
      let same : x ≡ y = a.object ∙ sym b.object in
      let version = sym a.version ∙ ap (λ (z : ObjectView). z.api_version) same ∙ b.version in
      (one_version d loaded v w a.known b.known (name_one d.view.group (version_at d v).name (version_at d w).name version), same)

  filling_one : (s : Shape) (x y k l : Pairs) → x ≡ y → IsFilling s x k → IsFilling s y l → k ≡ l
  filling_one s x y k l e f g =
      let other : Filled s (object (members_of x)) (object (members_of l)) = subst (λ (b : Pairs). Filled s (object (members_of b)) (object (members_of l))) (sym e) g.filled in
      object_one k l (known.filling s (object (members_of x)) (object (members_of k)) (object (members_of l)) f.sound g.sound f.filled other)

  passed_one : (j : Json) (v w : ℕ) (x y : ObjectView) → IsPassed d j v x → IsPassed d j w y → (v ≡ w) × (x ≡ y)
  passed_one j v w x y a b =
      let t = taken_one j v w a.taken b.taken a.is b.is in
      let filling : IsFilling (schema_at d v) b.taken.body y.body = subst (λ (u : ℕ). IsFilling (schema_at d u) b.taken.body y.body) (sym t.0) b.filling in
      let k = filling_one (schema_at d v) a.taken.body b.taken.body x.body y.body (ap (λ (z : ObjectView). z.body) t.1) a.filling filling in
      (t.0, a.rest ∙ ap₂ (λ (z : ObjectView) (body : Pairs). record z { body = body }) t.1 k ∙ sym b.rest)

  -- ---- at one seat

  left_at : (z : Seat) → ((s : Spoke) → z ≡ at_spoke s → (p : ℕ) × (slice_get d.spokes.items p ≡ Some s)) → (x y w : ObjectView) → LeftAt d.spokes z x y → LeftAt d.spokes z x w → y ≡ w
  left_at at_hub place x y w a b = known.left_at_hub d.spokes x y w a b
  left_at (at_spoke s) place x y w a b =
      let here = place s refl in
      known.left d.spokes here.0 s loaded.definition here.1 x y w a b
  left_at nowhere place x y w a b = absurd a

  hub_at : (z : Seat) → ((s : Spoke) → z ≡ at_spoke s → (p : ℕ) × (slice_get d.spokes.items p ≡ Some s)) → (g h x : ObjectView) → IsWholeHub d.spokes g → IsWholeHub d.spokes h → PairsAt d.spokes z g x → PairsAt d.spokes z h x → g ≡ h
  hub_at at_hub place g h x v w a b = sym a ∙ b
  hub_at (at_spoke s) place g h x v w a b =
      let here = place s refl in
      known.hub d.spokes here.0 s loaded.definition here.1 x g h v.object w.object (known.settled d.spokes here.0 s loaded.definition here.1 x g a.0 v a.1) a.1 b.1
  hub_at nowhere place g h x v w a b = absurd a

  form_at : (z : Seat) → ((s : Spoke) → z ≡ at_spoke s → (p : ℕ) × (slice_get d.spokes.items p ≡ Some s)) → (h x y : ObjectView) → IsWholeHub d.spokes h → PairsAt d.spokes z h x → PairsAt d.spokes z h y → x ≡ y
  form_at at_hub place h x y w a b = a ∙ sym b
  form_at (at_spoke s) place h x y w a b =
      let here = place s refl in
      known.spoke d.spokes here.0 s loaded.definition here.1 x y h a.0 b.0 w a.1 b.1
  form_at nowhere place h x y w a b = absurd a

  one_with : (v w : ℕ) (x y z : ObjectView) → IsOneWith d v x w y → IsOneWith d v x w z → y ≡ z
  one_with v w x y z a b =
      let left = left_at (seat d v) (place_of d v) x a.left b.left a.settles b.settles in
      let from : IsFormAt d v a.hub b.left = subst (λ (u : ObjectView). IsFormAt d v a.hub u) left a.from in
      let hub = hub_at (seat d v) (place_of d v) a.hub b.hub b.left a.whole b.whole from b.from in
      let to : IsFormAt d w b.hub y = subst (λ (u : ObjectView). IsFormAt d w u y) hub a.to in
      form_at (seat d w) (place_of d w) b.hub y z b.whole to b.to

  -- ---- one value

  pub one : (j : Json) (to : ℕ) (k l : Json) → IsConverted d j to k → IsConverted d j to l → k ≡ l
  one j to k l a b =
      let t = passed_one j a.version b.version a.object b.object a.passed b.passed in
      let other : IsOneWith d a.version a.object to b.form = subst (λ (x : ObjectView). IsOneWith d a.version x to b.form) (sym t.1) (subst (λ (v : ℕ). IsOneWith d v b.object to b.form) (sym t.0) b.one) in
      a.document ∙ ap (document_with (metadata_in j)) (one_with a.version to a.object a.form b.form a.one other) ∙ sym b.document

  -- ---- not both

  excludes_early : (j : Json) (f : Fault) → early d j ≡ None → early d j ≡ Some f → ⊥
  excludes_early j f a b = lies (sym a ∙ b)
    where
      lies : None ≡ Some f → ⊥
      lies e = cc

  excludes_broken : (j : Json) (v : ℕ) (x : ObjectView) (f : Fault) → IsPassed d j v x → IsBrokenDocument d j f → ⊥
  excludes_broken j v x f a b =
      let t = taken_one j v b.version a.taken b.object a.is b.taken in
      let filling : IsFilling (schema_at d b.version) b.object.body x.body = subst (λ (y : ObjectView). IsFilling (schema_at d b.version) y.body x.body) t.1 (subst (λ (u : ℕ). IsFilling (schema_at d u) a.taken.body x.body) t.0 a.filling) in
      let valid = subst (λ (u : ℕ). check.fault (schema_at d u) (object (members_of x.body)) ≡ None) t.0 a.valid in
      lies b.cause (sym (ap (option_map cause_at) valid) ∙ b.broken x.body filling)
    where
      lies : (c : CauseView) → None ≡ Some c → ⊥
      lies c e = cc

  excludes_kept : (j : Json) (v : ℕ) (x : ObjectView) (f : Fault) → IsPassed d j v x → ((k : Name) → IsUnreadDocument d v x k → ⊥) → IsBadlyKeptDocument d j f → ⊥
  excludes_kept j v x f a r b =
      let t = passed_one j v b.version x b.object a b.passed in
      r b.key (subst (λ (u : ℕ). IsUnreadDocument d u x b.key) (sym t.0) (subst (λ (y : ObjectView). IsUnreadDocument d b.version y b.key) (sym t.1) b.unread))

  pub excludes : (j : Json) (to : ℕ) (k : Json) (f : Fault) → IsConverted d j to k → IsUnconverted d j f → ⊥
  excludes j to k f a (is_early e) = excludes_early j f a.passed.is.nothing e
  excludes j to k f a (is_broken b) = excludes_broken j a.version a.object f a.passed b
  excludes j to k f a (badly_kept b) = excludes_kept j a.version a.object f a.passed a.read b
