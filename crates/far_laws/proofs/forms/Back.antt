-- Step by step, what a form comes to that is given back.
use Rattle.std.proofs.Common.{◌≡◌, ◌∙◌, refl, sym, ap, ap₂, subst, ℕ, ◌<◌, ◌≤◌, List, Option, None, Some, arith}
use Rattle.std.specs.Prelude.{IsUtf8, pos, slice_get}
use Rattle.kj_value.specs.Json.{Json, depth, object, members_of}
use Rattle.kj_value.specs.Fields.{Pairs}
use Rattle.kj_value.specs.KindLaws.{pairs_members}
use Rattle.kj_value.specs.Reading.{Reads}
use Rattle.kj_value.specs.Sound.{AreRising, IsSoundJson}
use Rattle.kj_value.specs.Text.{text_of}
use Rattle.kj_value.specs.declared.reading.TheConstants.{MAX_JSON_LEVELS}
use Rattle.kube_meta.specs.Document.{document}
use Rattle.kube_meta.specs.View.{ObjectView}
use Rattle.object_reading.specs.Fields.{object_at}
use Rattle.object_reading.specs.Parts.{object_in, submitted, whole_in}
use Rattle.object_reading.specs.Written.{IsBody, IsWritable}
use Rattle.struct_schema.specs.Filled.{Filled}
use Rattle.struct_schema.specs.Shape.{Shape}
use Rattle.api_calls.specs.Meaning.{Request}
use Rattle.api_calls.specs.Versions.{AreStamps, IgnoresStamps, Stand, StandsAt}
use Rattle.api_calls.specs.declared.versions.TheConstants.{OBJECT_LEVELS}
use Rattle.keep_laws.specs.Settling.{SettlesAtHub, SettlesAtSpoke}
use Rattle.keep_laws.specs.Spokes.{IsDefinition, Spoke, Spokes}
use Rattle.keep_laws.specs.WholeHub.{IsSettledAt, IsWholeHub}
use Rattle.crd_meaning.specs.Admission.{Admits, IsHubOf, LeftAt, Passes, schema_of}
use Rattle.crd_meaning.specs.Definition.{Definition, IsLoaded, IsSeated, Seat, at_hub, at_spoke, count_of, nowhere, seat, version_at}
use Rattle.crd_meaning.specs.Given.{Given}
use Rattle.crd_meaning.specs.Meant.{meant}
use Rattle.crd_meaning.specs.Objects.{IsFormAt, IsWholeValue, PairsAt}
use Rattle.crd_meaning.specs.Request.{IsTaken, expected_of, placed}
use Rattle.crd_meaning.proofs.Seats.{first_spoke, hub_is, seat_place}
use Rattle.far_laws.specs.GivenBack.{IsLike, bare, number_of, unstamped}

-- what other crates promise
pub record Laws (d : Definition) : Type 0 where
  pub reading : (bytes : List ℕ) (m n : ℕ) (j k : Json) → Reads bytes m j → Reads bytes n k → j ≡ k
  pub text_reads : (j : Json) → IsSoundJson j → depth j ≤ MAX_JSON_LEVELS → IsUtf8 (text_of j) → Reads (text_of j) (depth j) j
  pub reads_back : (x : ObjectView) → IsWritable x → whole_in (document x) ≡ x
  pub stand : Stand (meant d)
  pub unstamped : IgnoresStamps (meant d)
  pub hub_one : (v : ℕ) (x g h : ObjectView) → IsHubOf d v x g → IsHubOf d v x h → g ≡ h
  pub stays : (all : Spokes) (v : ℕ) (s : Spoke) → IsDefinition all → slice_get all.items v ≡ Some s → (x : ObjectView) → IsSettledAt all s x → SettlesAtSpoke all s x x
  pub stays_at_hub : (all : Spokes) → IsDefinition all → (h : ObjectView) → IsWholeHub all h → SettlesAtHub all h h

-- an object without number and uid
pub plain_meta : (x : ObjectView) → x.meta.resource_version ≡ None → x.meta.uid ≡ None → bare x ≡ unstamped x
plain_meta x no_number no_uid =
    ap₂ (λ (number uid : Option (List ℕ)). record x { meta = record x.meta { created = None; deleted = None; generation = pos 0; resource_version = number; uid = uid } })
    (sym no_number) (sym no_uid)

abbrev pub at_ns : List ℕ → ObjectView → ObjectView
at_ns ns x = record x { meta = record x.meta { namespace = ns } }

fields_one : (x y : Pairs) → object (members_of x) ≡ object (members_of y) → x ≡ y
fields_one x y same = sym (pairs_members x) ∙ ap (λ (j : Json). object_at (Some j)) same ∙ pairs_members y

module _ (d : Definition) (loaded : IsLoaded d) (given : Given) (laws : Laws d) where
  -- ---- the body of a form is filled

  pub record IsOwnFilling (s : Shape) (x : Pairs) : Type 0 where
    pub filled : Filled s (object (members_of x)) (object (members_of x))
    pub sound : AreRising (members_of x)

  pub filled_at : (v : ℕ) (h x : ObjectView) → v < count_of d → IsWholeValue d h → (z : Seat) → seat d v ≡ z → IsSeated (version_at d v) z → PairsAt d.spokes z h x
      → IsOwnFilling (version_at d v).schema x.body
  filled_at v h x known w at_hub e q p =
      let f = first_spoke d.spokes.items (subst (λ (n : ℕ). 2 ≤ n) (sym loaded.spokes) loaded.few.0) in
      let body = f.2 h.body w.hub.body in
      let schema : f.0.fit.hub ≡ (version_at d v).schema = loaded.to_hub 0 f.0 f.1 ∙ ap (λ (u : ℕ). (version_at d u).schema) (sym (hub_is d v e)) in
      subst (λ (y : ObjectView). IsOwnFilling (version_at d v).schema y.body) (sym p)
      (record {
        filled = subst (λ (s : Shape). Filled s (object (members_of h.body)) (object (members_of h.body))) schema body.filled;
        sound = w.hub.object.body;
      })
  filled_at v h x known w (at_spoke s) e q p =
      let place = seat_place d v s e in
      let settled = given.settled d.spokes place.at s loaded.definition place.found x h p.0 w.hub p.1 in
      record {
        filled = subst (λ (t : Shape). Filled t (object (members_of x.body)) (object (members_of x.body))) q.schema settled.body.filled;
        sound = p.0.body;
      }
  filled_at v h x known w nowhere e q p = absurd p

  -- ---- a form settles to itself

  settles_at : (v : ℕ) (h x : ObjectView) → IsWholeValue d h → (z : Seat) → seat d v ≡ z → PairsAt d.spokes z h x → LeftAt d.spokes z x x
  settles_at v h x w at_hub e p = subst (λ (y : ObjectView). SettlesAtHub d.spokes y y) (sym p) (laws.stays_at_hub d.spokes loaded.definition h w.hub)
  settles_at v h x w (at_spoke s) e p =
      let place = seat_place d v s e in
      laws.stays d.spokes place.at s loaded.definition place.found x (given.settled d.spokes place.at s loaded.definition place.found x h p.0 w.hub p.1)
  settles_at v h x w nowhere e p = absurd p

  pub no_stamps : AreStamps None None (pos 0)
  no_stamps = record { created = tt; deleted = tt; generation = omega arith }

  pub hub_of_form : (v : ℕ) (h x : ObjectView) → IsWholeValue d h → IsFormAt d v h x → IsHubOf d v (unstamped x) (unstamped h)
  hub_of_form v h x w p =
      let whole = laws.unstamped.whole h None None (pos 0) no_stamps w in
      let pairs = laws.unstamped.pair v h x None None (pos 0) p in
      record { left = unstamped x; settles = settles_at v (unstamped h) (unstamped x) whole (seat d v) refl pairs; whole = whole; pairs = pairs }

  -- ---- the object that the request gives

  taken_is : (r : Request) (t x y : ObjectView) (e : Option ℕ) → IsTaken d r t e → IsWritable y → IsLike y x → r.ns ≡ x.meta.namespace → r.bytes ≡ text_of (document y)
      → (t ≡ bare x) × (e ≡ number_of y)
  taken_is r t x y e is writable like ns spelled =
      let reads : Reads (text_of (document y)) OBJECT_LEVELS is.value = subst (λ (bytes : List ℕ). Reads bytes OBJECT_LEVELS is.value) spelled is.reads in
      let back = laws.text_reads (document y) like.sound like.levels reads.1.0 in
      let value : is.value ≡ document y = laws.reading (text_of (document y)) OBJECT_LEVELS (depth (document y)) is.value (document y) reads back in
      let read : object_in is.value ≡ submitted y = ap object_in value ∙ ap submitted (laws.reads_back y writable) in
      (is.object ∙ ap (placed r.ns) read ∙ ap (at_ns r.ns) like.same ∙ ap (λ (s : List ℕ). at_ns s (bare x)) ns, is.number ∙ ap expected_of read)

  object_is : (r : Request) (o x : ObjectView) (e : Option ℕ) → (p : Passes d r o e) → p.taken ≡ bare x → IsOwnFilling (schema_of d r) x.body → o ≡ bare x
  object_is r o x e p taken own =
      let filled : Filled (schema_of d r) (object (members_of x.body)) (object (members_of o.body)) =
      subst (λ (t : ObjectView). Filled (schema_of d r) (object (members_of t.body)) (object (members_of o.body))) taken p.filling.filled in
      let body : o.body ≡ x.body =
      fields_one o.body x.body (given.filling (schema_of d r) (object (members_of x.body)) (object (members_of o.body)) (object (members_of x.body)) p.filling.sound own.sound filled own.filled) in
      p.rest ∙ ap₂ (λ (t : ObjectView) (b : Pairs). record t { body = b }) taken body

  pub back : (v : ℕ) (h g x y : ObjectView) (r : Request) (e : Option ℕ) → v < count_of d → IsWholeValue d h → IsFormAt d v h x → IsLike y x → r.version ≡ v → r.ns ≡ x.meta.namespace
      → r.bytes ≡ text_of (document y) → Admits d r g e → (g ≡ unstamped h) × (e ≡ number_of y)
  back v h g x y r e known w p like at ns spelled a =
      let stands : StandsAt (meant d) v x = laws.stand.pair v h x known w p in
      let body_same : y.body ≡ x.body = ap (λ (z : ObjectView). z.body) like.same in
      let writable : IsWritable y = record { body = subst IsBody (sym body_same) stands.body; created = like.created; deleted = like.deleted } in
      let taken = taken_is r a.passes.taken x y e a.passes.is writable like ns spelled in
      let own : IsOwnFilling (schema_of d r) x.body = subst (λ (u : ℕ). IsOwnFilling (version_at d u).schema x.body) (sym at) (filled_at v h x known w (seat d v) refl (loaded.seats v known) p) in
      let object : a.object ≡ unstamped x = object_is r a.object x e a.passes taken.0 own ∙ plain_meta x stands.no_number stands.no_uid in
      let hub_given : IsHubOf d v (unstamped x) g = subst (λ (z : ObjectView). IsHubOf d v z g) object (subst (λ (u : ℕ). IsHubOf d u a.object g) at a.hub) in
      (laws.hub_one v (unstamped x) g (unstamped h) hub_given (hub_of_form v h x w p), taken.1)
