-- A definition that two documents mean keeps all that its laws ask for.
use Rattle.std.proofs.Common.{◌≡◌, ◌∙◌, ◌+◌, ◌<◌, ◌≤◌, ℕ, zero, suc, List, [], ◌∷◌, length, Bool, true, false, Option, Some, None, refl, ap, sym, subst, arith}
use Rattle.std.specs.Prelude.{slice_get, slice_index_or, nat_lt, ◌-◌, ◌==◌, if◌then◌else◌}
use Rattle.std.proofs.lemmas.Bool.Decides.{Decides-eqb, Decides-ltb}
use Rattle.std.proofs.lemmas.Option.{slice_get-get_or, slice_get_within, get_or_from_slice_get}
use Rattle.struct_schema.specs.Shape.{Shape}
use Rattle.hub_cells.specs.declared.allowed.TheConstants.{STORED_LEVELS}
use Rattle.hub_cells.specs.Fit.{Fit}
use Rattle.hub_rules.specs.Rule.{Rules, inner_depth}
use Rattle.hub_fit.specs.Chosen.{fit_of}
use Rattle.keep_laws.specs.FittedBody.{HasRoom}
use Rattle.keep_laws.specs.Spokes.{Spoke, IsDefinition}
use Rattle.crd_reading.specs.View.{VersionView, DefinitionView}
use Rattle.crd_reading.specs.Spelled.{version_items}
use Rattle.crd_reading.specs.Whole.{HaveOwnDefaults, HaveSoundDefaults}
use Rattle.crd_loading.specs.Fits.{IsRuled, spokes_of}
use Rattle.crd_loading.specs.View.{LoadedView, FitVersions, FitHub, IsTogether}
use Rattle.crd_meaning.specs.Definition.{no_version, version_at, at_hub, spoke_seat, spoke_place, seat, IsRoot, IsSpokeOf, IsSeated, IsLoaded}
use Rattle.crd_loading.specs.Set.{named_fits, spokes_in, set_of}
use Rattle.crd_loading.proofs.Without.{without, get_before, get_behind, length_without, spokes_are}
use Rattle.crd_loading.proofs.Following.{named}
use Rattle.crd_loading.proofs.Roots.{roots}
use Rattle.crd_loading.proofs.Tables.{ruled_sound}

-- ---- room

pub ruled_room : ((n : ℕ) (s h : Shape) (rs : Rules) → n + inner_depth rs < STORED_LEVELS → HasRoom (fit_of n s h rs)) → (f : Fit) → IsRuled f → HasRoom f
ruled_room law f r = subst HasRoom (sym r.is) (law 0 f.spoke f.hub r.rules (omega arith))

-- ---- the hub

pub record Hub (l : LoadedView) : Type 0 where
  pub version : VersionView
  pub at : slice_get l.definition.versions l.hub ≡ Some version
  pub fits : FitVersions version.schema (spokes_of l.hub l.definition.versions) l.spokes

pub hub_of : (l : LoadedView) → IsTogether l → Hub l
hub_of l t = by_hub (slice_get l.definition.versions l.hub) refl t.fits
  where
    by_hub : (o : Option VersionView) → slice_get l.definition.versions l.hub ≡ o → FitHub o l.hub l.definition.versions l.spokes → Hub l
    by_hub None e h = absurd h
    by_hub (Some v) e h = record { version = v; at = e; fits = h }

pub hub_is : (l : LoadedView) (h : Hub l) → h.version ≡ slice_index_or l.definition.versions l.hub no_version
hub_is l h = sym (get_or_from_slice_get l.definition.versions l.hub h.version no_version h.at)

pub hub_within : (l : LoadedView) → IsTogether l → l.hub < length l.definition.versions
hub_within l t =
    let h = hub_of l t in
    slice_get_within l.definition.versions l.hub h.version h.at

-- ---- each spoke

spoke_at : (h : Shape) (vs : List VersionView) (fs : List Fit) (p : ℕ) (v : VersionView) → FitVersions h vs fs → slice_get vs p ≡ Some v → (s : Spoke) × (slice_get (named_fits vs fs) p ≡ Some s) × IsSpokeOf v s
spoke_at h [] [] p v k e = absurd (cc)
spoke_at h [] (f ∷ fs) p v k e = absurd k
spoke_at h (w ∷ vs) [] p v k e = absurd k
spoke_at h (w ∷ vs) (f ∷ fs) zero v k e =
    let same : w ≡ v = cc in
    (record { name = w.name; fit = f }, refl, record { name = ap (λ (u : VersionView). u.name) same; schema = k.0 ∙ ap (λ (u : VersionView). u.schema) same })
spoke_at h (w ∷ vs) (f ∷ fs) (suc p) v k e = spoke_at h vs fs p v k.4 e

spoke_facts : (h : Shape) (vs : List VersionView) (fs : List Fit) (p : ℕ) (s : Spoke) → FitVersions h vs fs → slice_get (named_fits vs fs) p ≡ Some s → (s.fit.hub ≡ h) × IsRuled s.fit
spoke_facts h [] fs p s k e = absurd (cc)
spoke_facts h (w ∷ vs) [] p s k e = absurd k
spoke_facts h (w ∷ vs) (f ∷ fs) zero s k e =
    let same : named w f ≡ s = cc in
    subst (λ (t : Spoke). (t.fit.hub ≡ h) × IsRuled t.fit) same (k.1, k.3)
spoke_facts h (w ∷ vs) (f ∷ fs) (suc p) s k e = spoke_facts h vs fs p s k.4 e

length-named : (h : Shape) (vs : List VersionView) (fs : List Fit) → FitVersions h vs fs → length (named_fits vs fs) ≡ length vs
length-named h [] fs k = refl
length-named h (w ∷ vs) [] k = absurd k
length-named h (w ∷ vs) (f ∷ fs) k = ap suc (length-named h vs fs k.4)

-- ---- the seats

other_at : (hub : ℕ) (vs : List VersionView) (v : ℕ) (w : VersionView) → (v ≡ hub → ⊥) → slice_get vs v ≡ Some w → slice_get (spokes_of hub vs) (spoke_place hub v) ≡ Some w
other_at hub vs v w n e =
    subst (λ (us : List VersionView). slice_get us (spoke_place hub v) ≡ Some w) (sym (spokes_are hub vs)) (by_place (nat_lt v hub) refl)
  where
    lies : nat_lt v hub ≡ true → nat_lt v hub ≡ false → ⊥
    lies p q = cc

    by_place : (b : Bool) → nat_lt v hub ≡ b → slice_get (without hub vs) (if b then v else v - 1) ≡ Some w
    by_place true q =
        let below : v < hub = (Decides-ltb v hub).0 q in
        get_before hub vs v below ∙ e
    by_place false q =
        let above : v < hub → ⊥ = λ h. lies ((Decides-ltb v hub).1 h) q in
        let behind : hub < v = omega (arith, above, n) in
        let one : suc (v - 1) ≡ v = omega arith in
        get_behind hub vs (v - 1) (omega arith) ∙ ap (λ (i : ℕ). slice_get vs i) one ∙ e

seated : (l : LoadedView) → IsTogether l → (v : ℕ) → v < length l.definition.versions → IsSeated (version_at (set_of l) v) (seat (set_of l) v)
seated l t v h = by_hub (v == l.hub) refl
  where
    lies : (v == l.hub) ≡ true → (v == l.hub) ≡ false → ⊥
    lies p q = cc

    by_hub : (b : Bool) → (v == l.hub) ≡ b → IsSeated (version_at (set_of l) v) (if b then at_hub else spoke_seat (slice_get (spokes_in l).items (spoke_place l.hub v)))
    by_hub true q = tt
    by_hub false q =
        let hub = hub_of l t in
        let w : VersionView = version_at (set_of l) v in
        let at : slice_get l.definition.versions v ≡ Some w = slice_get-get_or l.definition.versions v no_version h in
        let n : v ≡ l.hub → ⊥ = λ e. lies ((Decides-eqb v l.hub).1 e) q in
        let s = spoke_at hub.version.schema (spokes_of l.hub l.definition.versions) l.spokes (spoke_place l.hub v) w hub.fits (other_at l.hub l.definition.versions v w n at) in
        subst (λ (o : Option Spoke). IsSeated w (spoke_seat o)) (sym s.1) s.2

-- ---- the whole

few : (l : LoadedView) → IsTogether l → (2 ≤ length l.definition.versions) × (length l.definition.versions ≤ 8)
few l t = (t.whole.least, t.whole.most)

all_roots : (l : LoadedView) → IsTogether l → (v : ℕ) → v < length l.definition.versions → IsRoot (slice_index_or l.definition.versions v no_version).schema
all_roots l t =
    let spelled = t.whole.spelled in
    let same = ap (λ (d : DefinitionView). d.versions) spelled.2 in
    subst (λ (vs : List VersionView). HaveOwnDefaults vs → HaveSoundDefaults vs → (v : ℕ) → v < length vs → IsRoot (slice_index_or vs v no_version).schema) same (λ d e v h. roots (version_items spelled.0) v d e h) t.whole.defaults t.whole.sound

pub loaded : (l : LoadedView) → IsTogether l → IsDefinition (spokes_in l) → IsLoaded (set_of l)
loaded l t d =
    let hub = hub_of l t in
    let others : List VersionView = spokes_of l.hub l.definition.versions in
    let count : suc (length others) ≡ length l.definition.versions = ap (λ (vs : List VersionView). suc (length vs)) (spokes_are l.hub l.definition.versions) ∙ length_without l.hub l.definition.versions (hub_within l t) in
    record {
      few = few l t;
      hub = hub_within l t;
      group = refl;
      hub_name = refl;
      roots = all_roots l t;
      spokes = ap suc (length-named hub.version.schema others l.spokes hub.fits) ∙ count;
      seats = seated l t;
      to_hub = λ p s e. (spoke_facts hub.version.schema others l.spokes p s hub.fits e).0 ∙ ap (λ (v : VersionView). v.schema) (hub_is l hub);
      tables = λ p s e. ruled_sound s.fit (spoke_facts hub.version.schema others l.spokes p s hub.fits e).1;
      definition = d;
    }
