-- A loaded definition in its parts, from which one in memory is made.
use Rattle.std.proofs.Common.{◌≡◌, ◌∙◌, ◌<◌, ◌+◌, ◌++◌, ℕ, zero, suc, List, [], ◌∷◌, length, map, take, get_or, Option, Some, Result, Ok, refl, ap, sym, subst, add-one, arith}
use Rattle.std.specs.Prelude.{slice_index_or, slice_get, IfOk}
use Rattle.std.proofs.lemmas.List.{length-map, get_or-map}
use Rattle.struct_schema.specs.Shape.{Shape}
use Rattle.hub_cells.specs.Level.{Name, Level}
use Rattle.hub_fills.specs.Fills.{Fills, fills_of}
use Rattle.hub_cells.specs.Fit.{Fit}
use Rattle.keep_laws.specs.Spokes.{Spoke, Spokes, IsDefinition, fills_at}
use Rattle.crd_reading.specs.View.{VersionView, DefinitionView}
use Rattle.crd_reading.specs.Seen.{version_of}
use Rattle.crd_reading.specs.declared.definition.Version.{Version}
use Rattle.crd_loading.specs.Fits.{spokes_of, levels_in}
use Rattle.crd_loading.specs.View.{LoadedView, FitVersions, IsTogether}
use Rattle.crd_meaning.specs.Definition.{Definition, no_version, IsLoaded}
use Rattle.crd_loading.specs.Set.{named_fits, spokes_in, set_of}
use Rattle.crd_loading.proofs.LoadedSet.{hub_of, hub_within, loaded}
use Rattle.crd_loading.proofs.Defined.{levels-named}

abbrev pub parts : DefinitionView → ℕ → List Fit → LoadedView
parts d h fs = record { definition = d; hub = h; spokes = fs }

joined : (l : LoadedView) (d : DefinitionView) (h : ℕ) (fs : List Fit) → d ≡ l.definition → h ≡ l.hub → fs ≡ l.spokes → parts d h fs ≡ l
joined l d h fs e f g =
    ap (λ (x : DefinitionView). parts x h fs) e ∙ ap (λ (n : ℕ). parts l.definition n fs) f ∙ ap (λ (gs : List Fit). parts l.definition l.hub gs) g

pub together_parts : (l : LoadedView) (d : DefinitionView) (h : ℕ) (fs : List Fit) → d ≡ l.definition → h ≡ l.hub → fs ≡ l.spokes → IsTogether l → IsTogether (parts d h fs)
together_parts l d h fs e f g t = subst IsTogether (sym (joined l d h fs e f g)) t

-- ---- the hub's name

pub named_within : (vs : List Version) (d : DefinitionView) (h : ℕ) (fs : List Fit) → map version_of vs ≡ d.versions → IsTogether (parts d h fs) → h < length vs
named_within vs d h fs e t =
    let all : h < length d.versions = hub_within (parts d h fs) t in
    let same : length (map version_of vs) ≡ length d.versions = ap (λ (us : List VersionView). length us) e in
    let mapped : length (map version_of vs) ≡ length vs = length-map vs version_of in
    omega arith

pub name_is : (vs : List Version) (d : DefinitionView) (h : ℕ) (v : Version) (n : Name) → map version_of vs ≡ d.versions → h < length vs → n ≡ (get_or vs h v).name.bytes → n ≡ (slice_index_or d.versions h no_version).name
name_is vs d h v n e k q =
    q ∙ ap (λ (w : VersionView). w.name) (sym (get_or-map version_of vs h v no_version k) ∙ ap (λ (us : List VersionView). slice_index_or us h no_version) e)

-- ---- the other versions

fits_length : (h : Shape) (vs : List VersionView) (fs : List Fit) → FitVersions h vs fs → length fs ≡ length vs
fits_length h [] [] k = refl
fits_length h [] (f ∷ fs) k = absurd k
fits_length h (v ∷ vs) [] k = absurd k
fits_length h (v ∷ vs) (f ∷ fs) k = ap suc (fits_length h vs fs k.4)

pub as_many : (vs : List Version) (d : DefinitionView) (h : ℕ) (fs : List Fit) → map version_of vs ≡ d.versions → IsTogether (parts d h fs) → length fs ≡ length (spokes_of h (map version_of vs))
as_many vs d h fs e t =
    let hub = hub_of (parts d h fs) t in
    fits_length hub.version.schema (spokes_of h d.versions) fs hub.fits ∙ ap (λ (us : List VersionView). length (spokes_of h us)) (sym e)

pub whole : (vs : List Version) (d : DefinitionView) (h : ℕ) (fs : List Fit) (g n : Name) (ss : List Spoke) → map version_of vs ≡ d.versions → g ≡ d.group → n ≡ (slice_index_or d.versions h no_version).name → ss ≡ named_fits (spokes_of h (map version_of vs)) fs → record { group = g; hub = n; items = ss } ≡ spokes_in (parts d h fs)
whole vs d h fs g n ss e p q made =
    let m : Name = (slice_index_or d.versions h no_version).name in
    ap (λ (k : Name). made_of k n ss) p ∙ ap (λ (k : Name). made_of d.group k ss) q ∙ ap (λ (ts : List Spoke). made_of d.group m ts) (made ∙ ap (λ (us : List VersionView). named_fits (spokes_of h us) fs) e)
  where
    made_of : Name → Name → List Spoke → Spokes
    made_of k j ts = record { group = k; hub = j; items = ts }

-- what the names become, of one more fit
next_taken : (g : Fit → Fills) (fs : List Fit) (i : ℕ) (f : Fit) → slice_get fs i ≡ Some f → map g (take (suc i) fs) ≡ map g (take i fs) ++ g f ∷ []
next_taken g [] i f e = absurd (cc)
next_taken g (h ∷ fs) zero f e =
    let same : h ≡ f = cc in
    ap (λ (k : Fit). g k ∷ []) same
next_taken g (h ∷ fs) (suc i) f e = ap (λ (gs : List Fills). g h ∷ gs) (next_taken g fs i f e)

there : (fs : List Fit) (i : ℕ) → i < length fs → (f : Fit) × (slice_get fs i ≡ Some f)
there [] i h =
    let none : i < 0 = h in
    absurd (omega arith)
there (f ∷ fs) zero h = (f, refl)
there (f ∷ fs) (suc i) h =
    let more : suc i < suc (length fs) = h in
    there fs i (omega arith)

pub next_fill : {E : Type 0} (g : Fit → Fills) (fs : List Fit) (i : ℕ) (done more : List Fills) (r : Result Fills E) (x : Fills) → i < length fs → done ≡ map g (take i fs) → ((f : Fit) → slice_get fs i ≡ Some f → IfOk r (λ y. y ≡ g f)) → r ≡ Ok x → more ≡ done ++ x ∷ [] → more ≡ map g (take (i + 1) fs)
next_fill {E} g fs i done more r x h e law is m =
    let f = there fs i h in
    let made : x ≡ g f.0 = subst (λ (s : Result Fills E). IfOk s (λ y. y ≡ g f.0)) is (law f.0 f.1) in
    m ∙ ap (λ (ds : List Fills). ds ++ x ∷ []) e ∙ ap (λ (y : Fills). map g (take i fs) ++ y ∷ []) made ∙ sym (next_taken g fs i f.0 f.1) ∙ ap (λ (n : ℕ). map g (take n fs)) (sym (add-one i))

-- of the fits and of the spokes
levels_same : (h : Shape) (vs : List VersionView) (fs : List Fit) → FitVersions h vs fs → (ms : List (Option Level)) → map (λ (f : Fit). fills_of ms f.level) fs ≡ map (λ (s : Spoke). fills_of ms s.fit.level) (named_fits vs fs)
levels_same h [] [] k ms = refl
levels_same h [] (f ∷ fs) k ms = absurd k
levels_same h (v ∷ vs) [] k ms = absurd k
levels_same h (v ∷ vs) (f ∷ fs) k ms = ap (λ (gs : List Fills). fills_of ms f.level ∷ gs) (levels_same h vs fs k.4 ms)

pub fills_same : (l : LoadedView) → IsTogether l → map (λ (f : Fit). fills_of (levels_in l.spokes) f.level) l.spokes ≡ map (fills_at (spokes_in l)) (spokes_in l).items
fills_same l t =
    let hub = hub_of l t in
    let vs : List VersionView = spokes_of l.hub l.definition.versions in
    levels_same hub.version.schema vs l.spokes hub.fits (levels_in l.spokes) ∙ ap (λ (ms : List (Option Level)). map (λ (s : Spoke). fills_of ms s.fit.level) (named_fits vs l.spokes)) (sym (levels-named hub.version.schema vs l.spokes hub.fits))

-- ---- the definition in memory

abbrev pub made : DefinitionView → ℕ → Spokes → Definition
made d h a = record { view = d; hub = h; spokes = a }

pub is_loaded : (d : DefinitionView) (h : ℕ) (fs : List Fit) (a : Spokes) → IsTogether (parts d h fs) → a ≡ spokes_in (parts d h fs) → IsDefinition a → IsLoaded (made d h a)
is_loaded d h fs a t is k =
    subst (λ (b : Spokes). IsLoaded (made d h b)) (sym is) (loaded (parts d h fs) t (subst IsDefinition is k))

pub set_is : (l : LoadedView) (d : DefinitionView) (h : ℕ) (fs : List Fit) (a : Spokes) → d ≡ l.definition → h ≡ l.hub → fs ≡ l.spokes → a ≡ spokes_in (parts d h fs) → made d h a ≡ set_of l
set_is l d h fs a e f g is = ap (λ (b : Spokes). made d h b) is ∙ ap set_of (joined l d h fs e f g)
