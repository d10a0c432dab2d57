-- The fits of the spokes.
use Rattle.std.proofs.Common.{◌≡◌, ◌≤◌, ◌<◌, ℕ, suc, ◌+◌, List, [], ◌∷◌, ◌++◌, Bool, true, false, ◌||◌, cond, nat_eq, Option, Some, None, map, drop, length, get_or, refl, ap, sym, subst, ◌∙◌, append_assoc, arith}
use Rattle.std.proofs.lemmas.List.{drop_more}
use Rattle.std.specs.Prelude.{slice_get, IfNone}
use Rattle.std.specs.Str.{bytes_eq}
use Rattle.struct_schema.specs.Shape.{Shape}
use Rattle.struct_schema.specs.Fault.{or_else}
use Rattle.hub_cells.specs.Fit.{Fit, IsFitted}
use Rattle.rule_reading.specs.SetRead.{Spoke}
use Rattle.kj_value.specs.Txt.{Bytes}
use Rattle.hub_rules.specs.Rule.{Rules, inner_depth}
use Rattle.hub_rules.specs.Sound.{AreSoundRules}
use Rattle.hub_rules.specs.Refusal.{Fault, Why, fit_fault, name_twice, name_missing, schema_differs, unpaired_default, required_lost, range_lost}
use Rattle.hub_rules.specs.Told.{path_text}
use Rattle.hub_fit.specs.Chosen.{fit_of}
use Rattle.hub_fit.specs.Refuses.{RefusesFit}
use Rattle.hub_rules.specs.declared.rules.TheConstants.{MAX_OBJECTS}
use Rattle.hub_rules.specs.declared.refusal.FitFault.TheVariants.{NameTwice, NameMissing, SchemaDiffers, UnpairedDefault, RequiredLost, RangeLost}
use Rattle.crd_reading.specs.View.{VersionView}
use Rattle.crd_reading.specs.Seen.{version_of}
use Rattle.crd_reading.specs.declared.definition.Version.{Version}
use Rattle.crd_reading.specs.Offered.{has_version}
use Rattle.crd_loading.specs.Words.{fit_word}
use Rattle.crd_reading.specs.Refusal.{Refusal}
use Rattle.crd_reading.specs.Told.{NamesDefinitionFault as NamesRefusal}
use Rattle.crd_reading.specs.declared.reading.DefinitionFault.TheVariants.{Refused}
use Rattle.crd_loading.specs.Blame.{Blame, blame, of_definition, of_fit}
use Rattle.crd_loading.specs.Fits.{IsRuled, Placed, version_from, spokes_from, spokes_of, rules_for, fits_of, fits_blame}
use Rattle.crd_loading.specs.inner.AllFitted.{AllFitted}
use Rattle.crd_loading.specs.View.{FitVersions, FitHub}

pub ruled : (s h : Shape) (rs : Rules) (f : Fit) → f ≡ fit_of 0 s h rs → AreSoundRules rs → inner_depth rs ≤ MAX_OBJECTS → IsFitted f → IsRuled f
ruled s h rs f e a d k =
    subst IsRuled (sym e) (record { rules = rs; is = refl; sound = a; depth = d; fitted = subst IsFitted e k })

pub all_push : (fs : List Fit) (f : Fit) → AllFitted fs → IsRuled f → AllFitted (fs ++ f ∷ [])
all_push [] f h k = (k, tt)
all_push (g ∷ fs) f h k = (h.0, all_push fs f h.1 k)

-- ---- why rules don't fit

some_blame : (f : Fault) (w : Why) (p : List ℕ) → f.why ≡ w → p ≡ path_text f.path → of_fit (Some f) ≡ Some (blame p (fit_word w))
some_blame f w p h k = rw (h, k) refl

pub twice_is : (p : Bytes) (o : Option Fault) → RefusesFit o (NameTwice p) → of_fit o ≡ Some (blame p.bytes (fit_word name_twice))
twice_is p None h = absurd h
twice_is p (Some f) h = some_blame f name_twice p.bytes h.0 h.1

pub missing_is : (p : Bytes) (o : Option Fault) → RefusesFit o (NameMissing p) → of_fit o ≡ Some (blame p.bytes (fit_word name_missing))
missing_is p None h = absurd h
missing_is p (Some f) h = some_blame f name_missing p.bytes h.0 h.1

pub differs_is : (p : Bytes) (o : Option Fault) → RefusesFit o (SchemaDiffers p) → of_fit o ≡ Some (blame p.bytes (fit_word schema_differs))
differs_is p None h = absurd h
differs_is p (Some f) h = some_blame f schema_differs p.bytes h.0 h.1

pub unpaired_is : (p : Bytes) (o : Option Fault) → RefusesFit o (UnpairedDefault p) → of_fit o ≡ Some (blame p.bytes (fit_word unpaired_default))
unpaired_is p None h = absurd h
unpaired_is p (Some f) h = some_blame f unpaired_default p.bytes h.0 h.1

pub required_is : (p : Bytes) (o : Option Fault) → RefusesFit o (RequiredLost p) → of_fit o ≡ Some (blame p.bytes (fit_word required_lost))
required_is p None h = absurd h
required_is p (Some f) h = some_blame f required_lost p.bytes h.0 h.1

pub range_is : (p : Bytes) (o : Option Fault) → RefusesFit o (RangeLost p) → of_fit o ≡ Some (blame p.bytes (fit_word range_lost))
range_is p None h = absurd h
range_is p (Some f) h = some_blame f range_lost p.bytes h.0 h.1

-- ---- what is refused of a definition

pub definition_is : (o : Option Refusal) (p w : Bytes) → NamesRefusal o (Refused p w) → of_definition o ≡ Some (blame p.bytes w.bytes)
definition_is None p w h = absurd h
definition_is (Some r) p w h = rw (h.0, h.1) refl

-- ---- the hub

-- a version that has the name is found
pub found : (k : ℕ) (n : List ℕ) (vs : List VersionView) → has_version n vs ≡ true → version_from k n vs ≡ None → ⊥
found k n [] h e = cc
found k n (v ∷ vs) h e = by_test (bytes_eq n v.name) h e (λ q r. found (suc k) n vs q r)
  where
    by_test : (b : Bool) → (b || has_version n vs) ≡ true → cond b (Some (k, v)) (version_from (suc k) n vs) ≡ None → (has_version n vs ≡ true → version_from (suc k) n vs ≡ None → ⊥) → ⊥
    by_test true q r later = cc
    by_test false q r later = later q r

-- what is found stands at its place
place : (k : ℕ) (n : List ℕ) (vs : List VersionView) (h : Placed) → version_from k n vs ≡ Some h → (j : ℕ) × (h.0 ≡ k + j) × (slice_get vs j ≡ Some h.1)
place k n [] h e = absurd (cc)
place k n (v ∷ vs) h e = by_test (bytes_eq n v.name) e (λ q. place (suc k) n vs h q)
  where
    by_test : (b : Bool) → cond b (Some (k, v)) (version_from (suc k) n vs) ≡ Some h → (version_from (suc k) n vs ≡ Some h → (j : ℕ) × (h.0 ≡ suc k + j) × (slice_get vs j ≡ Some h.1)) → (j : ℕ) × (h.0 ≡ k + j) × (slice_get (v ∷ vs) j ≡ Some h.1)
    by_test true q later =
        let same : (k, v) ≡ h = cc in
        (0, sym (ap (λ (x : Placed). x.0) same) ∙ omega arith, ap (λ (x : Placed). Some x.1) same)
    by_test false q later =
        let r = later q in
        (suc r.0, r.1 ∙ omega arith, r.2)

pub placed : (n : List ℕ) (vs : List VersionView) (h : Placed) → version_from 0 n vs ≡ Some h → slice_get vs h.0 ≡ Some h.1
placed n vs h e =
    let r = place 0 n vs h e in
    let at : h.0 ≡ r.0 = r.1 ∙ omega arith in
    subst (λ (i : ℕ). slice_get vs i ≡ Some h.1) (sym at) r.2

-- ---- what is kept of all of them

pub fit_versions : (h : Shape) (ss : List Spoke) (vs : List VersionView) → AllFitted (fits_of h ss vs) → FitVersions h vs (fits_of h ss vs)
fit_versions h ss [] a = tt
fit_versions h ss (v ∷ vs) a = (refl, refl, refl, a.0, fit_versions h ss vs a.1)

pub fit_hub : (n : List ℕ) (ss : List Spoke) (vs : List VersionView) (h : Placed) (fs : List Fit) → version_from 0 n vs ≡ Some h → fs ≡ fits_of h.1.schema ss (spokes_of h.0 vs) → AllFitted fs → FitHub (slice_get vs h.0) h.0 vs fs
fit_hub n ss vs h fs e is a =
    let all : AllFitted (fits_of h.1.schema ss (spokes_of h.0 vs)) = subst AllFitted is a in
    subst (λ (o : Option VersionView). FitHub o h.0 vs fs) (sym (placed n vs h e))
    (subst (λ (gs : List Fit). FitVersions h.1.schema (spokes_of h.0 vs) gs) (sym is) (fit_versions h.1.schema ss (spokes_of h.0 vs) all))

-- ---- one version more

at_next : (hub i : ℕ) (w : VersionView) (rest : List VersionView) (b : Bool) → b ≡ nat_eq i hub
    → cond b (spokes_from hub (i + 1) rest) (w ∷ spokes_from hub (i + 1) rest) ≡ spokes_from hub i (w ∷ rest)
at_next hub i w rest b here =
    let next : i + 1 ≡ suc i = omega arith in
    ap (λ (k : ℕ). cond b (spokes_from hub k rest) (w ∷ spokes_from hub k rest)) next
    ∙ ap (λ (c : Bool). cond c (spokes_from hub (suc i) rest) (w ∷ spokes_from hub (suc i) rest)) here

at_rest : (vs : List Version) (i : ℕ) (v : Version) → i < length vs → v ≡ get_or vs i v → map version_of (drop i vs) ≡ version_of v ∷ map version_of (drop (i + 1) vs)
at_rest vs i v p e = ap (map version_of) (drop_more vs i v p ∙ ap (λ (y : Version). y ∷ drop (i + 1) vs) (sym e))

pub fits_step : (h : Shape) (ss : List Spoke) (hub i : ℕ) (vs : List Version) (v : Version) (b : Bool) (fs gs all : List Fit) → i < length vs → v ≡ get_or vs i v → b ≡ nat_eq i hub
    → gs ≡ cond b fs (fs ++ fit_of 0 (version_of v).schema h (rules_for (version_of v).name ss) ∷ [])
    → fs ++ fits_of h ss (spokes_from hub i (map version_of (drop i vs))) ≡ all → gs ++ fits_of h ss (spokes_from hub (i + 1) (map version_of (drop (i + 1) vs))) ≡ all
fits_step h ss hub i vs v b fs gs all p e here made is =
    let rest = map version_of (drop (i + 1) vs) in
    ap (λ (xs : List Fit). xs ++ fits_of h ss (spokes_from hub (i + 1) rest)) made ∙ turned b
    ∙ ap (λ (ws : List VersionView). fs ++ fits_of h ss ws) (at_next hub i (version_of v) rest b here)
    ∙ ap (λ (ws : List VersionView). fs ++ fits_of h ss (spokes_from hub i ws)) (sym (at_rest vs i v p e)) ∙ is
  where
    later : List VersionView
    later = spokes_from hub (i + 1) (map version_of (drop (i + 1) vs))

    turned : (c : Bool) → cond c fs (fs ++ fit_of 0 (version_of v).schema h (rules_for (version_of v).name ss) ∷ []) ++ fits_of h ss later ≡ fs ++ fits_of h ss (cond c later (version_of v ∷ later))
    turned true = refl
    turned false = append_assoc fs (fit_of 0 (version_of v).schema h (rules_for (version_of v).name ss) ∷ []) (fits_of h ss later)

pub blame_step : (h : Shape) (ss : List Spoke) (hub i : ℕ) (vs : List Version) (v : Version) (b : Bool) (all : Option Blame) → i < length vs → v ≡ get_or vs i v → b ≡ nat_eq i hub
    → None ≡ cond b None (of_fit (fit_fault (version_of v).schema h (rules_for (version_of v).name ss)))
    → fits_blame h ss (spokes_from hub i (map version_of (drop i vs))) ≡ all → fits_blame h ss (spokes_from hub (i + 1) (map version_of (drop (i + 1) vs))) ≡ all
blame_step h ss hub i vs v b all p e here none is =
    turned b none
    ∙ ap (λ (ws : List VersionView). fits_blame h ss ws) (at_next hub i (version_of v) (map version_of (drop (i + 1) vs)) b here)
    ∙ ap (λ (ws : List VersionView). fits_blame h ss (spokes_from hub i ws)) (sym (at_rest vs i v p e)) ∙ is
  where
    later : List VersionView
    later = spokes_from hub (i + 1) (map version_of (drop (i + 1) vs))

    turned : (c : Bool) → None ≡ cond c None (of_fit (fit_fault (version_of v).schema h (rules_for (version_of v).name ss)))
        → fits_blame h ss later ≡ fits_blame h ss (cond c later (version_of v ∷ later))
    turned true n = refl
    turned false n = ap (λ (o : Option Blame). or_else o (fits_blame h ss later)) n

pub blamed_here : (h : Shape) (ss : List Spoke) (hub i : ℕ) (vs : List Version) (v : Version) (b : Bool) (x : Blame) (all : Option Blame) → i < length vs → v ≡ get_or vs i v → b ≡ nat_eq i hub
    → Some x ≡ cond b None (of_fit (fit_fault (version_of v).schema h (rules_for (version_of v).name ss)))
    → fits_blame h ss (spokes_from hub i (map version_of (drop i vs))) ≡ all → Some x ≡ all
blamed_here h ss hub i vs v b x all p e here told is =
    turned b told
    ∙ ap (λ (ws : List VersionView). fits_blame h ss ws) (at_next hub i (version_of v) (map version_of (drop (i + 1) vs)) b here)
    ∙ ap (λ (ws : List VersionView). fits_blame h ss (spokes_from hub i ws)) (sym (at_rest vs i v p e)) ∙ is
  where
    later : List VersionView
    later = spokes_from hub (i + 1) (map version_of (drop (i + 1) vs))

    turned : (c : Bool) → Some x ≡ cond c None (of_fit (fit_fault (version_of v).schema h (rules_for (version_of v).name ss))) → Some x ≡ fits_blame h ss (cond c later (version_of v ∷ later))
    turned true n = cc
    turned false n = ap (λ (o : Option Blame). or_else o (fits_blame h ss later)) n

pub none_of : {A : Type 0} (o : Option A) (P : Type 0) → o ≡ None → IfNone o P → P
none_of o P is h = subst (λ x. IfNone x P) is h
