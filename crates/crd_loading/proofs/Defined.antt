-- The spokes of a loaded definition are a definition's: their names differ, they are fitted to one schema, each default is a
-- value that its side allows, and none comes too late.
use Rattle.std.proofs.Common.{◌≡◌, ◌+◌, ◌≤◌, ◌<◌, ℕ, zero, suc, List, [], ◌∷◌, Bool, true, false, cond, nat_eq, Option, Some, None, refl, ap, sym, subst, arith}
use Rattle.std.specs.Prelude.{slice_get, slice_index_or}
use Rattle.struct_schema.specs.Shape.{Shape}
use Rattle.hub_cells.specs.declared.allowed.TheConstants.{STORED_LEVELS}
use Rattle.hub_cells.specs.Level.{Name, AreDistinct, Level}
use Rattle.hub_cells.specs.LevelDepth.{level_depth}
use Rattle.hub_cells.specs.Fit.{Fit}
use Rattle.hub_rules.specs.Rule.{Rules, inner_depth}
use Rattle.hub_fit.specs.Chosen.{fit_of}
use Rattle.hub_fills.specs.Late.{NoLate}
use Rattle.hub_fills.specs.LateNames.{first_late}
use Rattle.hub_fills.specs.Sound.{EachLevel}
use Rattle.hub_fills.specs.EachFit.{EachAllows}
use Rattle.keep_laws.specs.FittedBody.{HasRoom}
use Rattle.keep_laws.specs.Spokes.{Spoke, spoke_names, AreFittedTo, HaveOneHub, levels_of, HaveDefaults, IsDefinition}
use Rattle.keep_laws.proofs.Room.{rules_room}
use Rattle.crd_reading.specs.View.{VersionView, DefinitionView}
use Rattle.crd_reading.specs.Whole.{HaveSoundDefaults, IsWholeDefinition}
use Rattle.crd_reading.specs.ValidDefaults.{HaveValidDefaults}
use Rattle.crd_loading.specs.Fits.{IsRuled, spokes_from, spokes_of, levels_in}
use Rattle.crd_loading.specs.View.{LoadedView, FitVersions, IsTogether}
use Rattle.crd_loading.specs.Set.{named_fits, spokes_in}
use Rattle.crd_loading.specs.inner.Following.{version_names}
use Rattle.crd_meaning.specs.Definition.{no_version}
use Rattle.crd_loading.proofs.Names.{all_names}
use Rattle.crd_loading.proofs.OwnAllowed.{HasGoodDefaults, fit_allows}
use Rattle.crd_loading.proofs.LoadedSet.{hub_of, hub_is, ruled_room}

-- ---- the versions but the hub

abbrev Good : List VersionView → Type 0
Good [] = Unit {0}
Good (v ∷ vs) = HasGoodDefaults v.schema × Good vs

both_good : (vs : List VersionView) → HaveValidDefaults vs → HaveSoundDefaults vs → Good vs
both_good [] h k = tt
both_good (v ∷ vs) h k = ((h.0, k.0), both_good vs h.1 k.1)

good_if : (b : Bool) (v : VersionView) (ws : List VersionView) → HasGoodDefaults v.schema → Good ws → Good (cond b ws (v ∷ ws))
good_if true v ws h k = k
good_if false v ws h k = (h, k)

good_spokes : (hub i : ℕ) (vs : List VersionView) → Good vs → Good (spokes_from hub i vs)
good_spokes hub i [] g = tt
good_spokes hub i (v ∷ vs) g =
    good_if (nat_eq i hub) v (spokes_from hub (suc i) vs) g.0 (good_spokes hub (suc i) vs g.1)

good_at : (vs : List VersionView) (i : ℕ) (v : VersionView) → Good vs → slice_get vs i ≡ Some v → HasGoodDefaults v.schema
good_at [] i v g e = absurd (cc)
good_at (w ∷ vs) zero v g e =
    let same : w ≡ v = cc in
    subst (λ (u : VersionView). HasGoodDefaults u.schema) same g.0
good_at (w ∷ vs) (suc i) v g e = good_at vs i v g.1 e

-- ---- each fit

level_room : (f : Fit) → IsRuled f → f.depth ≡ 0 → f.depth + level_depth f.level ≤ 32
level_room f r e =
    let nested : level_depth (fit_of 0 f.spoke f.hub r.rules).level ≤ suc (inner_depth r.rules) = omega (arith, rules_room 0 f.spoke f.hub r.rules) in
    let here : level_depth f.level ≤ suc (inner_depth r.rules) = subst (λ (g : Fit). level_depth g.level ≤ suc (inner_depth r.rules)) (sym r.is) nested in
    omega (arith, here, r.depth, e)

each_allows : (h : Shape) (vs : List VersionView) (fs : List Fit) → FitVersions h vs fs → Good vs → HasGoodDefaults h → EachAllows fs
each_allows h [] [] k g j = tt
each_allows h [] (f ∷ fs) k g j = absurd k
each_allows h (v ∷ vs) [] k g j = absurd k
each_allows h (v ∷ vs) (f ∷ fs) k g j =
    let mine : HasGoodDefaults f.spoke = subst HasGoodDefaults (sym k.0) g.0 in
    let theirs : HasGoodDefaults f.hub = subst HasGoodDefaults (sym k.1) j in
    (fit_allows f k.3.fitted (level_room f k.3 k.2) mine theirs, each_allows h vs fs k.4 g.1 j)

names-named : (h : Shape) (vs : List VersionView) (fs : List Fit) → FitVersions h vs fs → spoke_names (named_fits vs fs) ≡ version_names vs
names-named h [] fs k = refl
names-named h (v ∷ vs) [] k = absurd k
names-named h (v ∷ vs) (f ∷ fs) k = ap (λ (ns : List Name). v.name ∷ ns) (names-named h vs fs k.4)

pub levels-named : (h : Shape) (vs : List VersionView) (fs : List Fit) → FitVersions h vs fs → levels_of (named_fits vs fs) ≡ levels_in fs
levels-named h [] [] k = refl
levels-named h [] (f ∷ fs) k = absurd k
levels-named h (v ∷ vs) [] k = absurd k
levels-named h (v ∷ vs) (f ∷ fs) k = ap (λ (ms : List (Option Level)). Some f.level ∷ ms) (levels-named h vs fs k.4)

module _ (room : (f : Fit) → IsRuled f → HasRoom f) where
  fitted_to : (h : Shape) (vs : List VersionView) (fs : List Fit) → FitVersions h vs fs → AreFittedTo h (named_fits vs fs)
  fitted_to h [] fs k = tt
  fitted_to h (v ∷ vs) [] k = absurd k
  fitted_to h (v ∷ vs) (f ∷ fs) k = (k.1, k.2, room f k.3, k.3.fitted, fitted_to h vs fs k.4)

  one_hub : (h : Shape) (ss : List Spoke) → AreFittedTo h ss → HaveOneHub ss
  one_hub h [] a = tt
  one_hub h (s ∷ ss) a = subst (λ (g : Shape). AreFittedTo g (s ∷ ss)) (sym a.0) a

have_defaults : (ms : List (Option Level)) (h : Shape) (vs : List VersionView) (fs : List Fit) → FitVersions h vs fs → EachAllows fs → EachLevel (NoLate ms) (levels_in fs) → HaveDefaults ms (named_fits vs fs)
have_defaults ms h [] fs k a l = tt
have_defaults ms h (v ∷ vs) [] k a l = absurd k
have_defaults ms h (v ∷ vs) (f ∷ fs) k a l = (a.0, l.0, have_defaults ms h vs fs k.4 a.1 l.1)

-- ---- all of them

module _ (valid : (d : DefinitionView) → IsWholeDefinition d → HaveValidDefaults d.versions) (l : LoadedView) (t : IsTogether l) where
  all_good : Good l.definition.versions
  all_good = both_good l.definition.versions (valid l.definition t.whole) t.whole.sound

  pub all_allow : EachAllows l.spokes
  all_allow =
      let h = hub_of l t in
      each_allows h.version.schema (spokes_of l.hub l.definition.versions) l.spokes h.fits (good_spokes l.hub 0 l.definition.versions all_good) (good_at l.definition.versions l.hub h.version all_good h.at)

  pub is_definition : ((n : ℕ) (s h : Shape) (rs : Rules) → n + inner_depth rs < STORED_LEVELS → HasRoom (fit_of n s h rs)) → ((ms : List (Option Level)) → first_late ms ≡ None → EachLevel (NoLate ms) ms) → IsDefinition (spokes_in l)
  is_definition room none =
      let h = hub_of l t in
      let vs : List VersionView = spokes_of l.hub l.definition.versions in
      let names : AreDistinct (h.version.name ∷ version_names vs) = all_names l.hub l.definition.versions h.version t.whole.offered.differ h.at in
      let ms : List (Option Level) = levels_in l.spokes in
      let defaults : HaveDefaults ms (named_fits vs l.spokes) = have_defaults ms h.version.schema vs l.spokes h.fits all_allow (none ms t.late) in
      let hub_name : h.version.name ≡ (slice_index_or l.definition.versions l.hub no_version).name = ap (λ (v : VersionView). v.name) (hub_is l h) in record {
        names = subst (λ (n : Name). AreDistinct (n ∷ spoke_names (named_fits vs l.spokes))) hub_name (subst (λ (ns : List Name). AreDistinct (h.version.name ∷ ns)) (sym (names-named h.version.schema vs l.spokes h.fits)) names);
        one_hub = one_hub (ruled_room room) h.version.schema (named_fits vs l.spokes) (fitted_to (ruled_room room) h.version.schema vs l.spokes h.fits);
        defaults = subst (λ (os : List (Option Level)). HaveDefaults os (named_fits vs l.spokes)) (sym (levels-named h.version.schema vs l.spokes h.fits)) defaults;
      }
