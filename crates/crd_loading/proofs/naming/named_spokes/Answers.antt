use Rattle.std.proofs.Common.{◌≡◌, ◌<◌, ◌++◌, ◌∷◌, ℕ, [], length, map, Some, ap, sym, subst, ◌∙◌, arith}
use Rattle.std.specs.Prelude.{slice_get}
use Rattle.std.proofs.lemmas.List.{nil_from_length}
use Rattle.std.specs.Vec.Iter.{into_iter_items}
use Rattle.keep_laws.specs.Spokes.{Spoke}
use Rattle.crd_reading.specs.Seen.{version_of}
use Rattle.crd_loading.specs.Fits.{spokes_of}
use Rattle.crd_loading.proofs.Following.{begins, goes_on, next, ends}
use Rattle.crd_loading.proofs.naming.named_spokes.Goals as goal

pub loop-fitted-init : goal.loop-fitted-init
loop-fitted-init c =
    begins (spokes_of c.args.hub (map version_of c.args.versions.now)) c.args.fits.items (into_iter_items c.into_iter-fitted-iterator.result) _ c.new-spokes.ensures.items c.into_iter-fitted-iterator.ensures.into_iter_gives.0 c.requires

pub loop-fitted-preserved : goal.loop-fitted-preserved
loop-fitted-preserved c =
    let l = c.loop-fitted in
    let vs = spokes_of c.args.hub (map version_of c.args.versions.now) in
    let at = subst (λ (n : ℕ). slice_get vs n ≡ Some (version_of c.other_version-version.result.now)) (ap length c.as_slice.ensures.value) c.other_version-version.ensures in
    next vs c.args.fits.items (into_iter_items l.fitted-iterator) l.spokes.items (version_of c.other_version-version.result.now) c.in-Some.fitted (into_iter_items c.next.new.self) c.push.new.self.items at c.in-Some.ensures.steps.0 (c.in_ok-push.ensures.items ∙ ap (λ (s : Spoke). l.spokes.items ++ s ∷ []) c.in_ok-spoke.ensures) l.invariant

pub returns : goal.returns
returns c =
    let l = c.loop-fitted in
    let none : into_iter_items l.fitted-iterator ≡ [] = nil_from_length _ (grind (arith, c.in-None.ensures.steps.0)) in
    ends (spokes_of c.args.hub (map version_of c.args.versions.now)) c.args.fits.items (into_iter_items l.fitted-iterator) l.spokes.items none l.invariant

pub other_version-version-requires : goal.other_version-version-requires
other_version-version-requires c =
    let l = c.loop-fitted in
    let vs = spokes_of c.args.hub (map version_of c.args.versions.now) in
    subst (λ (n : ℕ). n < length vs) (sym (ap length c.as_slice.ensures.value)) (goes_on vs c.args.fits.items (into_iter_items l.fitted-iterator) l.spokes.items c.in-Some.fitted (into_iter_items c.next.new.self) c.in-Some.ensures.steps.0 l.invariant)
