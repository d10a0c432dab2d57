use Rattle.std.proofs.Common.{◌++◌, List, map, nat_eq, refl, ap, sym, ◌∙◌}
use Rattle.std.specs.Prelude.{option_map}
use Rattle.std.proofs.lemmas.List.{append-nil, drop_all}
use Rattle.struct_schema.specs.ShapeOf.{shape_of}
use Rattle.crd_reading.specs.Seen.{version_of}
use Rattle.crd_reading.specs.declared.definition.Version.{Version}
use Rattle.crd_loading.specs.Fits.{spokes_from, fits_blame, fits_of}
use Rattle.crd_loading.specs.Told.{blame_of}
use Rattle.crd_loading.proofs.Fits.{fits_step, blame_step, blamed_here, none_of}
use Rattle.crd_loading.proofs.fitting.fit_spokes.Goals as goal

pub returns-in-Some-clause-blame : goal.returns-in-Some-clause-blame
returns-in-Some-clause-blame c =
    blamed_here (shape_of c.args.schema.now) c.args.spokes.now c.args.hub c.loop-i.i c.args.versions.now c.index-versions-i.result (nat_eq c.loop-i.i c.args.hub) (blame_of c.in-Some.blamed) _ c.loop-i-test.true
    c.index-versions-i.is refl (sym (ap (option_map blame_of) c.in-Some.is) ∙ c.in_ok-blamed.ensures.blame) c.loop-i.invariant.blame

pub loop-i-preserved : goal.loop-i-preserved
loop-i-preserved c =
    let h = shape_of c.args.schema.now in
    let v = c.index-versions-i.result in
    let b = nat_eq c.loop-i.i c.args.hub in
    let o = c.in_ok-blamed.field-0 in
    record {
      fits = fits_step h c.args.spokes.now c.args.hub c.loop-i.i c.args.versions.now v b c.loop-i.fits.items c.fit_spoke.new.fits.items _ c.loop-i-test.true c.index-versions-i.is refl (none_of o _ c.in-None.is c.in_ok-blamed.ensures.fits)
          c.loop-i.invariant.fits;
      all = none_of o _ c.in-None.is c.in_ok-blamed.ensures.all;
      blame = blame_step h c.args.spokes.now c.args.hub c.loop-i.i c.args.versions.now v b _ c.loop-i-test.true c.index-versions-i.is refl (sym (ap (option_map blame_of) c.in-None.is) ∙ c.in_ok-blamed.ensures.blame) c.loop-i.invariant.blame;
    }

pub returns-clause-fits : goal.returns-clause-fits
returns-clause-fits c =
    let fs = c.loop-i.fits.items in
    sym (append-nil fs)
    ∙ ap (λ (vs : List Version). fs ++ fits_of (shape_of c.args.schema.now) c.args.spokes.now (spokes_from c.args.hub c.loop-i.i (map version_of vs))) (sym (drop_all c.loop-i.i c.args.versions.now c.loop-i-test.false))
    ∙ c.loop-i.invariant.fits

pub returns-clause-blame : goal.returns-clause-blame
returns-clause-blame c =
    ap (λ (vs : List Version). fits_blame (shape_of c.args.schema.now) c.args.spokes.now (spokes_from c.args.hub c.loop-i.i (map version_of vs))) (sym (drop_all c.loop-i.i c.args.versions.now c.loop-i-test.false))
    ∙ c.loop-i.invariant.blame
