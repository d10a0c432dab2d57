use Rattle.std.proofs.Common.{map}
use Rattle.crd_reading.specs.Seen.{version_of}
use Rattle.crd_loading.specs.Fits.{spokes_of}
use Rattle.crd_loading.proofs.Others.{read_is}
use Rattle.crd_loading.proofs.naming.other_version.Goals as goal

pub returns : goal.returns
returns c =
    let vs = c.args.versions.now in
    read_is (spokes_of c.args.hub (map version_of vs)) vs c.args.i c.place_of-place.result c.index-versions-place.result c.place_of-place.ensures.place c.place_of-place.ensures.within c.index-versions-place.is
