use Rattle.std.proofs.Common.{arith, refl}
use Rattle.crd_settings.proofs.Room.{known-list, same-count, show-fits, show-left, show-text}
use Rattle.crd_settings.proofs.pieces.Pieces.show.Goals as goal

pub add_parts-requires : goal.add_parts-requires
add_parts-requires c =
    let p = c.args.self.now in
    let fits = show-fits c.requires.definition p c.as_slice.result.now p.names.items c.requires.pieces c.as_slice.ensures.value refl c.args.flags.now c.args.stored.now c.requires.known in
    omega (arith, fits, c.requires.fits)

pub add_names-requires : goal.add_names-requires
add_names-requires c =
    let p = c.args.self.now in
    let fits = show-fits c.requires.definition p c.as_slice.result.now c.as_slice-2.result.now c.requires.pieces c.as_slice.ensures.value c.as_slice-2.ensures.value c.args.flags.now c.args.stored.now c.requires.known in
    record {
      stored = known-list c.requires.definition p c.as_slice-2.result.now c.requires.pieces c.as_slice-2.ensures.value c.args.stored.now c.requires.known;
      room = omega (arith, fits, c.requires.fits, c.add_parts.ensures.room);
    }

pub add-requires : goal.add-requires
add-requires c =
    let p = c.args.self.now in
    let fits = show-fits c.requires.definition p c.as_slice.result.now c.as_slice-2.result.now c.requires.pieces c.as_slice.ensures.value c.as_slice-2.ensures.value c.args.flags.now c.args.stored.now c.requires.known in
    rw c.behind_stored.ensures (omega (arith, fits, c.requires.fits, c.add_parts.ensures.room, c.add_names.ensures.room))

pub returns : goal.returns
returns c =
    let p = c.args.self.now in
    let s = c.args.stored.now in
    record {
      text = λ d its. show-text d p c.as_slice.result.now c.as_slice-2.result.now its c.as_slice.ensures.value c.as_slice-2.ensures.value c.args.flags.now s
          (same-count c.requires.definition d p c.requires.pieces its s c.requires.known) _ _ _ _ _ c.add_parts.ensures.text c.add_names.ensures.text c.add.ensures.bytes c.behind_stored.ensures;
      room = λ d its. show-left d p c.as_slice.result.now c.as_slice-2.result.now its c.as_slice.ensures.value c.as_slice-2.ensures.value c.args.flags.now s
          (same-count c.requires.definition d p c.requires.pieces its s c.requires.known) _ _ _ _ _ c.add_parts.ensures.room c.add_names.ensures.room c.add.ensures.room c.behind_stored.ensures;
    }
