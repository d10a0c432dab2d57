use Rattle.std.proofs.Common.{◌≡◌, ap, refl, arith, length}
use Rattle.std.proofs.lemmas.List.{map-append, length-map}
use Rattle.edge_io.specs.Memory.{origin_of}
use Rattle.edge_io.specs.NumberLaws.{numbered-next}
use Rattle.edge_io.proofs.mem_ears.MemEarsEars.next.Goals as goal

pub returns-in-Ok-clause-origins : goal.returns-in-Ok-clause-origins
returns-in-Ok-clause-origins c =
    let count : length c.self.inside.heard.items ≡ c.len.result = omega (arith, c.len.ensures) in (
      record { number = c.len.result; bytes = c.in-Some.connection.source.bytes },
      ap origin_of c.hand_out-handed.ensures.input,
      rw (← c.self.view_is, c.in-Ok.ensures.items, map-append, c.hand_out-handed.ensures.bytes, numbered-next, length-map, count) refl,
    )
