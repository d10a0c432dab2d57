use Rattle.std.proofs.Common.{List, ℕ, ◌≤◌, ◌+◌, ◌++◌, length, map, drop, ap, sym, ◌∙◌, append_assoc, length-append, arith}
use Rattle.kj_value.specs.Texts.{bytes_of}
use Rattle.api_calls.specs.Versions.{versions_of}
use Rattle.crd_settings.specs.Pieces.{comma_before, name_at, names_from}
use Rattle.crd_settings.proofs.Room.{named-step}
use Rattle.crd_settings.proofs.pieces.add_names.Goals as goal

pub add_name-requires : goal.add_name-requires
add_name-requires c =
    let i = c.loop-i.i in
    let s = c.args.stored.now in
    let long : s.len ≤ length s.items = omega arith in
    let step = named-step c.args.names.now s i c.index-names-v.result c.as_str.result.now c.loop-i-test.true long c.requires.stored c.index-names-v.is c.as_str.ensures in
    omega (arith, ap length step, c.loop-i.invariant.room, c.requires.room, length-append (comma_before i ++ c.as_str.result.now) (names_from (i + 1) (map (name_at (map bytes_of c.args.names.now)) (drop (i + 1) (versions_of s)))))

pub loop-i-preserved : goal.loop-i-preserved
loop-i-preserved c =
    let i = c.loop-i.i in
    let s = c.args.stored.now in
    let long : s.len ≤ length s.items = omega arith in
    let rest = names_from (i + 1) (map (name_at (map bytes_of c.args.names.now)) (drop (i + 1) (versions_of s))) in
    let step = named-step c.args.names.now s i c.index-names-v.result c.as_str.result.now c.loop-i-test.true long c.requires.stored c.index-names-v.is c.as_str.ensures in
    record {
      text =
          ap (λ (b : List ℕ). b ++ rest) c.add_name.ensures.text
          ∙ (append_assoc c.loop-i.out.bytes (comma_before i ++ c.as_str.result.now) rest
          ∙ (ap (λ (t : List ℕ). c.loop-i.out.bytes ++ t) (sym step) ∙ c.loop-i.invariant.text));
      room = omega (arith, ap length step, c.loop-i.invariant.room, c.add_name.ensures.room, length-append (comma_before i ++ c.as_str.result.now) rest);
    }
