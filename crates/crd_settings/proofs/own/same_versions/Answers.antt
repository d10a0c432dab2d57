use Rattle.std.proofs.Common.{Bool, ◌≡◌, ◌<◌, ◌+◌, ◌&&◌, length, map, drop, ap, sym, true, ◌∙◌, arith}
use Rattle.kj_value.specs.Json.{items_of}
use Rattle.kj_value.specs.Same.{items_same, json_same}
use Rattle.kj_value.specs.Seen.{json}
use Rattle.crd_reading.specs.Spelled.{versions_read}
use Rattle.crd_settings.specs.Flags.{mark_in, version_with, versions_with}
use Rattle.crd_settings.specs.declared.parts.Mark.{Mark}
use Rattle.crd_settings.proofs.Compared.{versions_differ, versions-step}
use Rattle.crd_settings.proofs.own.same_versions.Goals as goal

pub returns-then-given-own : goal.returns-then-given-own
returns-then-given-own c = versions_differ _ 0 _ _ c.if-given-own.true

pub loop-v-preserved : goal.loop-v-preserved
loop-v-preserved c =
    let xs = c.args.given.now in
    let ys = c.args.own.now in
    let v = c.loop-v.v in
    let x = c.index-given-v.result in
    let y = c.index-own-v.result in
    let in_own : v < length ys = omega arith in
    let step = versions-step (mark_in (versions_read (items_of (map json c.args.marks.now)))) v xs ys x y c.loop-v-test.true in_own c.index-given-v.is c.index-own-v.is in
    let same : json_same (json x) (version_with (mark_in (versions_read (items_of (map json c.args.marks.now))) v) (json y)) ≡ true =
    sym (c.same_version.ensures ∙ ap (λ (m : Mark). json_same (json x) (version_with m (json y))) c.mark_in.ensures) ∙ c.if-not-same_version.false in
    sym (step ∙ ap (λ (b : Bool). b && items_same (items_of (map json (drop (v + 1) xs))) (versions_with (mark_in (versions_read (items_of (map json c.args.marks.now)))) (v + 1) (items_of (map json (drop (v + 1) ys))))) same)
    ∙ c.loop-v.invariant
