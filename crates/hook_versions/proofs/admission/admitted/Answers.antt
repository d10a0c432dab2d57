use Rattle.std.proofs.Common.{◌<◌, ◌≤◌, IsTrue, sym, subst, length, arith}
use Rattle.std.specs.Prelude.{option_map}
use Rattle.kj_value.specs.Json.{depth}
use Rattle.kube_meta.specs.Document.{document}
use Rattle.kube_meta.specs.View.{object_of}
use Rattle.api_calls.specs.Meaning.{Weighs}
use Rattle.api_calls.specs.Versions.{Refused, request_of}
use Rattle.api_calls.specs.declared.versions.TheConstants.{OBJECT_LEVELS}
use Rattle.crd_reading.specs.View.{DefinitionView}
use Rattle.crd_meaning.specs.Admission.{Passes}
use Rattle.crd_meaning.specs.Definition.{count_of}
use Rattle.crd_loading.specs.Passed.{IsPassed}
use Rattle.crd_admission.specs.Steps.{with_rules, RefusesBody}
use Rattle.crd_settings.specs.SettledLaws.{settings_of}
use Rattle.crd_laws.specs.Hook.{Admits, hook_meaning}
use Rattle.crd_laws.specs.Turning.{AdmitsBy, OfTurns}
use Rattle.hook_versions.specs.Facts.{hooked}
use Rattle.hook_versions.specs.Taken.{AreFew}
use Rattle.hook_versions.specs.inner.Weighing.{IsOwnOf, IsKept, CameIn}
use Rattle.hook_versions.proofs.Admitting.{let_in, let_in_by, few_in, weighs_in, some_in, kept_in, levels_in, refuses_hub, blames_hub, refuses_body, blames_body, refuses_put, blames_put}
use Rattle.hook_versions.proofs.Free.{passes_free}
use Rattle.hook_versions.proofs.Objects.{passed_standing}
use Rattle.hook_versions.proofs.Results.{one_ok, one_err, some_seen}
use Rattle.hook_versions.proofs.admission.admitted.Goals as goal

pub pass_body-requires-clause-known : goal.pass_body-requires-clause-known
pass_body-requires-clause-known g c = subst (λ (v : DefinitionView). c.args.input.now.version < length v.versions) (sym c.definition.ensures) c.requires.known

pub at_hub-requires-clause-standing : goal.at_hub-requires-clause-standing
at_hub-requires-clause-standing g c =
    let k = hooked c.args.set.now g.C.Converter.HONEST g.C.Converter.turned in
    let d = c.args.set.now in
    let r = request_of c.args.input.now in
    let x = object_of c.in-Ok.passed.object in
    let e = c.in-Ok.passed.expected in
    let passes : Passes d r x e = subst (λ (v : DefinitionView). Passes (with_rules v d.hub d.spokes) r x e) c.definition.ensures (c.in-Ok.ensures.passes d.hub d.spokes) in
    let passed : IsPassed d r.version x = subst (λ (v : DefinitionView). IsPassed (with_rules v d.hub d.spokes) r.version x) c.definition.ensures (c.in-Ok.ensures.passed d.hub d.spokes) in
    passed_standing d r.version x passed (passes_free d r x e c.versions.ensures.whole c.requires.known passes)

pub let_in-came-requires-clause-own : goal.let_in-came-requires-clause-own
let_in-came-requires-clause-own g c =
    let k = hooked c.args.set.now g.C.Converter.HONEST g.C.Converter.turned in
    some_seen object_of (IsOwnOf k (object_of c.in-Ok-at_hub.hub)) c.in-Ok-at_hub.own c.in-Ok-at_hub.ensures.put.mine

pub returns-in-Err-clause-refused : goal.returns-in-Err-clause-refused
returns-in-Err-clause-refused g c =
    let d = c.args.set.now in
    let r = request_of c.args.input.now in
    refuses_body (hooked d g.C.Converter.HONEST g.C.Converter.turned) r _ c.in-Err.fault (subst (λ (v : DefinitionView). Refused (RefusesBody (with_rules v d.hub d.spokes) r) ⊥ c.in-Err.fault) c.definition.ensures (c.in-Err.ensures.refused d.hub d.spokes))

pub returns-in-Err-clause-blames : goal.returns-in-Err-clause-blames
returns-in-Err-clause-blames g c =
    let d = c.args.set.now in
    let r = request_of c.args.input.now in
    blames_body d (g.C.Converter.turns c.args.tool.now) r c.in-Err.fault (subst (λ (v : DefinitionView). Refused (RefusesBody (with_rules v d.hub d.spokes) r) ⊥ c.in-Err.fault) c.definition.ensures (c.in-Err.ensures.refused d.hub d.spokes))

pub returns-in-Err-at_hub-clause-refused : goal.returns-in-Err-at_hub-clause-refused
returns-in-Err-at_hub-clause-refused g c =
    let k = hooked c.args.set.now g.C.Converter.HONEST g.C.Converter.turned in
    let d = c.args.set.now in
    let r = request_of c.args.input.now in
    let x = object_of c.in-Ok.passed.object in
    let e = c.in-Ok.passed.expected in
    let passes : Passes d r x e = subst (λ (v : DefinitionView). Passes (with_rules v d.hub d.spokes) r x e) c.definition.ensures (c.in-Ok.ensures.passes d.hub d.spokes) in
    let a = g.C.Converter.turns c.args.tool.now in
    let b = g.C.Converter.turns c.at_hub.new.tool in
    refuses_put k r x e passes a b _ c.in-Err-at_hub.fault c.in-Err-at_hub.ensures.refused

pub returns-in-Err-at_hub-clause-blames : goal.returns-in-Err-at_hub-clause-blames
returns-in-Err-at_hub-clause-blames g c =
    let k = hooked c.args.set.now g.C.Converter.HONEST g.C.Converter.turned in
    let d = c.args.set.now in
    let r = request_of c.args.input.now in
    let x = object_of c.in-Ok.passed.object in
    let e = c.in-Ok.passed.expected in
    let passes : Passes d r x e = subst (λ (v : DefinitionView). Passes (with_rules v d.hub d.spokes) r x e) c.definition.ensures (c.in-Ok.ensures.passes d.hub d.spokes) in
    let a = g.C.Converter.turns c.args.tool.now in
    let b = g.C.Converter.turns c.at_hub.new.tool in
    blames_put k r x e passes a b (g.C.Tool.faults c.args.tool.now < g.C.Tool.faults c.at_hub.new.tool) c.in-Err-at_hub.fault c.in-Err-at_hub.ensures.refused

pub returns-in-Ok-at_hub : goal.returns-in-Ok-at_hub
returns-in-Ok-at_hub g c =
    let k = hooked c.args.set.now g.C.Converter.HONEST g.C.Converter.turned in
    let d = c.args.set.now in
    let r = request_of c.args.input.now in
    let x = object_of c.in-Ok.passed.object in
    let e = c.in-Ok.passed.expected in
    let passes : Passes d r x e = subst (λ (v : DefinitionView). Passes (with_rules v d.hub d.spokes) r x e) c.definition.ensures (c.in-Ok.ensures.passes d.hub d.spokes) in
    let a = g.C.Converter.turns c.args.tool.now in
    let b = g.C.Converter.turns c.at_hub.new.tool in
    let z = g.C.Converter.turns c.let_in-came.new.tool in
    let h = object_of c.in-Ok-at_hub.hub in
    let own = option_map object_of c.in-Ok-at_hub.own in
    let put = c.in-Ok-at_hub.ensures.put in
    let first = c.at_hub.ensures.rises in
    let then = c.let_in-came.ensures.rises in
    let least = c.versions.ensures.whole.least in
    let some : 0 < count_of d = omega (arith, least) in
    let came = c.let_in-came.result in
    let P = CameIn k b z own h e c.args.storage in
    let back = c.let_in-came.ensures.back in
    let rose = g.C.Tool.faults c.at_hub.new.tool < g.C.Tool.faults c.let_in-came.new.tool in
    let more = g.C.Tool.faults c.args.tool.now < g.C.Tool.faults c.let_in-came.new.tool in record {
      ok = one_ok P (λ m. Admits k r (object_of m.hub) m.expected) came (λ m t. let_in k r x h e passes a b z own put c.args.storage m t) back;
      rests = one_ok P (λ m. OfTurns a z (λ ts. AdmitsBy d ts r (object_of m.hub) m.expected)) came (λ m t. let_in_by k r x h e passes a b z own put c.args.storage m t) back;
      few = one_ok P (λ m. OfTurns a z (AreFew d r (object_of m.hub))) came (λ m t. few_in k r x h e passes a b z own put c.args.storage m t c.requires.known c.hub.ensures.known) back;
      weighs = one_ok P (λ m. IsTrue k.honest → Weighs (hook_meaning k (settings_of d.view)) (object_of m.hub) m.weight) came
          (λ m t. weighs_in k r x h e passes a b z own put c.args.storage m t (settings_of d.view) some) back;
      weight = one_ok P (λ m. 0 < m.weight) came (λ m t. some_in k r x h e passes a b z own put c.args.storage m t some) back;
      shape = one_ok P (λ m. IsKept k c.args.storage (object_of m.hub) m.shape) came (λ m t. kept_in k r x h e passes a b z own put c.args.storage m t) back;
      levels = one_ok P (λ m. depth (document (object_of m.hub)) ≤ OBJECT_LEVELS) came (λ m t. levels_in k r x h e passes a b z own put c.args.storage m t) back;
      refused = one_err _ _ came (λ f m. refuses_hub k r x h e passes a b z own put rose more f (λ p. omega (arith, first, p)) m) c.let_in-came.ensures.refused;
      blames = one_err _ _ came (λ f m. blames_hub k r x h e passes a b z own put rose f m) c.let_in-came.ensures.refused;
      rises = omega (arith, first, then);
    }
