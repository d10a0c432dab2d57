use Rattle.std.proofs.Common.{◌≡◌, ◌∙◌}
use Rattle.kj_value.specs.declared.rule.Rule.TheVariants as rule
use Rattle.kube_meta.specs.View.{ObjectView, object_of}
use Rattle.api_calls.specs.Meaning.{Fault}
use Rattle.hub_cells.specs.Level.{Name}
use Rattle.crd_meaning.specs.Request.{breaks}
use Rattle.crd_meaning.specs.Refusal.{object_path}
use Rattle.crd_admission.specs.NoHub.{HasNoHub, IsTold}
use Rattle.crd_admission.proofs.PassedObjects.{of_passed, is_hub}
use Rattle.crd_admission.proofs.Refusing.{refused_more}
use Rattle.crd_admission.proofs.Results.{told_unread, told_heavy}
use Rattle.crd_admission.proofs.hubs.hub_value.Goals as goal

pub hub_of-requires : goal.hub_of-requires
hub_of-requires c = of_passed c.args.set.now c.args.v (object_of c.args.x) c.requires.known c.requires.passed

pub weigh-requires : goal.weigh-requires
weigh-requires c = c.in-Ok-hub_of.ensures.value c.requires.passed

pub returns-in-Err-hub_of-clause-refused : goal.returns-in-Err-hub_of-clause-refused
returns-in-Err-hub_of-clause-refused c =
    let d = c.args.set.now in
    let x : ObjectView = object_of c.args.x in
    let name : Name = c.in-Ok.name.bytes in
    let same : name ≡ x.meta.name = c.in-Ok.ensures ∙ c.as_str.ensures in
    refused_more (IsTold name c.in-Err-hub_of.fault) (HasNoHub d c.args.v x) c.unread.result (told_unread d c.args.v x name c.in-Err-hub_of.fault same c.in-Err-hub_of.ensures.bad) c.unread.ensures

pub returns-in-Ok-None-clause-refused : goal.returns-in-Ok-None-clause-refused
returns-in-Ok-None-clause-refused c =
    let d = c.args.set.now in
    let x : ObjectView = object_of c.args.x in
    let h : ObjectView = object_of c.in-Ok-hub_of.hub in
    let name : Name = c.in-Ok.name.bytes in
    let same : name ≡ x.meta.name = c.in-Ok.ensures ∙ c.as_str.ensures in
    let hub = is_hub d c.args.v x h c.in-Ok-hub_of.ensures.hub (c.in-Ok-hub_of.ensures.value c.requires.passed) in
    refused_more (λ (f : Fault). f ≡ breaks name object_path rule.Size) (HasNoHub d c.args.v x) c.too_large.result (
    told_heavy d c.args.v c.args.storage x h name c.in-Ok-None.field-0 same (c.one_hub.ensures.read d c.args.v x h hub) (λ g a. c.one_hub.ensures.one d c.hub.ensures.loaded c.args.v x g h a hub) c.in-Ok-None.field-0-is c.in-Ok-None.ensures
    ) c.too_large.ensures

pub returns-in-Ok-Some-clause-read : goal.returns-in-Ok-Some-clause-read
returns-in-Ok-Some-clause-read c =
    let d = c.args.set.now in
    let x : ObjectView = object_of c.args.x in
    let h : ObjectView = object_of c.in-Ok-hub_of.hub in
    c.one_hub.ensures.read d c.args.v x h (is_hub d c.args.v x h c.in-Ok-hub_of.ensures.hub (c.in-Ok-hub_of.ensures.value c.requires.passed))

pub returns-in-Ok-Some-clause-hub : goal.returns-in-Ok-Some-clause-hub
returns-in-Ok-Some-clause-hub c =
    is_hub c.args.set.now c.args.v (object_of c.args.x) (object_of c.in-Ok-hub_of.hub) c.in-Ok-hub_of.ensures.hub (c.in-Ok-hub_of.ensures.value c.requires.passed)
