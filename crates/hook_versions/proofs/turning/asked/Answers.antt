use Rattle.std.proofs.Common.{◌≡◌, ◌∙◌, List, ℕ, Some, None, subst}
use Rattle.std.specs.Prelude.{IfOk, IfErr}
use Rattle.kj_value.specs.Json.{Json}
use Rattle.kj_value.specs.Seen.{json}
use Rattle.kube_meta.specs.Document.{document}
use Rattle.kube_meta.specs.View.{ObjectView, object_of}
use Rattle.object_reading.specs.Parts.{whole_in}
use Rattle.converters.specs.Turns as turns
use Rattle.hook_versions.proofs.Asked.{same_document, is_object, within, of_sent}
use Rattle.hook_versions.proofs.turning.asked.Goals as goal

pub turn-requires-clause-object : goal.turn-requires-clause-object
turn-requires-clause-object g c =
    is_object (object_of c.args.x.now) (object_of c.in_ok-copy_object.field-0) (json c.in_ok-document.document) c.in_ok-copy_object.ensures c.in_ok-document.ensures.value

pub turn-requires-clause-levels : goal.turn-requires-clause-levels
turn-requires-clause-levels g c =
    within (object_of c.args.x.now) (object_of c.in_ok-copy_object.field-0) (json c.in_ok-document.document) c.in_ok-copy_object.ensures c.in_ok-document.ensures.value c.args.set.now c.requires.sent

pub returns-clause-turned : goal.returns-clause-turned
returns-clause-turned g c = λ honest.
    let x : ObjectView = object_of c.args.x.now in
    subst (λ (to : List ℕ). IfOk c.turn.result (λ y. g.C.Converter.turned x to ≡ Some (whole_in (json y)))) (c.as_str.ensures ∙ c.in_ok-to.ensures)
    (c.turn.ensures.turned honest x (of_sent x (object_of c.in_ok-copy_object.field-0) (json c.in_ok-document.document) c.in_ok-copy_object.ensures c.in_ok-document.ensures.value c.args.set.now c.requires.sent))

pub returns-clause-refused : goal.returns-clause-refused
returns-clause-refused g c = λ honest.
    let x : ObjectView = object_of c.args.x.now in
    subst (λ (to : List ℕ). IfErr c.turn.result (turns.OnRefused (g.C.Converter.turned x to ≡ None))) (c.as_str.ensures ∙ c.in_ok-to.ensures)
    (c.turn.ensures.refused honest x (of_sent x (object_of c.in_ok-copy_object.field-0) (json c.in_ok-document.document) c.in_ok-copy_object.ensures c.in_ok-document.ensures.value c.args.set.now c.requires.sent))

pub returns-clause-turns : goal.returns-clause-turns
returns-clause-turns g c =
    let told = g.C.Converter.turns c.args.tool.now in
    let x : ObjectView = object_of c.args.x.now in
    subst (λ (to : List ℕ). g.C.Converter.turns c.turn.new.self ≡ turns.after_turn json told (document x) to c.turn.result) (c.as_str.ensures ∙ c.in_ok-to.ensures)
    (subst (λ (j : Json). g.C.Converter.turns c.turn.new.self ≡ turns.after_turn json told j c.as_str.result.now c.turn.result)
    (same_document x (object_of c.in_ok-copy_object.field-0) (json c.in_ok-document.document) c.in_ok-copy_object.ensures c.in_ok-document.ensures.value) c.turn.ensures.turns)
