use Rattle.std.proofs.Common.{◌≡◌, ◌∙◌, ◌+◌, Some, None, codes, ap, refl, subst, inl}
use Rattle.kj_value.specs.Seen.{json}
use Rattle.edge_io.specs.Causes.{Rose}
use Rattle.http_wire.specs.Requesting.{asks_for}
use Rattle.review_forms.specs.Response.{Asked}
use Rattle.link_converter.specs.Asking.{ConverterState, asked_of, review_of}
use Rattle.link_converter.proofs.Asked.{asked_is, has_asked, was_taken, was_not_taken, broke, broken}
use Rattle.link_converter.proofs.link_converter.LinkConverter.ask.Goals as goal

pub returns-in-Ok-clause-taken : goal.returns-in-Ok-clause-taken
returns-in-Ok-clause-taken g c =
    let now : ConverterState = record {
      exchanges = g.L.Link.exchanges c.exchanged.new.link;
      link_faults = g.L.Link.faults c.exchanged.new.link;
      target = c.self.inside.target.bytes;
      asked = c.args.asked;
      faults = c.self.inside.faults;
    } in
    let asked : Asked = record { uid = c.as_str-2.result.now; desired = c.args.to.now; sent = c.in_ok-sent.sent } in
    let is : asked ≡ asked_of (c.args.self.now.asked + 1) (json c.args.object.now) c.args.to.now =
    asked_is c.args.self.now (json c.args.object.now) c.args.to.now c.as_str-2.result.now c.args.asked c.in_ok-sent.sent c.requires.number (c.as_str-2.ensures ∙ c.in_ok-uid.ensures) c.in_ok-sent.ensures in
    let answered : Asked = record { uid = c.as_str-in-Ok.result.now; desired = c.args.to.now; sent = c.in_ok-sent.sent } in
    let same : answered ≡ asked_of (c.args.self.now.asked + 1) (json c.args.object.now) c.args.to.now =
    asked_is c.args.self.now (json c.args.object.now) c.args.to.now c.as_str-in-Ok.result.now c.args.asked c.in_ok-sent.sent c.requires.number (c.as_str-in-Ok.ensures ∙ c.in_ok-uid.ensures) c.in_ok-sent.ensures in
    was_taken c.args.self.now now (json c.args.object.now) c.args.to.now c.in-Ok.answer.items answered c.taken.result
    (has_asked c.args.self.now now (json c.args.object.now) c.args.to.now c.as_str.result.now (g.L.Link.exchanges c.self.inside.link) (Some c.in-Ok.answer.items) c.args.asked asked
    (ap (λ (s : ConverterState). s.exchanges) c.self.view_is) (c.as_str.ensures ∙ ap (λ (s : ConverterState). s.target) c.self.view_is) c.requires.number is refl c.in-Ok.ensures.exchanges)
    same c.taken.ensures.taken

pub returns-in-Ok-clause-untaken : goal.returns-in-Ok-clause-untaken
returns-in-Ok-clause-untaken g c =
    let now : ConverterState = record {
      exchanges = g.L.Link.exchanges c.exchanged.new.link;
      link_faults = g.L.Link.faults c.exchanged.new.link;
      target = c.self.inside.target.bytes;
      asked = c.args.asked;
      faults = c.self.inside.faults;
    } in
    let asked : Asked = record { uid = c.as_str-2.result.now; desired = c.args.to.now; sent = c.in_ok-sent.sent } in
    let is : asked ≡ asked_of (c.args.self.now.asked + 1) (json c.args.object.now) c.args.to.now =
    asked_is c.args.self.now (json c.args.object.now) c.args.to.now c.as_str-2.result.now c.args.asked c.in_ok-sent.sent c.requires.number (c.as_str-2.ensures ∙ c.in_ok-uid.ensures) c.in_ok-sent.ensures in
    let answered : Asked = record { uid = c.as_str-in-Ok.result.now; desired = c.args.to.now; sent = c.in_ok-sent.sent } in
    let same : answered ≡ asked_of (c.args.self.now.asked + 1) (json c.args.object.now) c.args.to.now =
    asked_is c.args.self.now (json c.args.object.now) c.args.to.now c.as_str-in-Ok.result.now c.args.asked c.in_ok-sent.sent c.requires.number (c.as_str-in-Ok.ensures ∙ c.in_ok-uid.ensures) c.in_ok-sent.ensures in
    was_not_taken c.args.self.now now (json c.args.object.now) c.args.to.now c.in-Ok.answer.items answered (Rose c.args.self.now.link_faults (g.L.Link.faults c.exchanged.new.link)) c.taken.result
    (has_asked c.args.self.now now (json c.args.object.now) c.args.to.now c.as_str.result.now (g.L.Link.exchanges c.self.inside.link) (Some c.in-Ok.answer.items) c.args.asked asked
    (ap (λ (s : ConverterState). s.exchanges) c.self.view_is) (c.as_str.ensures ∙ ap (λ (s : ConverterState). s.target) c.self.view_is) c.requires.number is refl c.in-Ok.ensures.exchanges)
    same c.taken.ensures.left

pub returns-in-Err-Failed-clause-untaken : goal.returns-in-Err-Failed-clause-untaken
returns-in-Err-Failed-clause-untaken g c =
    let now : ConverterState = record {
      exchanges = g.L.Link.exchanges c.exchanged.new.link;
      link_faults = g.L.Link.faults c.exchanged.new.link;
      target = c.self.inside.target.bytes;
      asked = c.args.asked;
      faults = c.self.inside.faults;
    } in
    let asked : Asked = record { uid = c.as_str-2.result.now; desired = c.args.to.now; sent = c.in_ok-sent.sent } in
    let is : asked ≡ asked_of (c.args.self.now.asked + 1) (json c.args.object.now) c.args.to.now =
    asked_is c.args.self.now (json c.args.object.now) c.args.to.now c.as_str-2.result.now c.args.asked c.in_ok-sent.sent c.requires.number (c.as_str-2.ensures ∙ c.in_ok-uid.ensures) c.in_ok-sent.ensures in
    inl (
      subst (λ (s : ConverterState). Rose s.link_faults (g.L.Link.faults c.exchanged.new.link)) c.self.view_is
          (broken (Rose (g.L.Link.faults c.self.inside.link) (g.L.Link.faults c.exchanged.new.link)) c.in-Err-Failed.field-0 c.in-Err-Failed.field-0-is c.in-Err-Failed.ensures.cause),
      has_asked c.args.self.now now (json c.args.object.now) c.args.to.now c.as_str.result.now (g.L.Link.exchanges c.self.inside.link) None c.args.asked asked
          (ap (λ (s : ConverterState). s.exchanges) c.self.view_is) (c.as_str.ensures ∙ ap (λ (s : ConverterState). s.target) c.self.view_is) c.requires.number is refl
          (broke (g.L.Link.exchanges c.exchanged.new.link) (g.L.Link.exchanges c.self.inside.link) (asks_for (codes "POST") c.as_str.result.now (review_of asked)) c.in-Err-Failed.field-0 c.in-Err-Failed.field-0-is c.in-Err-Failed.ensures.exchanges),
    )
