use Rattle.std.proofs.Common.{◌≡◌, None, Some, refl, inl, inr}
use Rattle.std.proofs.lemmas.Result.{err_from_is_err_and}
use Rattle.edge_io.specs.declared.link.LinkFault.TheVariants.{Failed, NoMemory}
use Rattle.wire_client.specs.laws.FarLaws.{made_one, made_failed, made_starved}
use Rattle.wire_client.specs.inner.Seen.{answer_of}
use Rattle.wire_client.proofs.ByCode.{asked_given, asked_end}
use Rattle.wire_client.proofs.asking.ask.Goals as goal

pub returns-in-Err-Failed-clause-end : goal.returns-in-Err-Failed-clause-end
returns-in-Err-Failed-clause-end g c =
    let is : c.in-Err-Failed.field-0 ≡ Failed = cc (c.in-Err-Failed.is, c.in-Err-Failed.field-0-is) in
    record {
      answer = None;
      made = made_failed _ (record { exchanges = g.R.Link.exchanges c.args.far.now; log = g.R.Far.log c.args.far.now }) (record { exchanges = g.R.Link.exchanges c.send.new.self; log = g.R.Far.log c.send.new.self }) c.args.request.now c.in-Err-Failed.field-0 is c.in-Err-Failed.ensures.exchanges c.in-Err-Failed.ensures.serves;
      by_code = refl;
    }

pub returns-in-Err-NoMemory-clause-end : goal.returns-in-Err-NoMemory-clause-end
returns-in-Err-NoMemory-clause-end g c =
    let is : c.in-Err-NoMemory.field-0 ≡ NoMemory = cc (c.in-Err-NoMemory.is, c.in-Err-NoMemory.field-0-is) in
    inl (made_starved _ (record { exchanges = g.R.Link.exchanges c.args.far.now; log = g.R.Far.log c.args.far.now }) (record { exchanges = g.R.Link.exchanges c.send.new.self; log = g.R.Far.log c.send.new.self }) c.args.request.now c.in-Err-NoMemory.field-0 is c.in-Err-NoMemory.ensures.exchanges c.in-Err-NoMemory.ensures.serves)

pub returns-in_err-answer-clause-end : goal.returns-in_err-answer-clause-end
returns-in_err-answer-clause-end g c =
    let p = err_from_is_err_and c.from_residual.result c.from_residual.ensures.1 in
    rw (p.1, p.2) (inr (c.in-Ok.bytes.items, made_one _ (record { exchanges = g.R.Link.exchanges c.args.far.now; log = g.R.Far.log c.args.far.now }) (record { exchanges = g.R.Link.exchanges c.send.new.self; log = g.R.Far.log c.send.new.self }) c.args.request.now (Some c.in-Ok.bytes.items) c.in-Ok.ensures.exchanges c.in-Ok.ensures.serves))

pub returns-clause-given : goal.returns-clause-given
returns-clause-given g c = asked_given _ (record { exchanges = g.R.Link.exchanges c.args.far.now; log = g.R.Far.log c.args.far.now }) (record { exchanges = g.R.Link.exchanges c.send.new.self; log = g.R.Far.log c.send.new.self }) c.args.request.now c.in-Ok.bytes.items c.args.success (answer_of c.in_ok-answer.answer) c.judged.result
    (made_one _ (record { exchanges = g.R.Link.exchanges c.args.far.now; log = g.R.Far.log c.args.far.now }) (record { exchanges = g.R.Link.exchanges c.send.new.self; log = g.R.Far.log c.send.new.self }) c.args.request.now (Some c.in-Ok.bytes.items) c.in-Ok.ensures.exchanges c.in-Ok.ensures.serves) c.in_ok-answer.ensures.answer c.judged.ensures.given

pub returns-clause-end : goal.returns-clause-end
returns-clause-end g c = asked_end _ (record { exchanges = g.R.Link.exchanges c.args.far.now; log = g.R.Far.log c.args.far.now }) (record { exchanges = g.R.Link.exchanges c.send.new.self; log = g.R.Far.log c.send.new.self }) c.args.request.now c.in-Ok.bytes.items c.args.success (answer_of c.in_ok-answer.answer) c.judged.result
    (made_one _ (record { exchanges = g.R.Link.exchanges c.args.far.now; log = g.R.Far.log c.args.far.now }) (record { exchanges = g.R.Link.exchanges c.send.new.self; log = g.R.Far.log c.send.new.self }) c.args.request.now (Some c.in-Ok.bytes.items) c.in-Ok.ensures.exchanges c.in-Ok.ensures.serves) c.in_ok-answer.ensures.answer c.judged.ensures.end
