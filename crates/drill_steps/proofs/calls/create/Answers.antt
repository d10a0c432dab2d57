use Rattle.std.proofs.Common.{◌<◌, ℕ, ap, Ok, Err, refl, arith}
use Rattle.api_calls.specs.Refusal.{refusal_of}
use Rattle.api_calls.specs.Reply.{reply_of}
use Rattle.shared_api.specs.Base.{server_of}
use Rattle.drill_steps.proofs.Alone.{still_alone}
use Rattle.kube_meta.specs.Names.{is_namespace}
use Rattle.drill_steps.proofs.Counted.{creates, refused}
use Rattle.drill_steps.proofs.Results.{both_ok}
use Rattle.drill_steps.proofs.calls.create.Goals as goal

pub create-requires-clause-ns : goal.create-requires-clause-ns
unfolding is_namespace
create-requires-clause-ns g c = refl

pub returns-in-Ok-clause-alone : goal.returns-in-Ok-clause-alone
returns-in-Ok-clause-alone g c =
    let calls = c.create.ensures.answer.2 in still_alone c.args.pass.now.view c.create.new.pass.view calls.log calls.item calls.turned c.requires.alone

pub returns-in-Err-clause-alone : goal.returns-in-Err-clause-alone
returns-in-Err-clause-alone g c =
    let calls = c.create.ensures.answer.2 in still_alone c.args.pass.now.view c.create.new.pass.view calls.log calls.item calls.turned c.requires.alone

pub returns-in-Ok-clause-creates : goal.returns-in-Ok-clause-creates
returns-in-Ok-clause-creates g c =
    let answer = c.in-Ok.ensures.answer in
    creates (server_of g.V.Versions.meaning c.args.api.now.base) _ c.args.pass.now.view c.create.new.pass.view (λ rose. let none : 0 < 0 = rose in omega (arith, none)) c.requires.alone (Ok (reply_of c.in-Ok._reply)) (λ e. cc) c.args.counts.now _ c.stamp.result.text c.args.version.now c.as_bytes.result.now c.args.body.now answer.0 c.stamp.ensures.text c.as_bytes.ensures.value answer.1 (ap (λ (n : ℕ). record c.args.counts.now { created = n }) c.one_more-counts.ensures) answer.2

pub returns-in-Err-clause-creates : goal.returns-in-Err-clause-creates
returns-in-Err-clause-creates g c =
    let answer = c.in-Err.ensures.answer in
    both_ok c.refuse.result _ _ _ c.refuse.ensures.counted c.refuse.ensures.had (λ counted had.
    creates (server_of g.V.Versions.meaning c.args.api.now.base) _ c.args.pass.now.view c.create.new.pass.view (λ rose. let none : 0 < 0 = rose in omega (arith, none)) c.requires.alone (Err (refusal_of c.in-Err.refusal)) (refused (refusal_of c.in-Err.refusal) had) c.args.counts.now c.refuse.new.self c.stamp.result.text c.args.version.now c.as_bytes.result.now c.args.body.now answer.0 c.stamp.ensures.text c.as_bytes.ensures.value answer.1 counted answer.2)
