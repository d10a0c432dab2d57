use Rattle.std.proofs.Common.{◌<◌, ℕ, [], ap, Ok, Err, refl, arith}
use Rattle.api_calls.specs.Refusal.{refusal_of}
use Rattle.api_calls.specs.Reply.{reply_of}
use Rattle.shared_api.specs.Base.{server_of}
use Rattle.drill_steps.proofs.Alone.{still_alone}
use Rattle.drill_steps.proofs.Counted.{deletes, refused}
use Rattle.drill_steps.proofs.Results.{both_ok}
use Rattle.drill_steps.proofs.calls.delete_at.Goals as goal

pub returns-in-Ok-clause-alone : goal.returns-in-Ok-clause-alone
returns-in-Ok-clause-alone g c =
    let calls = c.delete.ensures.answer.2 in still_alone c.args.pass.now.view c.delete.new.pass.view calls.log calls.item calls.turned c.requires.alone

pub returns-in-Err-clause-alone : goal.returns-in-Err-clause-alone
returns-in-Err-clause-alone g c =
    let calls = c.delete.ensures.answer.2 in still_alone c.args.pass.now.view c.delete.new.pass.view calls.log calls.item calls.turned c.requires.alone

pub returns-in-Ok-clause-deletes : goal.returns-in-Ok-clause-deletes
returns-in-Ok-clause-deletes g c = λ object is.
    let answer = c.in-Ok.ensures.answer in
    deletes (server_of g.V.Versions.meaning c.args.api.now.base) _ c.args.pass.now.view c.delete.new.pass.view (λ rose. let none : 0 < 0 = rose in omega (arith, none)) c.requires.alone (Ok (reply_of c.in-Ok._reply)) (λ e. cc) c.args.counts.now _ c.stamp.result.text [] object answer.0 c.args.key.now c.stamp.ensures.text refl is answer.1 (ap (λ (n : ℕ). record c.args.counts.now { deleted = n }) c.one_more-counts.ensures) answer.2

pub returns-in-Err-clause-deletes : goal.returns-in-Err-clause-deletes
returns-in-Err-clause-deletes g c = λ object is.
    let answer = c.in-Err.ensures.answer in
    both_ok c.refuse.result _ _ _ c.refuse.ensures.counted c.refuse.ensures.had (λ counted had.
    deletes (server_of g.V.Versions.meaning c.args.api.now.base) _ c.args.pass.now.view c.delete.new.pass.view (λ rose. let none : 0 < 0 = rose in omega (arith, none)) c.requires.alone (Err (refusal_of c.in-Err.refusal)) (refused (refusal_of c.in-Err.refusal) had) c.args.counts.now c.refuse.new.self c.stamp.result.text [] object answer.0 c.args.key.now c.stamp.ensures.text refl is answer.1 counted answer.2)
