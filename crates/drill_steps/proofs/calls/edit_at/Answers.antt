use Rattle.std.proofs.Common.{◌<◌, ℕ, List, ap, Ok, Err, subst, arith}
use Rattle.api_calls.specs.Refusal.{refusal_of}
use Rattle.api_calls.specs.Reply.{reply_of}
use Rattle.shared_api.specs.Base.{server_of}
use Rattle.drill_steps.proofs.Alone.{still_alone}
use Rattle.api_calls.specs.Item.{items}
use Rattle.drill_steps.specs.declared.counts.Counts.{Counts}
use Rattle.drill_steps.specs.Calling.{CountsReplace}
use Rattle.drill_steps.proofs.Counted.{gets, refused, standing}
use Rattle.drill_steps.proofs.Results.{both_ok, on_ok}
use Rattle.drill_steps.proofs.calls.edit_at.Goals as goal

pub returns-in-Err-clause-alone : goal.returns-in-Err-clause-alone
returns-in-Err-clause-alone g c =
    let calls = c.get.ensures.answer.2 in still_alone c.args.pass.now.view c.get.new.pass.view calls.log calls.item calls.turned c.requires.alone

pub put_back-requires-clause-alone : goal.put_back-requires-clause-alone
put_back-requires-clause-alone g c =
    let calls = c.in-Ok.ensures.answer.2 in still_alone c.args.pass.now.view c.get.new.pass.view calls.log calls.item calls.turned c.requires.alone

pub returns-in-Ok-clause-edits : goal.returns-in-Ok-clause-edits
returns-in-Ok-clause-edits g c = λ object is.
    let answer = c.in-Ok.ensures.answer in
    on_ok c.put_back.result _ _ (c.put_back.ensures.replaces object is) (λ replaces. record {
      v = answer.0;
      place = answer.1;
      answer = Ok (reply_of c.in-Ok.reply);
      mid = items c.get.new.pass.view.seen;
      requests = gets (server_of g.V.Versions.meaning c.args.api.now.base) _ c.args.pass.now.view c.get.new.pass.view (λ rose. let none : 0 < 0 = rose in omega (arith, none)) c.requires.alone (Ok (reply_of c.in-Ok.reply)) (λ e. cc) c.args.counts.now c.args.counts.now object answer.0 c.args.key.now is answer.2;
      puts = subst (λ (got : List ℕ). CountsReplace (server_of g.V.Versions.meaning c.args.api.now.base) object c.args.value got (standing c.get.new.pass.view c.args.counts.now) (standing c.put_back.new.pass.view c.put_back.new.counts)) c.as_str.ensures replaces;
    })

pub returns-in-Err-clause-edits : goal.returns-in-Err-clause-edits
returns-in-Err-clause-edits g c = λ object is.
    let answer = c.in-Err.ensures.answer in
    both_ok c.refuse.result _ _ _ c.refuse.ensures.counted c.refuse.ensures.had (λ counted had. record {
      v = answer.0;
      place = answer.1;
      answer = Err (refusal_of c.in-Err.refused);
      mid = items c.get.new.pass.view.seen;
      requests = gets (server_of g.V.Versions.meaning c.args.api.now.base) _ c.args.pass.now.view c.get.new.pass.view (λ rose. let none : 0 < 0 = rose in omega (arith, none)) c.requires.alone (Err (refusal_of c.in-Err.refused)) (refused (refusal_of c.in-Err.refused) had) c.args.counts.now c.args.counts.now object answer.0 c.args.key.now is answer.2;
      puts = ap (λ (k : Counts). standing c.get.new.pass.view k) counted;
    })
