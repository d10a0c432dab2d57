use Rattle.std.proofs.Common.{◌≡◌, ◌<◌, ℕ, List, [], Ok, Err, refl, subst, arith}
use Rattle.api_calls.specs.Refusal.{refusal_of}
use Rattle.api_calls.specs.Reply.{reply_of}
use Rattle.shared_api.specs.Base.{server_of}
use Rattle.drill_requests.specs.Replies.{AsRead, items_in, version_in}
use Rattle.drill_steps.specs.Counting.{no_counts}
use Rattle.drill_steps.proofs.Counted.{lists, refused}
use Rattle.drill_steps.proofs.Results.{if_ok}
use Rattle.drill_steps.proofs.calls.list.Goals as goal

pub returns-in-Ok : goal.returns-in-Ok
returns-in-Ok g c =
    let answer = c.in-Ok.ensures.answer in
    record {
      lists = if_ok c.shown.result _ _ c.shown.ensures (λ s shows.
          lists (server_of g.V.Versions.meaning c.args.api.now.base) _ c.args.pass.now.view c.list.new.pass.view (λ rose. let none : 0 < 0 = rose in omega (arith, none)) c.requires.alone (Ok (reply_of c.in-Ok.reply)) (λ e. cc) no_counts no_counts answer.0 s.0 s.1.bytes answer.1
          (subst (λ (text : List ℕ). AsRead text (λ j. (s.0 ≡ items_in j) × (s.1.bytes ≡ version_in j)) ((s.0 ≡ 0) × (s.1.bytes ≡ []))) c.as_str.ensures shows) answer.2);
    }

pub returns-in_ok-of-in-Err : goal.returns-in_ok-of-in-Err
returns-in_ok-of-in-Err g c =
    let answer = c.in-Err.ensures.answer in
    record {
      lists = lists (server_of g.V.Versions.meaning c.args.api.now.base) _ c.args.pass.now.view c.list.new.pass.view (λ rose. let none : 0 < 0 = rose in omega (arith, none)) c.requires.alone (Err (refusal_of c.in-Err.refusal)) (refused (refusal_of c.in-Err.refusal) c.in_ok-refuse-in-Err.ensures.had)
          no_counts no_counts answer.0 0 c.in_ok-of-in-Err.field-0.bytes answer.1 (refl, c.in_ok-of-in-Err.ensures) answer.2;
    }
