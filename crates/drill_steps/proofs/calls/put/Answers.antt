use Rattle.std.proofs.Common.{◌<◌, ℕ, ap, Ok, Err, refl, sym, subst, arith}
use Rattle.api_calls.specs.Refusal.{refusal_of}
use Rattle.api_calls.specs.Reply.{reply_of}
use Rattle.shared_api.specs.Base.{server_of}
use Rattle.drill_steps.proofs.Alone.{still_alone}
use Rattle.std.specs.Prelude.{IsTrue}
use Rattle.kube_meta.specs.Key.{KeyView}
use Rattle.kube_meta.specs.Names.{is_namespace}
use Rattle.drill_steps.proofs.Counted.{replaces, refused}
use Rattle.drill_steps.proofs.Results.{both_ok}
use Rattle.drill_steps.proofs.calls.put.Goals as goal

pub replace-requires-clause-ns : goal.replace-requires-clause-ns
unfolding is_namespace
replace-requires-clause-ns g c = subst (λ (k : KeyView). IsTrue (is_namespace k.ns)) (sym c.requires.key.1) refl

pub returns-in-Ok-clause-alone : goal.returns-in-Ok-clause-alone
returns-in-Ok-clause-alone g c =
    let calls = c.replace.ensures.answer.2 in still_alone c.args.pass.now.view c.replace.new.pass.view calls.log calls.item calls.turned c.requires.alone

pub returns-in-Err-clause-alone : goal.returns-in-Err-clause-alone
returns-in-Err-clause-alone g c =
    let calls = c.replace.ensures.answer.2 in still_alone c.args.pass.now.view c.replace.new.pass.view calls.log calls.item calls.turned c.requires.alone

pub returns-in-Ok-clause-replaces : goal.returns-in-Ok-clause-replaces
returns-in-Ok-clause-replaces g c = λ object t got is edited.
    let answer = c.in-Ok.ensures.answer in
    replaces (server_of g.V.Versions.meaning c.args.api.now.base) _ c.args.pass.now.view c.replace.new.pass.view (λ rose. let none : 0 < 0 = rose in omega (arith, none)) c.requires.alone (Ok (reply_of c.in-Ok._reply)) (λ e. cc) c.args.counts.now _ object t answer.0 got c.as_bytes.result.now c.args.body.now c.args.key.now c.as_bytes.ensures.value is edited answer.1 (ap (λ (n : ℕ). record c.args.counts.now { replaced = n }) c.one_more-counts.ensures) answer.2

pub returns-in-Err-clause-replaces : goal.returns-in-Err-clause-replaces
returns-in-Err-clause-replaces g c = λ object t got is edited.
    let answer = c.in-Err.ensures.answer in
    both_ok c.refuse.result _ _ _ c.refuse.ensures.counted c.refuse.ensures.had (λ counted had.
    replaces (server_of g.V.Versions.meaning c.args.api.now.base) _ c.args.pass.now.view c.replace.new.pass.view (λ rose. let none : 0 < 0 = rose in omega (arith, none)) c.requires.alone (Err (refusal_of c.in-Err.refusal)) (refused (refusal_of c.in-Err.refusal) had) c.args.counts.now c.refuse.new.self object t answer.0 got c.as_bytes.result.now c.args.body.now c.args.key.now c.as_bytes.ensures.value is edited answer.1 counted answer.2)
