use Rattle.std.proofs.Common.{◌<◌, ◌∙◌, ap, arith, sym, subst}
use Rattle.api_calls.specs.Calls.{failed}
use Rattle.api_calls.specs.Ends.{TurnEnd}
use Rattle.api_calls.specs.Item.{items}
use Rattle.shared_api.specs.Base.{server_of}
use Rattle.shared_api.specs.Steps.{IsStep, failure_of}
use Rattle.shared_api.specs.declared.step.WorkFault.{WorkFault}
use Rattle.drill_steps.proofs.Alone.{still_alone, worked_alone, no_converter}
use Rattle.drill_steps.proofs.Results.{turned_is}
use Rattle.drill_steps.proofs.worker.turn.Goals as goal

pub returns-in-Ok-clause-alone : goal.returns-in-Ok-clause-alone
returns-in-Ok-clause-alone g c =
    let calls = c.in-Ok.ensures.answer.2 in still_alone c.args.pass.now.view c.worker_turn.new.pass.view calls.log calls.item calls.turned c.requires.alone

pub returns-in-Err-NoMemory-clause-alone : goal.returns-in-Err-NoMemory-clause-alone
returns-in-Err-NoMemory-clause-alone g c =
    let calls = c.in-Err-NoMemory.ensures.answer.2 in still_alone c.args.pass.now.view c.worker_turn.new.pass.view calls.log calls.item calls.turned c.requires.alone

pub returns-in-Ok-clause-step : goal.returns-in-Ok-clause-step
returns-in-Ok-clause-step g c =
    let answer = c.in-Ok.ensures.answer in
    let decided = worked_alone (server_of g.V.Versions.meaning c.args.api.now.base) _ c.args.pass.now.view c.worker_turn.new.pass.view c.args.progress.now.worker.claim c.worker_turn.new.w.claim answer.1.0 answer.0 (λ rose. let none : 0 < 0 = rose in omega (arith, none)) c.requires.alone answer.1.2 answer.2 in
    subst (λ (e : TurnEnd). IsStep c.in-Ok.step e) decided.end answer.1.1

pub returns-in-Ok-clause-turned : goal.returns-in-Ok-clause-turned
returns-in-Ok-clause-turned g c =
    let answer = c.in-Ok.ensures.answer in
    let decided = worked_alone (server_of g.V.Versions.meaning c.args.api.now.base) _ c.args.pass.now.view c.worker_turn.new.pass.view c.args.progress.now.worker.claim c.worker_turn.new.w.claim answer.1.0 answer.0 (λ rose. let none : 0 < 0 = rose in omega (arith, none)) c.requires.alone answer.1.2 answer.2 in
    turned_is (server_of g.V.Versions.meaning c.args.api.now.base) c.args.progress.now (items c.args.pass.now.view.seen) (items c.worker_turn.new.pass.view.seen) c.worker_turn.new.w.claim c.turn.new.self answer.1.0 decided (c.turn.ensures answer.1.0 answer.1.1)

pub unreachable-requires : goal.unreachable-requires
unreachable-requires g c =
    let answer = c.in-Err-Converter.ensures.answer in
    no_converter (server_of g.V.Versions.meaning c.args.api.now.base) _ c.args.pass.now.view c.worker_turn.new.pass.view c.args.progress.now.worker.claim c.worker_turn.new.w.claim answer.0 (λ rose. let none : 0 < 0 = rose in omega (arith, none))
    (answer.1 ∙ ap (λ (f : WorkFault). failed (failure_of f) c.worker_turn.new.w.claim) c.in-Err-Converter.field-0-is) answer.2
