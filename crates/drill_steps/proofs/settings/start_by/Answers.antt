use Rattle.std.proofs.Common.{◌<◌, ◌∙◌, Ok, Err, refl, arith}
use Rattle.api_calls.specs.Refusal.{refusal_of}
use Rattle.api_calls.specs.Reply.{reply_of}
use Rattle.shared_api.specs.Base.{server_of}
use Rattle.drill_steps.proofs.Alone.{still_alone}
use Rattle.drill_steps.proofs.Counted.{starts, refused}
use Rattle.drill_steps.proofs.Results.{both_ok}
use Rattle.drill_steps.proofs.settings.start_by.Goals as goal

pub returns-in-Ok-clause-alone : goal.returns-in-Ok-clause-alone
returns-in-Ok-clause-alone g c =
    let calls = c.start_migration.ensures.answer in still_alone c.args.pass.now.view c.start_migration.new.pass.view calls.log calls.item calls.turned c.requires.alone

pub returns-in-Err-clause-alone : goal.returns-in-Err-clause-alone
returns-in-Err-clause-alone g c =
    let calls = c.start_migration.ensures.answer in still_alone c.args.pass.now.view c.start_migration.new.pass.view calls.log calls.item calls.turned c.requires.alone

pub returns-in-Ok-clause-starts : goal.returns-in-Ok-clause-starts
returns-in-Ok-clause-starts g c = λ switches is.
    starts (server_of g.V.Versions.meaning c.args.api.now.base) _ c.args.pass.now.view c.start_migration.new.pass.view (λ rose. rose) c.requires.alone (Ok (reply_of c.in-Ok._reply)) (λ e. cc) c.args.counts.now c.args.counts.now c.as_bytes.result.now switches (c.as_bytes.ensures.value ∙ is) refl c.in-Ok.ensures.answer

pub returns-in-Err-clause-starts : goal.returns-in-Err-clause-starts
returns-in-Err-clause-starts g c = λ switches is.
    both_ok c.refuse.result _ _ _ c.refuse.ensures.counted c.refuse.ensures.had (λ counted had.
    starts (server_of g.V.Versions.meaning c.args.api.now.base) _ c.args.pass.now.view c.start_migration.new.pass.view (λ rose. rose) c.requires.alone (Err (refusal_of c.in-Err.refusal)) (refused (refusal_of c.in-Err.refusal) had) c.args.counts.now c.refuse.new.self c.as_bytes.result.now switches (c.as_bytes.ensures.value ∙ is) counted c.in-Err.ensures.answer)
