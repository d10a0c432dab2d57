use Rattle.std.proofs.Common.{◌≡◌, ℕ, List, ◌++◌, sym, subst}
use Rattle.std.specs.Prelude.{codes, IfOk}
use Rattle.api_calls.specs.declared.refusal.Refusal.{Refusal}
use Rattle.api_calls.specs.Refusal.{refusal_of}
use Rattle.api_calls.specs.Status.{message_of, subject, storing_text}
use Rattle.api_calls.proofs.message.message_of.Goals as goal

pub returns-in-NotFound : goal.returns-in-NotFound
unfolding message_of
returns-in-NotFound c =
    subst (λ (r : Refusal). IfOk c.object_message.result (λ t. t.bytes ≡ message_of (refusal_of r) c.args.plural.now c.args.group.now)) (sym c.in-NotFound.is)
    (subst (λ (n : List ℕ). IfOk c.object_message.result (λ t. t.bytes ≡ subject c.args.plural.now c.args.group.now n ++ codes " not found")) c.as_str.ensures c.object_message.ensures)

pub returns-in-NoResource : goal.returns-in-NoResource
unfolding message_of
returns-in-NoResource c =
    subst (λ (r : Refusal). IfOk c.of.result (λ t. t.bytes ≡ message_of (refusal_of r) c.args.plural.now c.args.group.now)) (sym c.in-NoResource.is)
    c.of.ensures

pub returns-in-AlreadyExists : goal.returns-in-AlreadyExists
unfolding message_of
returns-in-AlreadyExists c =
    subst (λ (r : Refusal). IfOk c.object_message-in-AlreadyExists.result (λ t. t.bytes ≡ message_of (refusal_of r) c.args.plural.now c.args.group.now)) (sym c.in-AlreadyExists.is)
    (subst (λ (n : List ℕ). IfOk c.object_message-in-AlreadyExists.result (λ t. t.bytes ≡ subject c.args.plural.now c.args.group.now n ++ codes " already exists")) c.as_str-in-AlreadyExists.ensures c.object_message-in-AlreadyExists.ensures)

pub returns-in-Conflict : goal.returns-in-Conflict
unfolding message_of
returns-in-Conflict c =
    subst (λ (r : Refusal). IfOk c.object_message-in-Conflict.result (λ t. t.bytes ≡ message_of (refusal_of r) c.args.plural.now c.args.group.now)) (sym c.in-Conflict.is)
    (subst (λ (n : List ℕ). IfOk c.object_message-in-Conflict.result (λ t. t.bytes ≡ codes "Operation cannot be fulfilled on " ++ subject c.args.plural.now c.args.group.now n ++ codes ": the object has been modified; please apply your changes to the latest version and try again")) c.as_str-in-Conflict.ensures c.object_message-in-Conflict.ensures)

pub returns-in-Invalid : goal.returns-in-Invalid
unfolding message_of
returns-in-Invalid c =
    subst (λ (r : Refusal). IfOk c.invalid.result (λ t. t.bytes ≡ message_of (refusal_of r) c.args.plural.now c.args.group.now)) (sym c.in-Invalid.is)
    c.invalid.ensures

pub returns-in-BadRequest : goal.returns-in-BadRequest
unfolding message_of
returns-in-BadRequest c =
    subst (λ (r : Refusal). IfOk c.bad_request.result (λ t. t.bytes ≡ message_of (refusal_of r) c.args.plural.now c.args.group.now)) (sym c.in-BadRequest.is)
    c.bad_request.ensures

pub returns-in-Expired : goal.returns-in-Expired
unfolding message_of
returns-in-Expired c =
    subst (λ (r : Refusal). IfOk c.expired.result (λ t. t.bytes ≡ message_of (refusal_of r) c.args.plural.now c.args.group.now)) (sym c.in-Expired.is)
    c.expired.ensures

pub returns-in-Full : goal.returns-in-Full
unfolding message_of
returns-in-Full c =
    subst (λ (r : Refusal). IfOk c.full.result (λ t. t.bytes ≡ message_of (refusal_of r) c.args.plural.now c.args.group.now)) (sym c.in-Full.is)
    c.full.ensures

pub returns-in-MigrationRunning : goal.returns-in-MigrationRunning
unfolding message_of
returns-in-MigrationRunning c =
    subst (λ (r : Refusal). IfOk c.three.result (λ t. t.bytes ≡ message_of (refusal_of r) c.args.plural.now c.args.group.now)) (sym c.in-MigrationRunning.is)
    (subst (λ (n : List ℕ). IfOk c.three.result (λ t. t.bytes ≡ codes "migration \"" ++ n ++ codes "\" is running")) c.as_str-in-MigrationRunning.ensures c.three.ensures)

pub returns-in-StillStored : goal.returns-in-StillStored
unfolding message_of
returns-in-StillStored c =
    subst (λ (r : Refusal). IfOk c.storing.result (λ t. t.bytes ≡ message_of (refusal_of r) c.args.plural.now c.args.group.now)) (sym c.in-StillStored.is)
    (subst (λ (n : List ℕ). IfOk c.storing.result (λ t. t.bytes ≡ storing_text n c.in-StillStored.key)) c.as_str-in-StillStored.ensures c.storing.ensures)

pub returns-in-Converter : goal.returns-in-Converter
unfolding message_of
returns-in-Converter c =
    subst (λ (r : Refusal). IfOk c.of-in-Converter.result (λ t. t.bytes ≡ message_of (refusal_of r) c.args.plural.now c.args.group.now)) (sym c.in-Converter.is)
    c.of-in-Converter.ensures
