use Rattle.std.proofs.Common.{◌≡◌, ℕ, List, None, Some, ap, sym, subst}
use Rattle.std.specs.Prelude.{option_map, IfOk}
use Rattle.kj_value.specs.Json.{Json}
use Rattle.kj_value.specs.Seen.{json}
use Rattle.api_calls.specs.declared.refusal.Refusal.{Refusal}
use Rattle.api_calls.specs.Refusal.{refusal_of}
use Rattle.api_calls.specs.Status.{details, details_of}
use Rattle.api_calls.proofs.status.details_of.Goals as goal

pub returns-in-NoResource : goal.returns-in-NoResource
returns-in-NoResource c = ap (λ (r : Refusal). details_of (refusal_of r) c.args.plural.now c.args.group.now) (sym c.in-NoResource.is)

pub returns-in-BadRequest : goal.returns-in-BadRequest
returns-in-BadRequest c = ap (λ (r : Refusal). details_of (refusal_of r) c.args.plural.now c.args.group.now) (sym c.in-BadRequest.is)

pub returns-in-Expired : goal.returns-in-Expired
returns-in-Expired c = ap (λ (r : Refusal). details_of (refusal_of r) c.args.plural.now c.args.group.now) (sym c.in-Expired.is)

pub returns-in-Full : goal.returns-in-Full
returns-in-Full c = ap (λ (r : Refusal). details_of (refusal_of r) c.args.plural.now c.args.group.now) (sym c.in-Full.is)

pub returns-in-MigrationRunning : goal.returns-in-MigrationRunning
returns-in-MigrationRunning c = ap (λ (r : Refusal). details_of (refusal_of r) c.args.plural.now c.args.group.now) (sym c.in-MigrationRunning.is)

pub returns-in-StillStored : goal.returns-in-StillStored
returns-in-StillStored c = ap (λ (r : Refusal). details_of (refusal_of r) c.args.plural.now c.args.group.now) (sym c.in-StillStored.is)

pub returns-in-Converter : goal.returns-in-Converter
returns-in-Converter c = ap (λ (r : Refusal). details_of (refusal_of r) c.args.plural.now c.args.group.now) (sym c.in-Converter.is)

pub returns-in-NoMemory : goal.returns-in-NoMemory
returns-in-NoMemory c = ap (λ (r : Refusal). details_of (refusal_of r) c.args.plural.now c.args.group.now) (sym c.in-NoMemory.is)

pub returns-in-NotFound : goal.returns-in-NotFound
returns-in-NotFound c =
    subst (λ (r : Refusal). IfOk c.some_details.result (λ v. option_map json v ≡ details_of (refusal_of r) c.args.plural.now c.args.group.now)) (sym c.in-NotFound.is)
    (subst (λ (n : List ℕ). IfOk c.some_details.result (λ v. option_map json v ≡ Some (details None c.args.group.now c.args.plural.now n))) c.as_str.ensures c.some_details.ensures)

pub returns-in-AlreadyExists : goal.returns-in-AlreadyExists
returns-in-AlreadyExists c =
    subst (λ (r : Refusal). IfOk c.some_details-in-AlreadyExists.result (λ v. option_map json v ≡ details_of (refusal_of r) c.args.plural.now c.args.group.now)) (sym c.in-AlreadyExists.is)
    (subst (λ (n : List ℕ). IfOk c.some_details-in-AlreadyExists.result (λ v. option_map json v ≡ Some (details None c.args.group.now c.args.plural.now n))) c.as_str-in-AlreadyExists.ensures c.some_details-in-AlreadyExists.ensures)

pub returns-in_ok-causes-in-Conflict : goal.returns-in_ok-causes-in-Conflict
returns-in_ok-causes-in-Conflict c =
    let r = c.some_details-in-Conflict.result in
    let g = c.args.group.now in
    let p = c.args.plural.now in
    let named = subst (λ (n : List ℕ). IfOk r (λ v. option_map json v ≡ Some (details (Some (json c.in_ok-causes-in-Conflict.causes)) g p n))) c.as_str-in-Conflict.ensures c.some_details-in-Conflict.ensures in
    let told = subst (λ (j : Json). IfOk r (λ v. option_map json v ≡ Some (details (Some j) g p c.in-Conflict.name.bytes))) c.in_ok-causes-in-Conflict.ensures named in
    subst (λ (x : Refusal). IfOk r (λ v. option_map json v ≡ details_of (refusal_of x) p g)) (sym c.in-Conflict.is) told
