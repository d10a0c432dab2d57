use Rattle.std.proofs.Common.{◌∙◌, refl}
use Rattle.std.proofs.lemmas.Result.{err_from_is_err_and}
use Rattle.kj_value.specs.Seen.{json}
use Rattle.wire_client.specs.Calls.{gets}
use Rattle.wire_client.specs.inner.Seen.{wanted_view}
use Rattle.wire_client.proofs.Coming.{lacked, came_end, object_given, object_ended, same_levels, no_link_fault}
use Rattle.wire_client.proofs.calls.get_one.Goals as goal

pub returns-in_err-version-clause-end : goal.returns-in_err-version-clause-end
returns-in_err-version-clause-end g c =
    let p = err_from_is_err_and c.from_residual.result c.from_residual.ensures.1 in
    rw (p.1, p.2) (lacked _ (record { exchanges = g.R.Link.exchanges c.args.far.now; log = g.R.Far.log c.args.far.now }) (record { group = c.args.place.now.group.bytes; version = c.args.place.now.version.bytes; plural = c.args.place.now.plural.bytes }) (gets c.args.key.now))

pub returns-in_err-request-clause-end : goal.returns-in_err-request-clause-end
returns-in_err-request-clause-end g c =
    let p = err_from_is_err_and c.from_residual-in_err-request.result c.from_residual-in_err-request.ensures.1 in
    rw (p.1, p.2) (lacked _ (record { exchanges = g.R.Link.exchanges c.args.far.now; log = g.R.Far.log c.args.far.now }) (record { group = c.args.place.now.group.bytes; version = c.args.place.now.version.bytes; plural = c.args.place.now.plural.bytes }) (gets c.args.key.now))

pub returns-in_err-object-clause-end : goal.returns-in_err-object-clause-end
returns-in_err-object-clause-end g c =
    let p = err_from_is_err_and c.from_residual-in_err-object.result c.from_residual-in_err-object.ensures.1 in
    rw (p.1, p.2) (came_end _ (record { exchanges = g.R.Link.exchanges c.args.far.now; log = g.R.Far.log c.args.far.now }) (record { exchanges = g.R.Link.exchanges c.ask.new.far; log = g.R.Far.log c.ask.new.far }) (record { group = c.args.place.now.group.bytes; version = c.args.place.now.version.bytes; plural = c.args.place.now.plural.bytes }) (gets c.args.key.now) c.deref.result.now c.in_err-object.field-0.0 (c.deref.ensures.value ∙ c.in_ok-request.ensures) c.in_err-object.ensures.end)

pub returns-clause-end : goal.returns-clause-end
returns-clause-end g c =
    object_ended _ (record { exchanges = g.R.Link.exchanges c.args.far.now; log = g.R.Far.log c.args.far.now }) (record { exchanges = g.R.Link.exchanges c.ask.new.far; log = g.R.Far.log c.ask.new.far }) (record { group = c.args.place.now.group.bytes; version = c.args.place.now.version.bytes; plural = c.args.place.now.plural.bytes }) (gets c.args.key.now) c.deref.result.now c.as_str.result.now (wanted_view c.of_key.result) (json c.in_ok-object.object) c.checked.result
    (λ v j. refl) (c.deref.ensures.value ∙ c.in_ok-request.ensures) (c.as_str.ensures.value ∙ c.in_ok-version.ensures) c.of_key.ensures c.in_ok-object.ensures.given c.checked.ensures.shape

pub returns-clause-given : goal.returns-clause-given
returns-clause-given g c =
    object_given _ (record { exchanges = g.R.Link.exchanges c.args.far.now; log = g.R.Far.log c.args.far.now }) (record { exchanges = g.R.Link.exchanges c.ask.new.far; log = g.R.Far.log c.ask.new.far }) (record { group = c.args.place.now.group.bytes; version = c.args.place.now.version.bytes; plural = c.args.place.now.plural.bytes }) (gets c.args.key.now) c.deref.result.now c.as_str.result.now (wanted_view c.of_key.result) (json c.in_ok-object.object) c.checked.result
    (λ v j. refl) (c.deref.ensures.value ∙ c.in_ok-request.ensures) (c.as_str.ensures.value ∙ c.in_ok-version.ensures) c.of_key.ensures c.in_ok-object.ensures.given c.checked.ensures.same c.checked.ensures.form

pub returns-clause-levels : goal.returns-clause-levels
returns-clause-levels g c = same_levels (json c.in_ok-object.object) c.checked.result _ c.in_ok-object.ensures.low c.checked.ensures.same

pub returns-clause-cause : goal.returns-clause-cause
returns-clause-cause g c = no_link_fault _ _ c.checked.result c.checked.ensures.shape

pub returns-in_err-version-clause-cause : goal.returns-in_err-version-clause-cause
returns-in_err-version-clause-cause g c =
    let p = err_from_is_err_and c.from_residual.result c.from_residual.ensures.1 in
    rw (p.1, p.2) tt

pub returns-in_err-version-clause-given : goal.returns-in_err-version-clause-given
returns-in_err-version-clause-given g c =
    let p = err_from_is_err_and c.from_residual.result c.from_residual.ensures.1 in
    rw p.1 tt

pub returns-in_err-version-clause-levels : goal.returns-in_err-version-clause-levels
returns-in_err-version-clause-levels g c =
    let p = err_from_is_err_and c.from_residual.result c.from_residual.ensures.1 in
    rw p.1 tt

pub returns-in_err-request-clause-cause : goal.returns-in_err-request-clause-cause
returns-in_err-request-clause-cause g c =
    let p = err_from_is_err_and c.from_residual-in_err-request.result c.from_residual-in_err-request.ensures.1 in
    rw (p.1, p.2) tt

pub returns-in_err-request-clause-given : goal.returns-in_err-request-clause-given
returns-in_err-request-clause-given g c =
    let p = err_from_is_err_and c.from_residual-in_err-request.result c.from_residual-in_err-request.ensures.1 in
    rw p.1 tt

pub returns-in_err-request-clause-levels : goal.returns-in_err-request-clause-levels
returns-in_err-request-clause-levels g c =
    let p = err_from_is_err_and c.from_residual-in_err-request.result c.from_residual-in_err-request.ensures.1 in
    rw p.1 tt

pub returns-in_err-object-clause-cause : goal.returns-in_err-object-clause-cause
returns-in_err-object-clause-cause g c =
    let p = err_from_is_err_and c.from_residual-in_err-object.result c.from_residual-in_err-object.ensures.1 in
    rw (p.1, p.2) c.in_err-object.ensures.cause

pub returns-in_err-object-clause-given : goal.returns-in_err-object-clause-given
returns-in_err-object-clause-given g c =
    let p = err_from_is_err_and c.from_residual-in_err-object.result c.from_residual-in_err-object.ensures.1 in
    rw p.1 tt

pub returns-in_err-object-clause-levels : goal.returns-in_err-object-clause-levels
returns-in_err-object-clause-levels g c =
    let p = err_from_is_err_and c.from_residual-in_err-object.result c.from_residual-in_err-object.ensures.1 in
    rw p.1 tt
