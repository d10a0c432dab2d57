use Rattle.std.proofs.Common.{◌∙◌}
use Rattle.kj_value.specs.Seen.{json}
use Rattle.std.proofs.lemmas.Result.{err_from_is_err_and}
use Rattle.wire_client.specs.Calls.{lists}
use Rattle.wire_client.proofs.Coming.{lacked, came_end, page_given, page_ended, page_levels, no_link_fault}
use Rattle.wire_client.proofs.calls.list_page.Goals as goal

pub returns-in_err-version-clause-end : goal.returns-in_err-version-clause-end
returns-in_err-version-clause-end g c =
    let p = err_from_is_err_and c.from_residual.result c.from_residual.ensures.1 in
    rw (p.1, p.2) (lacked _ (record { exchanges = g.R.Link.exchanges c.args.far.now; log = g.R.Far.log c.args.far.now }) (record { group = c.args.place.now.group.bytes; version = c.args.place.now.version.bytes; plural = c.args.place.now.plural.bytes }) (lists c.args.limit c.args.token.now))

pub returns-in_err-request-clause-end : goal.returns-in_err-request-clause-end
returns-in_err-request-clause-end g c =
    let p = err_from_is_err_and c.from_residual-in_err-request.result c.from_residual-in_err-request.ensures.1 in
    rw (p.1, p.2) (lacked _ (record { exchanges = g.R.Link.exchanges c.args.far.now; log = g.R.Far.log c.args.far.now }) (record { group = c.args.place.now.group.bytes; version = c.args.place.now.version.bytes; plural = c.args.place.now.plural.bytes }) (lists c.args.limit c.args.token.now))

pub returns-clause-page : goal.returns-clause-page
returns-clause-page g c =
    page_given _ (record { exchanges = g.R.Link.exchanges c.args.far.now; log = g.R.Far.log c.args.far.now }) (record { exchanges = g.R.Link.exchanges c.ask.new.far; log = g.R.Far.log c.ask.new.far }) (record { group = c.args.place.now.group.bytes; version = c.args.place.now.version.bytes; plural = c.args.place.now.plural.bytes }) c.args.limit c.args.token.now c.deref.result.now c.as_str.result.now (json c.in_ok-body.body) c.take_page.result
    (c.deref.ensures.value ∙ c.in_ok-request.ensures) (c.as_str.ensures.value ∙ c.in_ok-version.ensures) c.in_ok-body.ensures.given c.take_page.ensures.form c.take_page.ensures.page

pub returns-clause-end : goal.returns-clause-end
returns-clause-end g c =
    page_ended _ (record { exchanges = g.R.Link.exchanges c.args.far.now; log = g.R.Far.log c.args.far.now }) (record { exchanges = g.R.Link.exchanges c.ask.new.far; log = g.R.Far.log c.ask.new.far }) (record { group = c.args.place.now.group.bytes; version = c.args.place.now.version.bytes; plural = c.args.place.now.plural.bytes }) c.args.limit c.args.token.now c.deref.result.now c.as_str.result.now (json c.in_ok-body.body) c.take_page.result
    (c.deref.ensures.value ∙ c.in_ok-request.ensures) (c.as_str.ensures.value ∙ c.in_ok-version.ensures) c.in_ok-body.ensures.given c.take_page.ensures.shape

pub returns-clause-keyed : goal.returns-clause-keyed
returns-clause-keyed g c = c.take_page.ensures.keyed

pub returns-clause-levels : goal.returns-clause-levels
returns-clause-levels g c = page_levels (json c.in_ok-body.body) c.take_page.result _ c.in_ok-body.ensures.low c.take_page.ensures.levels

pub returns-clause-cause : goal.returns-clause-cause
returns-clause-cause g c = no_link_fault _ _ c.take_page.result c.take_page.ensures.shape

pub returns-in_err-body-clause-end : goal.returns-in_err-body-clause-end
returns-in_err-body-clause-end g c =
    let p = err_from_is_err_and c.from_residual-in_err-body.result c.from_residual-in_err-body.ensures.1 in
    rw (p.1, p.2) (came_end _ (record { exchanges = g.R.Link.exchanges c.args.far.now; log = g.R.Far.log c.args.far.now }) (record { exchanges = g.R.Link.exchanges c.ask.new.far; log = g.R.Far.log c.ask.new.far }) (record { group = c.args.place.now.group.bytes; version = c.args.place.now.version.bytes; plural = c.args.place.now.plural.bytes }) (lists c.args.limit c.args.token.now) c.deref.result.now c.in_err-body.field-0.0 (c.deref.ensures.value ∙ c.in_ok-request.ensures) c.in_err-body.ensures.end)

pub returns-in_err-version-clause-cause : goal.returns-in_err-version-clause-cause
returns-in_err-version-clause-cause g c =
    let p = err_from_is_err_and c.from_residual.result c.from_residual.ensures.1 in
    rw (p.1, p.2) tt

pub returns-in_err-version-clause-page : goal.returns-in_err-version-clause-page
returns-in_err-version-clause-page g c =
    let p = err_from_is_err_and c.from_residual.result c.from_residual.ensures.1 in
    rw p.1 tt

pub returns-in_err-version-clause-keyed : goal.returns-in_err-version-clause-keyed
returns-in_err-version-clause-keyed g c =
    let p = err_from_is_err_and c.from_residual.result c.from_residual.ensures.1 in
    rw p.1 tt

pub returns-in_err-version-clause-levels : goal.returns-in_err-version-clause-levels
returns-in_err-version-clause-levels g c =
    let p = err_from_is_err_and c.from_residual.result c.from_residual.ensures.1 in
    rw p.1 tt

pub returns-in_err-request-clause-cause : goal.returns-in_err-request-clause-cause
returns-in_err-request-clause-cause g c =
    let p = err_from_is_err_and c.from_residual-in_err-request.result c.from_residual-in_err-request.ensures.1 in
    rw (p.1, p.2) tt

pub returns-in_err-request-clause-page : goal.returns-in_err-request-clause-page
returns-in_err-request-clause-page g c =
    let p = err_from_is_err_and c.from_residual-in_err-request.result c.from_residual-in_err-request.ensures.1 in
    rw p.1 tt

pub returns-in_err-request-clause-keyed : goal.returns-in_err-request-clause-keyed
returns-in_err-request-clause-keyed g c =
    let p = err_from_is_err_and c.from_residual-in_err-request.result c.from_residual-in_err-request.ensures.1 in
    rw p.1 tt

pub returns-in_err-request-clause-levels : goal.returns-in_err-request-clause-levels
returns-in_err-request-clause-levels g c =
    let p = err_from_is_err_and c.from_residual-in_err-request.result c.from_residual-in_err-request.ensures.1 in
    rw p.1 tt

pub returns-in_err-body-clause-cause : goal.returns-in_err-body-clause-cause
returns-in_err-body-clause-cause g c =
    let p = err_from_is_err_and c.from_residual-in_err-body.result c.from_residual-in_err-body.ensures.1 in
    rw (p.1, p.2) c.in_err-body.ensures.cause

pub returns-in_err-body-clause-page : goal.returns-in_err-body-clause-page
returns-in_err-body-clause-page g c =
    let p = err_from_is_err_and c.from_residual-in_err-body.result c.from_residual-in_err-body.ensures.1 in
    rw p.1 tt

pub returns-in_err-body-clause-keyed : goal.returns-in_err-body-clause-keyed
returns-in_err-body-clause-keyed g c =
    let p = err_from_is_err_and c.from_residual-in_err-body.result c.from_residual-in_err-body.ensures.1 in
    rw p.1 tt

pub returns-in_err-body-clause-levels : goal.returns-in_err-body-clause-levels
returns-in_err-body-clause-levels g c =
    let p = err_from_is_err_and c.from_residual-in_err-body.result c.from_residual-in_err-body.ensures.1 in
    rw p.1 tt
