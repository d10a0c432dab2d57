use Rattle.std.proofs.Common.{◌∙◌, sym, true≢false}
use Rattle.kj_value.specs.Seen.{json}
use Rattle.converters.proofs.Renamed.{stays, moves, nowhere}
use Rattle.converters.proofs.rename_converter.turned.Goals as goal

pub returns-then-is_same : goal.returns-then-is_same
returns-then-is_same c = λ x of.
    stays (json c.args.object.now) (json c.in_ok-copy.field-0) x c.args.to.now c.version_of-version.result.now c.in-Some.fields.now (sym c.in-Some.ensures) c.version_of-version.ensures
    (c.is_same.ensures.0 c.if-is_same.true) c.in_ok-copy.ensures of

pub returns-in_ok-moved-in-Some-names_for : goal.returns-in_ok-moved-in-Some-names_for
returns-in_ok-moved-in-Some-names_for c = λ x of.
    moves (json c.args.object.now) (json c.in_ok-copy-in-Some-names_for.field-0) (json c.in_ok-moved-in-Some-names_for.field-0) x c.args.to.now c.version_of-version.result.now
    (c.in-Some-names_for.from.now, c.in-Some-names_for.name.now) c.in-Some.fields.now c.in-Some-into_object.owned (sym c.in-Some.ensures) c.version_of-version.ensures
    (λ e. true≢false (sym (c.is_same.ensures.1 e) ∙ c.if-is_same.false)) c.in-Some-names_for.ensures c.in_ok-copy-in-Some-names_for.ensures (sym c.in-Some-into_object.ensures)
    c.in_ok-moved-in-Some-names_for.ensures of

pub returns-in-None : goal.returns-in-None
returns-in-None c = λ x of.
    nowhere (json c.args.object.now) x c.args.to.now c.version_of-version.result.now c.in-Some.fields.now (sym c.in-Some.ensures) c.version_of-version.ensures
    (λ e. true≢false (sym (c.is_same.ensures.1 e) ∙ c.if-is_same.false)) c.in-None.ensures of
