use Rattle.std.proofs.Common.{Some, option_map, ap, ◌∙◌, sym}
use Rattle.std.specs.Prelude.{is_some}
use Rattle.kj_value.specs.Json.{members_of}
use Rattle.kj_value.specs.Seen.{json}
use Rattle.struct_schema.specs.Names.{value_at}
use Rattle.prune_default.proofs.Missing.{set_where_missing, kept_where_there}
use Rattle.prune_default.proofs.Sizes.{set_within}
use Rattle.prune_default.proofs.defaults.set_missing.Goals as goal

pub returns-in_ok-set-clause-set : goal.returns-in_ok-set-clause-set
returns-in_ok-set-clause-set c = λ n.
    set_where_missing n c.args.property.now.name.bytes c.in_ok-name.name.bytes _ (json c.in_ok-copy.field-0) c.args.filled.now c.set.new.self (c.if-is_there.ensures ∙ ap (λ k. is_some (value_at k (members_of c.args.filled.now))) c.as_str.ensures) (c.in_ok-name.ensures ∙ c.as_str-in-Some-2.ensures)
    (ap (option_map json) c.in-Some.is ∙ ap Some (sym c.in_ok-copy.ensures)) c.in_ok-set.ensures.ok

pub returns-then-is_there-clause-set : goal.returns-then-is_there-clause-set
returns-then-is_there-clause-set c = λ n.
    kept_where_there n c.args.property.now.name.bytes _ c.args.filled.now (c.if-is_there.ensures ∙ ap (λ k. is_some (value_at k (members_of c.args.filled.now))) c.as_str.ensures)

pub returns-in_ok-set-clause-within : goal.returns-in_ok-set-clause-within
returns-in_ok-set-clause-within c =
    set_within c.as_str-in-Some.result.now c.in_ok-name.name.bytes (json c.in-Some.value) (json c.in_ok-copy.field-0) c.args.filled.now c.set.new.self c.args.room.now c.take_field.new.room c.in_ok-set.ensures.ok (c.in_ok-name.ensures ∙ c.as_str-in-Some-2.ensures ∙ sym c.as_str-in-Some.ensures)
    c.in_ok-copy.ensures c.in_ok-take_field.ensures
