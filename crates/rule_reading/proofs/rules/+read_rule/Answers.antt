use Rattle.std.proofs.Common.{rules, ◌≡◌, ◌≤◌, Some, true, map, refl, ap, sym, ◌∙◌, arith}
use Rattle.kj_value.specs.Json.{depth, members_depth, members_of, items_depth, items_of}
use Rattle.kj_value.specs.Seen.{json}
use Rattle.kj_value.specs.laws.Inside.{item_depth}
use Rattle.hub_rules.specs.Seen.{rule}
use Rattle.std.specs.Str.{bytes_eq}
use Rattle.std.specs.Prelude.{option_map}
use Rattle.rule_reading.specs.RuleRead.{one_field}
use Rattle.rule_reading.specs.Words.{word}
use Rattle.rule_reading.specs.Told.{answer, path_of, two_bytes}
use Rattle.rule_reading.specs.declared.words.Word.TheVariants as w
use Rattle.rule_reading.proofs.Froms.{behind_nil, rules_step}
use Rattle.rule_reading.proofs.Within.{rule_is, rule_by_ok, within_first, within_second, within_beyond, within_ok, value_depth, depth_push, size_push}
use Rattle.rule_reading.proofs.rules.+read_rule.Goals as goal

pub read_lines-loop-i-init : goal.read_lines-loop-i-init
read_lines-loop-i-init t c =
    rw c.new-rules.ensures (record { read = behind_nil _; deep = omega (arith, c.requires); counted = omega arith })

pub read_lines-read_rule-requires : goal.read_lines-read_rule-requires
read_lines-read_rule-requires t c =
    let h : depth (json c.index-items-i.result) ≤ items_depth (items_of (map json c.args.items.now)) = item_depth c.args.items.now (map json c.args.items.now) c.loop-i.i c.index-items-i.result refl (omega arith) c.index-items-i.is in
    (omega (arith, h, c.decreases), omega (arith, c.requires))

pub read_lines-loop-i-preserved : goal.read_lines-loop-i-preserved
read_lines-loop-i-preserved t c =
    let read = sym (ap (answer rule) c.in-Ok.is) ∙ c.in_ok-spot.ensures.read in
    let deep = rw c.in-Ok.is at c.in_ok-spot.ensures.depth in
    let counted = rw c.in-Ok.is at c.in_ok-spot.ensures.count in
    rw c.in_ok-push-in-Ok.ensures.ok (record {
      read = rules_step c.args.depth c.loop-i.count c.read_rule.new.count c.args.items.now c.loop-i.i c.index-items-i.result c.loop-i.rules (rule c.in-Ok.line) _ (omega arith) c.index-items-i.is c.loop-i.invariant.read read counted;
      deep = omega (arith, depth_push c.loop-i.rules (rule c.in-Ok.line), c.loop-i.invariant.deep, deep);
      counted = omega (arith, size_push c.loop-i.rules (rule c.in-Ok.line), counted, c.loop-i.invariant.counted);
    })

pub read_object-read_rules_in-requires : goal.read_object-read_rules_in-requires
read_object-read_rules_in-requires t c =
    let h : depth (json c.in-Ok-2.inner.now) ≤ members_depth (members_of c.args.fields.now) = value_depth (word w.Rules) 1 (members_of c.args.fields.now) (json c.in-Ok-2.inner.now) (sym (rw c.in-Ok-2.is at c.in_ok-spot-2.ensures)) in
    (omega (arith, h, c.decreases), omega (arith, c.requires))

pub read_object-returns-in-None-clause-read : goal.read_object-returns-in-None-clause-read
read_object-returns-in-None-clause-read t c =
    within_ok c.args.depth c.args.count.now (members_of c.args.fields.now) (two_bytes c.in-Ok.names) (json c.in-Ok-2.inner.now) c.in-Ok-3.rules (rw c.in-Ok.is at c.in_ok-spot.ensures) (rw c.in-Ok-2.is at c.in_ok-spot-2.ensures) (rw c.in-Ok-3.is at c.in_ok-spot-3.ensures.read) (rw c.in-None.is at c.in_ok-spot-4.ensures)

pub read_object-returns-in-Err-clause-read : goal.read_object-returns-in-Err-clause-read
read_object-returns-in-Err-clause-read t c = within_first c.args.depth c.args.count.now (members_of c.args.fields.now) (ap (answer two_bytes) (sym c.in-Err.is) ∙ c.in_ok-spot.ensures)

pub read_object-returns-in-Err-2-clause-read : goal.read_object-returns-in-Err-2-clause-read
read_object-returns-in-Err-2-clause-read t c = within_second c.args.depth c.args.count.now (members_of c.args.fields.now) (ap (answer two_bytes) (sym c.in-Ok.is) ∙ c.in_ok-spot.ensures) (ap (answer (λ v. json v.now)) (sym c.in-Err-2.is) ∙ c.in_ok-spot-2.ensures)

pub read_object-returns-in-Some-clause-read : goal.read_object-returns-in-Some-clause-read
read_object-returns-in-Some-clause-read t c =
    within_beyond c.args.depth c.args.count.now (members_of c.args.fields.now) (ap (answer two_bytes) (sym c.in-Ok.is) ∙ c.in_ok-spot.ensures) (ap (answer (λ v. json v.now)) (sym c.in-Ok-2.is) ∙ c.in_ok-spot-2.ensures) (rw c.in-Ok-3.is at c.in_ok-spot-3.ensures.read) (ap (option_map path_of) (sym c.in-Some.is) ∙ c.in_ok-spot-4.ensures)

pub read_rule-returns-in-Ok-clause-read : goal.read_rule-returns-in-Ok-clause-read
read_rule-returns-in-Ok-clause-read t c =
    let field : one_field (json c.args.v.now) ≡ Some (c.in-Some.field.0.now, json c.in-Some.field.1.now) = sym c.in-Some.ensures in
    let by_name = rule_is c.args.depth c.args.count.now (json c.args.v.now) (c.in-Some.field.0.now, json c.in-Some.field.1.now) field in
    let read = rw c.in-Ok.is at c.in_ok-spot.ensures.read in
    let is_object : bytes_eq c.in-Some.field.0.now (word w.Object) ≡ true = first_of (cc, search rules) in
    rw by_name (rw (← read) (rule_by_ok c.args.depth c.args.count.now c.in-Some.field.0.now (json c.in-Some.field.1.now) (rule c.in-Ok.line) (omega arith) is_object (omega arith)))
