use Rattle.kj_value.specs.Seen.{json}
use Rattle.rule_reading.proofs.Plains.{is_word, told_as, same_is, spoke_only_is, hub_only_is, split_is, table_is, scale_is}
use Rattle.rule_reading.proofs.plain.read_plain.Goals as goal

pub returns-then-eq-clause-read : goal.returns-then-eq-clause-read
returns-then-eq-clause-read c =
    told_as _ (same_is c.args.name.now (json c.args.v.now) (is_word _ _ _ c.eq.ensures c.text.ensures c.if-eq.true)) c.read_same.ensures.read

pub returns-then-eq-2-clause-read : goal.returns-then-eq-2-clause-read
returns-then-eq-2-clause-read c =
    told_as _ (spoke_only_is c.args.name.now (json c.args.v.now) (is_word _ _ _ c.eq.ensures c.text.ensures c.if-eq.false) (is_word _ _ _ c.eq-2.ensures c.text-2.ensures c.if-eq-2.true)) c.read_spoke_only.ensures.read

pub returns-then-eq-3-clause-read : goal.returns-then-eq-3-clause-read
returns-then-eq-3-clause-read c =
    told_as _ (hub_only_is c.args.name.now (json c.args.v.now) (is_word _ _ _ c.eq.ensures c.text.ensures c.if-eq.false) (is_word _ _ _ c.eq-2.ensures c.text-2.ensures c.if-eq-2.false) (is_word _ _ _ c.eq-3.ensures c.text-3.ensures c.if-eq-3.true)) c.read_hub_only.ensures.read

pub returns-then-eq-4-clause-read : goal.returns-then-eq-4-clause-read
returns-then-eq-4-clause-read c =
    told_as _ (split_is c.args.name.now (json c.args.v.now) (is_word _ _ _ c.eq.ensures c.text.ensures c.if-eq.false) (is_word _ _ _ c.eq-2.ensures c.text-2.ensures c.if-eq-2.false) (is_word _ _ _ c.eq-3.ensures c.text-3.ensures c.if-eq-3.false) (is_word _ _ _ c.eq-4.ensures c.text-4.ensures c.if-eq-4.true)) c.read_split.ensures.read

pub returns-then-eq-5-clause-read : goal.returns-then-eq-5-clause-read
returns-then-eq-5-clause-read c =
    told_as _ (table_is c.args.name.now (json c.args.v.now) (is_word _ _ _ c.eq.ensures c.text.ensures c.if-eq.false) (is_word _ _ _ c.eq-2.ensures c.text-2.ensures c.if-eq-2.false) (is_word _ _ _ c.eq-3.ensures c.text-3.ensures c.if-eq-3.false) (is_word _ _ _ c.eq-4.ensures c.text-4.ensures c.if-eq-4.false) (is_word _ _ _ c.eq-5.ensures c.text-5.ensures c.if-eq-5.true)) c.read_table.ensures.read

pub returns-then-eq-6-clause-read : goal.returns-then-eq-6-clause-read
returns-then-eq-6-clause-read c =
    told_as _ (scale_is c.args.name.now (json c.args.v.now) (is_word _ _ _ c.eq.ensures c.text.ensures c.if-eq.false) (is_word _ _ _ c.eq-2.ensures c.text-2.ensures c.if-eq-2.false) (is_word _ _ _ c.eq-3.ensures c.text-3.ensures c.if-eq-3.false) (is_word _ _ _ c.eq-4.ensures c.text-4.ensures c.if-eq-4.false) (is_word _ _ _ c.eq-5.ensures c.text-5.ensures c.if-eq-5.false) (is_word _ _ _ c.eq-6.ensures c.text-6.ensures c.if-eq-6.true)) c.read_scale.ensures.read
