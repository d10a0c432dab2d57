use Rattle.std.proofs.Common.{option_map, ap}
use Rattle.std.proofs.lemmas.Result.{on_ok_weaker}
use Rattle.kj_value.specs.Seen.{json}
use Rattle.prune_default.proofs.Level.{kept_none, kept_some}
use Rattle.prune_default.proofs.Sizes.{kept_within}
use Rattle.prune_default.proofs.filling.keep.Goals as goal

pub returns-in-Some-clause-kept : goal.returns-in-Some-clause-kept
returns-in-Some-clause-kept c =
    on_ok_weaker c.set.result (λ h n. kept_some n c.args.name.bytes (option_map json c.args.value) (json c.in-Some.value) c.args.kept.now c.set.new.self (ap (option_map json) c.in-Some.is) h) c.set.ensures.ok

pub returns-in-None-clause-kept : goal.returns-in-None-clause-kept
returns-in-None-clause-kept c = λ n. kept_none n c.args.name.bytes (option_map json c.args.value) c.args.kept.now (ap (option_map json) c.in-None.is)

pub returns-in-Some-clause-within : goal.returns-in-Some-clause-within
returns-in-Some-clause-within c =
    on_ok_weaker c.set.result (λ h. kept_within c.args.name.bytes (option_map json c.args.value) (json c.in-Some.value) c.args.kept.now c.set.new.self (ap (option_map json) c.in-Some.is) h) c.set.ensures.ok
