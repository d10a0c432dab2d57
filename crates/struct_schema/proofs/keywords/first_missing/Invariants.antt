use Rattle.std.proofs.Common.{◌≡◌, drop, map, fold, filter, option_map}
use Rattle.kj_value.specs.Json.{members_of}
use Rattle.kj_value.specs.Texts.{bytes_of}
use Rattle.struct_schema.specs.Fault.{lesser, missing, first_missing}
use Rattle.struct_schema.proofs.keywords.first_missing.Given as goal

abbrev pub invariant-loop-name : goal.invariant-loop-name
invariant-loop-name l =
    fold lesser (option_map (λ t. t.now.bytes) l.first) (filter (missing (members_of l.fields)) (map bytes_of (drop l.name-index l.name-items))) ≡ first_missing l.required (members_of l.fields)
