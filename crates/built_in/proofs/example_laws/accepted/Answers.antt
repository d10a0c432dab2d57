use Rattle.std.proofs.Common.{List, ℕ}
use Rattle.kj_value.specs.Json.{Json}
use Rattle.kj_value.specs.Reading.{Reads}
use Rattle.built_in.proofs.Read.{AreValue}
use Rattle.built_in.proofs.Standing.{definition_stands, rules_stand, both_load}
use Rattle.built_in.specs.Example.{definition_document, rules_document}
use Rattle.built_in.proofs.ExampleAllowed.{definition_allowed, rules_allowed}
use Rattle.built_in.proofs.example_laws.accepted.Goals as goal

pub returns : goal.returns
returns c =
    let value : (bytes : List ℕ) (j : Json) → Reads bytes 100 j → AreValue bytes j = λ bytes j r. record { reads = r; one = λ k h. c.one_reading.ensures bytes 100 100 k j h r } in
    record {
      definition = λ crd b r. definition_stands definition_document definition_allowed crd b (value crd definition_document r);
      rules = λ crd rules b r s. rules_stand definition_document rules_document rules_allowed crd rules b (value crd definition_document r) (value rules rules_document s);
      loads = λ crd rules r s. both_load definition_document rules_document definition_allowed rules_allowed crd rules (value crd definition_document r) (value rules rules_document s);
    }
