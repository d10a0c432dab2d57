use Rattle.std.proofs.Common.{◌≤◌, arith}
use Rattle.serde_json.specs.Read as reader
use Rattle.kj_value.specs.Json.{depth}
use Rattle.kj_value.specs.Data.{to_data}
use Rattle.kj_value.proofs.ReadBack.{read-text_of, json_of-to_data, data_depth}
use Rattle.kj_value.proofs.laws.text_reads.Goals as goal

pub returns : goal.returns
returns c =
    λ j h shallow utf8.
    let within : depth j ≤ reader.max_depth = omega (arith, shallow) in
    (to_data j, (utf8, read-text_of j h within), omega (arith, data_depth j), json_of-to_data j h)
