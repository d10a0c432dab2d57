use Rattle.object_reading.proofs.Digits.{is_number-Decides}
use Rattle.object_reading.proofs.laws.numbers.Goals as goal

pub returns : goal.returns
returns c = is_number-Decides
