use Rattle.run_laws.proofs.Anything.{refusal_any, unserved_any, reading_any, writing_any, hearing_any, ears_any, memory_any}
use Rattle.run_laws.proofs.any_line.by_status.Goals as goal

pub returns-clause-refusal : goal.returns-clause-refusal
returns-clause-refusal g c = λ w line s out e. refusal_any w line s out e

pub returns-clause-unserved : goal.returns-clause-unserved
returns-clause-unserved g c = λ w line s out e. unserved_any w line s out e

pub returns-clause-read_fault : goal.returns-clause-read_fault
returns-clause-read_fault g c = λ w line s out e. reading_any w line s out e

pub returns-clause-write_fault : goal.returns-clause-write_fault
returns-clause-write_fault g c = λ w line s out e. writing_any w line s out e

pub returns-clause-ears_fault : goal.returns-clause-ears_fault
returns-clause-ears_fault g c = λ w line s out e. hearing_any w line s out e

pub returns-clause-ears : goal.returns-clause-ears
returns-clause-ears g c = λ w line s out none. ears_any w line s out none

pub returns-clause-memory : goal.returns-clause-memory
returns-clause-memory g c = λ w line s out none e. memory_any w line s out none e
