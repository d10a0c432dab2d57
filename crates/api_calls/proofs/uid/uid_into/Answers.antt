use Rattle.std.proofs.Common.{refl}
use Rattle.api_calls.specs.Uid.{uid}
use Rattle.api_calls.proofs.Fields.{length-hyphenated_text}
use Rattle.api_calls.proofs.uid.uid_into.Goals as goal

pub add-requires : goal.add-requires
add-requires c = rw (c.encode_lower.ensures.text, length-hyphenated_text) c.requires.room

pub returns-clause-bytes : goal.returns-clause-bytes
unfolding uid
returns-clause-bytes c = rw (c.add.ensures.bytes, c.encode_lower.ensures.text, c.hyphenated.ensures, c.from_u64_pair.ensures) refl

pub returns-clause-room : goal.returns-clause-room
returns-clause-room c = rw (c.encode_lower.ensures.text, length-hyphenated_text) at c.add.ensures.room
