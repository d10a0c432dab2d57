-- What is behind a server that may answer in more ways is behind one that answers in fewer.
use Rattle.std.proofs.Common.{inl}
use Rattle.kube_meta.specs.declared.limits.Limits.{Limits}
use Rattle.api_calls.specs.Meaning.{Meaning}
use Rattle.api_calls.specs.Versions.{KeepsKey, Stand}
use Rattle.std.specs.Prelude.{ℕ, List, Option}
use Rattle.api_calls.specs.Item.{Item}
use Rattle.request_replies.specs.Replies.{Front}
use Rattle.place.specs.Place.{Names}
use Rattle.wire_client.specs.Answers.{Reply}
use Rattle.wire_client.specs.Calls.{Call}
use Rattle.far_laws.specs.Answering.{Answered, IsBehind}
use Rattle.far_laws.proofs.PageForms.{OneReading, TextReads}
use Rattle.far_laws.proofs.Paging.{IsKnown}
use Rattle.far_laws.specs.Speaking.{AreNames, front, speaker}
use Rattle.far_laws.proofs.Behind.{is_behind}
use Rattle.far_laws.specs.Dumped as dumped
use Rattle.far_laws.proofs.Listed.{known_of}
use Rattle.run_laws.specs.Replying.{replying}

speaks : (f : Front) (n : Names) (call : Call) (log own : List Item) (r : Reply) → Answered (replying f) n call log own r → Answered (speaker f) n call log own r
speaks f n call log own r a = record { bytes = a.bytes; answers = inl a.answers.0; replies = a.replies }

replies_behind : (f : Front) (n : Names) → IsBehind f.server n (speaker f) → IsBehind f.server n (replying f)
replies_behind f n b = record {
  gives = λ call fits log own j a. b.gives call fits log own j (speaks f n call log own _ a);
  misses = λ call fits log own a. b.misses call fits log own (speaks f n call log own _ a);
  enters = λ call fits log own bytes a. b.enters call fits log own bytes (inl a.0);
}

pub known_to_reply : (m : Meaning) (limits : Limits) (boot : ℕ) (told : Option (List ℕ)) (n : Names) (last : List Item) → AreNames n → dumped.IsKnown m limits last → Stand m → KeepsKey m
    → TextReads → OneReading → IsKnown m limits boot n (replying (front m limits boot told)) last
known_to_reply m limits boot told n last names known stand keeps text_reads one_reading =
    let f = front m limits boot told in
    known_of m limits boot n (replying f) last known (replies_behind f n (is_behind f n names text_reads one_reading)) stand keeps text_reads one_reading
