-- What a call is told: its reply or its refusal, and an answer with the item that is entered.
use Rattle.std.specs.Prelude.{◌≡◌, Option, None, Result, Ok, Err}
use Rattle.api_calls.specs.Calls.{Told, answered}
use Rattle.api_calls.specs.Item.{Item}
use Rattle.api_calls.specs.Refusal.{refusal_of}
use Rattle.api_calls.specs.Refusal as refusal
use Rattle.api_calls.specs.Reply.{reply_of}
use Rattle.api_calls.specs.Replies.{Answer}
use Rattle.api_calls.specs.declared.reply.Reply.{Reply}
use Rattle.api_calls.specs.declared.refusal.Refusal.{Refusal}
use Rattle.call_texts.specs.declared.refused.Refused.{Refused}

abbrev pub told : Result Reply Refusal → Told
told (Ok r) = answered (Ok (reply_of r))
told (Err e) = answered (Err (refusal_of e))

abbrev pub decided : Result Reply Refused → Answer
decided (Ok r) = Ok (reply_of r)
decided (Err e) = Err (refusal_of e.refusal)

-- an answer with the item that is entered: as it is decided, or for want of memory, or since the tool had a fault
abbrev pub Came : Type 0 → (Answer → Option Item → Type 0) → Answer → Option Item → Type 0
Came rose D (Ok r) i = D (Ok r) i
Came rose D (Err refusal.no_memory) i = i ≡ None
Came rose D (Err refusal.converter) i = rose × (i ≡ None)
Came rose D (Err e) i = D (Err e) i
