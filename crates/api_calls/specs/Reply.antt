-- What a reply is seen as: the status code, and the text as bytes.
use Rattle.std.specs.Prelude.{ℕ, List}
use Rattle.api_calls.specs.declared.reply.Reply.{Reply}

pub record ReplyView : Type 0 where
  pub code : ℕ
  pub text : List ℕ

abbrev pub reply_of : Reply → ReplyView
reply_of r = record { code = r.code; text = r.text.bytes }
