use Rattle.std.proofs.Common.{◌∙◌, [], refl, subst, IsUtf8}
use Rattle.request_replies.specs.Replies.{no_memory_text}
use Rattle.http_front.proofs.reply.write_answer.Goals as goal

pub returns-in-NoMemory-clause-sent : goal.returns-in-NoMemory-clause-sent
unfolding no_memory_text
returns-in-NoMemory-clause-sent g c =
    rw (c.in-NoMemory.is) (rw (c.as_bytes-in-NoMemory.ensures.value ∙ c.no_memory_text.ensures [] []) at c.write_response-in-NoMemory.ensures.sent)

pub returns-in-Reply-clause-utf8 : goal.returns-in-Reply-clause-utf8
returns-in-Reply-clause-utf8 g c = rw c.in-Reply.is (subst IsUtf8 c.as_str.ensures c.as_str.utf8)

pub returns-in-NoMethod-clause-utf8 : goal.returns-in-NoMethod-clause-utf8
returns-in-NoMethod-clause-utf8 g c = rw c.in-NoMethod.is ([], (refl, refl))

pub returns-in-NoMemory-clause-utf8 : goal.returns-in-NoMemory-clause-utf8
unfolding no_memory_text
returns-in-NoMemory-clause-utf8 g c = rw c.in-NoMemory.is (subst IsUtf8 (c.no_memory_text.ensures [] []) c.no_memory_text.utf8)
