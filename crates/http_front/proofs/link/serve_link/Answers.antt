use Rattle.std.proofs.Common.{refl, inl, inr, ap}
use Rattle.http_front.proofs.Pacing.{from_empty}
use Rattle.http_front.proofs.Talking.{broke_memory, had_memory}
use Rattle.http_front.proofs.link.serve_link.Goals as goal

pub returns-in-Err-refuse_link-clause-links : goal.returns-in-Err-refuse_link-clause-links
returns-in-Err-refuse_link-clause-links g c = λ n named. broke_memory _ _ _ _ _ _ _ refl c.in-Err-refuse_link.ensures.sent

pub returns-in-Ok-refuse_link-clause-flushed : goal.returns-in-Ok-refuse_link-clause-flushed
returns-in-Ok-refuse_link-clause-flushed g c = λ first. c.in-Ok-refuse_link.ensures.flushed

pub returns-in-Ok-clause-links : goal.returns-in-Ok-clause-links
returns-in-Ok-clause-links g c = λ n named. had_memory _ _ _ c.serve_requests.result _ _ _ _ _ (c.serve_requests.ensures.links n named)

pub returns-in-Err-refuse_link-clause-paced : goal.returns-in-Err-refuse_link-clause-paced
returns-in-Err-refuse_link-clause-paced g c = λ n named. inl (tt, refl)

pub returns-in-Ok-refuse_link-clause-paced : goal.returns-in-Ok-refuse_link-clause-paced
returns-in-Ok-refuse_link-clause-paced g c = λ n named. inl (tt, refl)

pub returns-in-Ok-clause-paced : goal.returns-in-Ok-clause-paced
returns-in-Ok-clause-paced g c = λ n named. inr (c.serve_requests.new.inbox.bytes, from_empty _ (ap (λ i. i.bytes) c.in-Ok.ensures) (c.serve_requests.ensures.paced n named))
