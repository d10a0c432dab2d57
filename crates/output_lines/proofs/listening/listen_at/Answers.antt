use Rattle.std.proofs.Common.{refl, sym, inl, inr, [], append-nil}
use Rattle.output_lines.specs.Listening.{listening_line}
use Rattle.output_lines.proofs.listening.listen_at.Goals as goal

pub returns-in-Err-clause-place : goal.returns-in-Err-clause-place
returns-in-Err-clause-place g c = inl refl

pub returns-in-Err-clause-silent : goal.returns-in-Err-clause-silent
returns-in-Err-clause-silent g c = inl refl

pub returns-in-Err-clause-unheard_untold : goal.returns-in-Err-clause-unheard_untold
returns-in-Err-clause-unheard_untold g c = refl

pub returns-in-Ok-tell_place-clause-place : goal.returns-in-Ok-tell_place-clause-place
returns-in-Ok-tell_place-clause-place g c = inr (record {
  place = c.in-Ok-place.taken.bytes;
  is = c.in-Ok-place.ensures.told c.args.place.now c.in-Ok.ensures.hears;
  front = record {
    front = listening_line c.in-Ok-place.taken.bytes;
    back = [];
    whole = sym (append-nil (listening_line c.in-Ok-place.taken.bytes));
    wrote = rw c.as_str.ensures at c.in-Ok-tell_place.ensures.sent;
  };
})
