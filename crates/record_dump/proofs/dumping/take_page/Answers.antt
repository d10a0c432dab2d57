use Rattle.std.proofs.Common.{◌+◌, ℕ, true, false, List, None, map, option_map, ap, ◌∙◌, inl, inr, refl}
use Rattle.kj_value.specs.Json.{Json}
use Rattle.kj_value.specs.Seen.{json}
use Rattle.wire_client.specs.Keys.{texts_key}
use Rattle.far_migrate.specs.Pages.{last_key}
use Rattle.record_dump.proofs.Taking.{goes_as, empty_as, few_as, takes_other, takes_starved, takes_unsent, takes_last, takes_more, unsent_blames, unsent_not_done, unsent_not_broken}
use Rattle.record_dump.proofs.dumping.take_page.Goals as goal

pub returns-then-not-goes_on-clause-wrote : goal.returns-then-not-goes_on-clause-wrote
returns-then-not-goes_on-clause-wrote g c =
    takes_other (g.K.Sink.written c.args.out.now) c.args.walk.now c.args.walk.now c.args.page
    (goes_as c.args.walk.now c.args.page (option_map texts_key c.last_key.result) (map json c.as_slice.result.now) c.as_str.result.now c.goes_on.result false c.last_key.ensures c.as_slice.ensures.value c.as_str.ensures c.goes_on.ensures.goes c.if-not-goes_on.true)

pub returns-in-Err-clause-wrote : goal.returns-in-Err-clause-wrote
returns-in-Err-clause-wrote g c = takes_starved (g.K.Sink.written c.args.out.now) c.args.walk.now c.args.walk.now c.args.page

pub returns-in-Err-send_page-clause-wrote : goal.returns-in-Err-send_page-clause-wrote
returns-in-Err-send_page-clause-wrote g c =
    takes_unsent (g.K.Sink.written c.args.out.now) (g.K.Sink.written c.send_page.new.out) c.args.walk.now c.args.walk.now c.args.page c.in-Err-send_page.unsent c.unsent_end.result
    (goes_as c.args.walk.now c.args.page (option_map texts_key c.last_key.result) (map json c.as_slice.result.now) c.as_str.result.now c.goes_on.result true c.last_key.ensures c.as_slice.ensures.value c.as_str.ensures c.goes_on.ensures.goes c.if-not-goes_on.false)
    c.in-Err-send_page.ensures.sent c.unsent_end.ensures

pub returns-in-Err-send_page-clause-flushed : goal.returns-in-Err-send_page-clause-flushed
returns-in-Err-send_page-clause-flushed g c = unsent_not_done _ c.in-Err-send_page.unsent c.unsent_end.result c.unsent_end.ensures

pub returns-in-Err-send_page-clause-cause : goal.returns-in-Err-send_page-clause-cause
returns-in-Err-send_page-clause-cause g c = unsent_blames _ c.in-Err-send_page.unsent c.unsent_end.result c.unsent_end.ensures c.in-Err-send_page.ensures.cause

pub returns-in-Err-send_page-clause-handed_on : goal.returns-in-Err-send_page-clause-handed_on
returns-in-Err-send_page-clause-handed_on g c = unsent_not_broken _ c.in-Err-send_page.unsent c.unsent_end.result c.unsent_end.ensures

pub returns-then-is_last-clause-wrote : goal.returns-then-is_last-clause-wrote
returns-then-is_last-clause-wrote g c =
    takes_last (g.K.Sink.written c.args.out.now) (g.K.Sink.written c.send_page.new.out) c.args.walk.now c.args.walk.now c.args.page (c.args.walk.now.listed + c.len.result)
    (goes_as c.args.walk.now c.args.page (option_map texts_key c.last_key.result) (map json c.as_slice.result.now) c.as_str.result.now c.goes_on.result true c.last_key.ensures c.as_slice.ensures.value c.as_str.ensures c.goes_on.ensures.goes c.if-not-goes_on.false)
    (empty_as c.as_str-2.result.now c.args.page.token.bytes c.is_last.result true c.as_str-2.ensures c.is_last.ensures c.if-is_last.true)
    c.in-Ok-send_page.ensures.sent (ap (λ (k : ℕ). c.args.walk.now.listed + k) c.len.ensures.len)

pub returns-clause-handed_on : goal.returns-clause-handed_on
returns-clause-handed_on g c = inr c.in-Ok-send_page.ensures.flushed

pub returns-then-not-goes_on-clause-handed_on : goal.returns-then-not-goes_on-clause-handed_on
returns-then-not-goes_on-clause-handed_on g c = inl refl

pub returns-clause-wrote : goal.returns-clause-wrote
returns-clause-wrote g c =
    takes_more (g.K.Sink.written c.args.out.now) (g.K.Sink.written c.send_page.new.out) c.args.walk.now (record { limit = c.args.walk.now.limit; token = c.args.page.token; last = c.in-Ok.last; listed = c.args.walk.now.listed + c.len.result }) c.args.page
    (goes_as c.args.walk.now c.args.page (option_map texts_key c.last_key.result) (map json c.as_slice.result.now) c.as_str.result.now c.goes_on.result true c.last_key.ensures c.as_slice.ensures.value c.as_str.ensures c.goes_on.ensures.goes c.if-not-goes_on.false)
    (empty_as c.as_str-2.result.now c.args.page.token.bytes c.is_last.result false c.as_str-2.ensures c.is_last.ensures c.if-is_last.false)
    c.in-Ok-send_page.ensures.sent
    (record {
      limit = refl;
      token = refl;
      last = c.in-Ok.ensures ∙ ap (λ (js : List Json). last_key None js) c.as_slice-2.ensures.value;
      listed = ap (λ (k : ℕ). c.args.walk.now.listed + k) c.len.ensures.len;
      few = few_as c.as_slice.result.now c.args.page.items c.args.walk.now.listed c.as_slice.ensures.value (c.goes_on.ensures.few c.if-not-goes_on.false);
    })
