-- Each refusal's code has a phrase.
use Rattle.http_wire.specs.Response.{HasPhrase}
use Rattle.http_wire.specs.laws.PhraseLaws.{phrase-400, phrase-404, phrase-409, phrase-410, phrase-422, phrase-502, phrase-503, phrase-507}
use Rattle.api_calls.specs.Refusal.{RefusalView, not_found, no_resource, already_exists, conflict, invalid, bad_request, expired, full, migration_running, still_stored, converter, no_memory}
use Rattle.api_calls.specs.Status.{code_of_refusal}

pub refusal_phrase : (r : RefusalView) → HasPhrase (code_of_refusal r)
refusal_phrase (not_found name) = phrase-404
refusal_phrase no_resource = phrase-404
refusal_phrase (already_exists name) = phrase-409
refusal_phrase (conflict name newer) = phrase-409
refusal_phrase (invalid subject cause) = phrase-422
refusal_phrase (bad_request why) = phrase-400
refusal_phrase (expired floor) = phrase-410
refusal_phrase (full room) = phrase-507
refusal_phrase (migration_running name) = phrase-409
refusal_phrase (still_stored version key) = phrase-409
refusal_phrase converter = phrase-502
refusal_phrase no_memory = phrase-503

pub ruleset codes = refusal_phrase
