-- Faults of a definition's calls, as refusals.
use Rattle.api_calls.specs.Meaning.{Meaning}
use Rattle.api_calls.specs.Meaning as fault
use Rattle.api_calls.specs.Cause.{cause_of, why_of, bad_token}
use Rattle.api_calls.specs.Refusal.{RefusalView, no_resource, bad_request, invalid, expired, converter, no_memory}
use Rattle.api_calls.specs.Replies.{object_subject, definition_subject, start_refusal}
use Rattle.api_calls.specs.declared.versions.AdmitFault.{AdmitFault}
use Rattle.api_calls.specs.declared.versions.AdmitFault.TheVariants as admits
use Rattle.api_calls.specs.declared.versions.ConvFault.{ConvFault}
use Rattle.api_calls.specs.declared.versions.ConvFault.TheVariants as converts
use Rattle.api_core.specs.declared.page_ends.PageFault.{PageFault}
use Rattle.api_core.specs.declared.page_ends.PageFault.TheVariants as pages

abbrev pub failed : ConvFault → RefusalView
failed converts.Tool = converter
failed converts.NoMemory = no_memory

abbrev pub admission : Meaning → AdmitFault → RefusalView
admission m (admits.BadRequest why) = bad_request (why_of why)
admission m (admits.Invalid name cause) = invalid (object_subject m name.bytes) (cause_of cause)
admission m admits.Tool = converter
admission m admits.NoMemory = no_memory

abbrev pub not_listed : PageFault → RefusalView
not_listed pages.Unserved = no_resource
not_listed (pages.Ahead revision) = bad_request bad_token
not_listed (pages.Expired floor) = expired floor
not_listed pages.NoMemory = no_memory

-- of a body that is read for the definition
abbrev pub unread : Meaning → AdmitFault → RefusalView
unread m (admits.BadRequest why) = bad_request (why_of why)
unread m (admits.Invalid name cause) = invalid (definition_subject m) (cause_of cause)
unread m admits.Tool = converter
unread m admits.NoMemory = no_memory

-- of a body that starts no migration
abbrev pub unstarted : AdmitFault → RefusalView
unstarted (admits.BadRequest why) = start_refusal (fault.bad_request (why_of why))
unstarted (admits.Invalid name cause) = start_refusal (fault.invalid name.bytes (cause_of cause))
unstarted admits.Tool = converter
unstarted admits.NoMemory = no_memory
