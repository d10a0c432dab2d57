-- What is wrong with a document or a request, with texts as bytes.
use Rattle.std.specs.Prelude.{ℕ, List, codes}
use Rattle.kj_value.specs.declared.rule.Rule.{Rule}
use Rattle.api_calls.specs.declared.cause.Cause.{Cause}
use Rattle.api_calls.specs.declared.why.Why.{Why}
use Rattle.api_calls.specs.declared.why.Why.TheVariants as why

-- a field's path, and the rule that it breaks
pub record CauseView : Type 0 where
  pub field : List ℕ
  pub rule : Rule

abbrev pub cause_of : Cause → CauseView
cause_of c = record { field = c.field.bytes; rule = c.rule }

-- why a request is a bad one
pub data WhyView : Type 0 where
  not_json : WhyView
  too_deep : WhyView
  not_whole : WhyView
  not_object : WhyView
  wrong_version : WhyView
  wrong_kind : WhyView
  wrong_namespace : WhyView
  wrong_name : WhyView
  bad_query : List ℕ → WhyView
  bad_token : WhyView
  bad_options : WhyView

abbrev pub why_of : Why → WhyView
why_of why.NotJson = not_json
why_of why.TooDeep = too_deep
why_of why.NotWhole = not_whole
why_of why.NotObject = not_object
why_of why.WrongVersion = wrong_version
why_of why.WrongKind = wrong_kind
why_of why.WrongNamespace = wrong_namespace
why_of why.WrongName = wrong_name
why_of (why.BadQuery parameter) = bad_query parameter.bytes
why_of why.BadToken = bad_token
why_of why.BadOptions = bad_options

-- the word that stands in messages
unfoldable pub why_word : WhyView → List ℕ
why_word not_json = codes "NotJson"
why_word too_deep = codes "TooDeep"
why_word not_whole = codes "NotWhole"
why_word not_object = codes "NotObject"
why_word wrong_version = codes "WrongVersion"
why_word wrong_kind = codes "WrongKind"
why_word wrong_namespace = codes "WrongNamespace"
why_word wrong_name = codes "WrongName"
why_word (bad_query parameter) = codes "BadQuery"
why_word bad_token = codes "BadToken"
why_word bad_options = codes "BadOptions"
