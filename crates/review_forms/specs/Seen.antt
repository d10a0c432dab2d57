-- For private clauses: what is seen of a request in memory, of a page, and of what stands at a name.
use Rattle.std.specs.Prelude.{◌≡◌, ℕ, true, List, Option, None, Some, codes}
use Rattle.kj_value.specs.Json.{Json}
use Rattle.kj_value.specs.Fields.{Pairs, field}
use Rattle.object_reading.specs.Refusal.{is_given_text}
use Rattle.review_forms.specs.First.{first_told}
use Rattle.review_forms.specs.Form.{text_in, is_filled, has_text}
use Rattle.review_forms.specs.Request.{RequestView}
use Rattle.review_forms.specs.Response.{response_faults, succeeded, converted_of}
use Rattle.review_forms.specs.declared.request.Request.{Request}

abbrev pub view_of : Request → RequestView
view_of r = record { uid = r.uid.bytes; desired = r.desired.bytes; objects = r.objects }

-- a text that isn't empty stands there
pub record HasFilled (o : Option Json) (s : List ℕ) : Type 0 where
  pub text : text_in o ≡ Some s
  pub filled : is_given_text is_filled o ≡ true

-- the fields are those of a response to the request of that uid, whose objects are ks
pub record IsSuccess (uid : List ℕ) (rs : Pairs) (ks : List Json) : Type 0 where
  pub form : first_told (response_faults rs) ≡ None
  pub answers : has_text uid (field (codes "uid") rs) ≡ true
  pub succeeded : succeeded rs ≡ true
  pub objects : ks ≡ converted_of rs
