-- The fault of a response that is no review.
use Rattle.review_forms.specs.declared.fault.ReviewFault.{ReviewFault}
use Rattle.review_forms.specs.declared.fault.ReviewFault.TheVariants as review
use Rattle.review_forms.specs.declared.fault.ResponseFault.{ResponseFault}
use Rattle.review_forms.specs.declared.fault.ResponseFault.TheVariants as response

abbrev pub response_fault_of : ReviewFault → ResponseFault
response_fault_of (review.NotReview path) = response.NotReview path
response_fault_of review.NoMemory = response.NoMemory
