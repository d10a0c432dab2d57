-- For private clauses: the pieces of a review's text.
use Rattle.std.specs.Prelude.{ℕ, zero, suc, List, [], codes}

-- what stands before an item
abbrev pub comma_before : ℕ → List ℕ
comma_before zero = []
comma_before (suc i) = codes ","

-- ---- a request: the wanted version, the objects, and then the uid

unfoldable pub request_front : List ℕ
request_front = codes "{\"apiVersion\":\"apiextensions.k8s.io/v1\",\"kind\":\"ConversionReview\",\"request\":{\"desiredAPIVersion\":"

unfoldable pub request_middle : List ℕ
request_middle = codes ",\"objects\":["

unfoldable pub request_end : List ℕ
request_end = codes "],\"uid\":"

-- the end of a review
unfoldable pub review_end : List ℕ
review_end = codes "}}"
