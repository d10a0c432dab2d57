-- For private clauses: the pieces of a response's text.
use Rattle.std.specs.Prelude.{ℕ, List, codes}

-- ---- a response of converted objects: the objects, and then the uid

unfoldable pub success_front : List ℕ
success_front = codes "{\"apiVersion\":\"apiextensions.k8s.io/v1\",\"kind\":\"ConversionReview\",\"response\":{\"convertedObjects\":["

unfoldable pub success_middle : List ℕ
success_middle = codes "],\"result\":{\"status\":\"Success\"},\"uid\":"

-- ---- a response without: the message, and then the uid

unfoldable pub failure_front : List ℕ
failure_front = codes "{\"apiVersion\":\"apiextensions.k8s.io/v1\",\"kind\":\"ConversionReview\",\"response\":{\"result\":{\"message\":"

unfoldable pub failure_middle : List ℕ
failure_middle = codes ",\"status\":\"Failure\"},\"uid\":"
