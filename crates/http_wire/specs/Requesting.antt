-- A request as bytes, the client's side (RFC 9112, sections 3 and 6.2; RFC 9110, sections 7.2 and 7.6.1).
use Rattle.std.specs.Prelude.{ℕ, List, ◌++◌, length, codes}
use Rattle.http_wire.specs.Response.{length_field}

-- method SP target SP HTTP-version
unfoldable pub request_line : List ℕ → List ℕ → List ℕ
request_line method target = method ++ (codes " " ++ (target ++ codes " HTTP/1.1\r\n"))

-- the host, and the type of the body
unfoldable pub host_and_type : List ℕ
host_and_type = codes "Host: kubeconv\r\nContent-Type: application/json\r\n"

-- the field of closing, and the empty line
unfoldable pub closing_lines : List ℕ
closing_lines = codes "Connection: close\r\n\r\n"

-- a request with this body, which is the only one of its connection
unfoldable pub asks_for : List ℕ → List ℕ → List ℕ → List ℕ
asks_for method target body = request_line method target ++ (host_and_type ++ (length_field (length body) ++ (closing_lines ++ body)))
