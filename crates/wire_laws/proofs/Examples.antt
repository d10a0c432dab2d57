-- The premises of the laws can be met.
use Rattle.std.proofs.Common.{refl, List, [], codes, arith}
use Rattle.httparse.specs.Grammar.{is_token_byte}
use Rattle.wire_laws.specs.Sendable.{IsSendable, is_visible}
use Rattle.wire_laws.proofs.Digits.{passes}
use Rattle.wire_laws.proofs.Requests.{short_enough}

-- a list of the objects of a group, as a client asks for it
pub a_list : IsSendable (codes "GET") (codes "/apis/example.com/v1/crontabs?limit=500") []
unfolding is_token_byte
a_list = record {
  token = (omega arith, passes is_token_byte (codes "GET") refl);
  some = omega arith;
  visible = passes is_visible (codes "/apis/example.com/v1/crontabs?limit=500") refl;
  head = short_enough (codes "GET") (codes "/apis/example.com/v1/crontabs?limit=500") [] (omega arith) (omega arith);
}

-- a put with a body
pub a_put : IsSendable (codes "PUT") (codes "/apis/example.com/v1/namespaces/ns/crontabs/a") (codes "{}")
unfolding is_token_byte
a_put = record {
  token = (omega arith, passes is_token_byte (codes "PUT") refl);
  some = omega arith;
  visible = passes is_visible (codes "/apis/example.com/v1/namespaces/ns/crontabs/a") refl;
  head = short_enough (codes "PUT") (codes "/apis/example.com/v1/namespaces/ns/crontabs/a") (codes "{}") (omega arith) (omega arith);
}
