use Rattle.std.proofs.Common.{◌≡◌, ◌^◌, ◌<◌, take, drop}
use Rattle.std.specs.List.{list_all}
use Rattle.std.specs.Char.{is_ascii_digit}
use Rattle.std.specs.Str.Parse.{digits_value}
use Rattle.http_routes.proofs.query.limit_in.Given as goal

abbrev pub invariant-loop-b : goal.invariant-loop-b
invariant-loop-b l = record {
  digits : list_all is_ascii_digit l.value ≡ list_all is_ascii_digit (drop l.b-index l.value);
  is : l.n ≡ digits_value 10 (take l.b-index l.value);
  bound : l.n < 10 ^ l.b-index;
}
