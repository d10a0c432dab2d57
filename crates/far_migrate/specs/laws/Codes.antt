-- From a reply back to the code of the response.
use Rattle.std.proofs.Common.{◌≡◌, ◌==◌, ◌&&◌, ℕ, Bool, true, false, List, [], ◌∷◌, ◌++◌, Option, None, Some, refl, ap, sym, ◌∙◌, append_assoc, subst, arith, if◌then◌else◌}
use Rattle.std.proofs.lemmas.Bool.Decides.{nat_tests}
use Rattle.kj_value.specs.Json.{Json}
use Rattle.edge_io.specs.Exchanges.{Exchange}
use Rattle.place.specs.Place.{Names}
use Rattle.wire_client.specs.Calls.{Call}
use Rattle.wire_client.specs.Forms.{Path, api_version}
use Rattle.wire_client.specs.Answers.{Answer, too_long, no_response, coded, IsAnswer, Reply, given, broken, long, gone, code, shape, success_of, read_value, refused, has_details, form_fault, shaped, formed, reply_of, Replies}
use Rattle.far_migrate.specs.Answered.{Did, not_found}
use Rattle.far_migrate.specs.Told.{EndsWithCode}

-- the code that a reply tells
abbrev pub Tells : ℕ → Reply → Type 0
Tells c (given j) = ⊥
Tells c broken = ⊥
Tells c long = ⊥
Tells c gone = c ≡ not_found
Tells c (code d) = c ≡ d
Tells c (shape path) = ⊥

same_number : (m n : ℕ) → (m == n) ≡ true → m ≡ n
same_number m n e = grind (arith, nat_tests)

first_true : (a b : Bool) → (a && b) ≡ true → a ≡ true
first_true true b e = refl
first_true false b e = e

shaped_tells : (c : ℕ) (o : Option Path) (j : Json) → Tells c (shaped o j) → ⊥
shaped_tells c None j t = t
shaped_tells c (Some path) j t = t

refused_tells : (c m : ℕ) (v : Option Json) (version : List ℕ) (call : Call) → Tells c (formed version call (refused m v)) → c ≡ m
refused_tells c m v version call t = by_test ((m == 404) && has_details v) refl t
  where
    by_test : (b : Bool) → ((m == 404) && has_details v) ≡ b → Tells c (formed version call (if b then gone else code m)) → c ≡ m
    by_test true e h = h ∙ sym (same_number m 404 (first_true _ _ e))
    by_test false e h = h

value_tells : (c : ℕ) (v : Option Json) (version : List ℕ) (call : Call) → Tells c (formed version call (read_value v)) → ⊥
value_tells c None version call t = t
value_tells c (Some j) version call t = shaped_tells c (form_fault version call j) j t

answer_tells : (c : ℕ) (n : Names) (call : Call) (a : Answer) → Tells c (reply_of n call a) → (m : ℕ) × (v : Option Json) × (a ≡ coded m v) × (c ≡ m)
answer_tells c n call too_long t = absurd t
answer_tells c n call no_response t = absurd t
answer_tells c n call (coded m v) t = by_test (m == success_of call) t
  where
    by_test : (b : Bool) → Tells c (formed (api_version n) call (if b then read_value v else refused m v)) → (k : ℕ) × (w : Option Json) × (coded m v ≡ coded k w) × (c ≡ k)
    by_test true h = absurd (value_tells c v (api_version n) call h)
    by_test false h = (m, v, refl, refused_tells c m v (api_version n) call h)

-- the last exchange, whose reply tells a code
pub told_code : (n : Names) (call : Call) (e : Exchange) (r : Reply) (c : ℕ) (front : List Exchange) → Did n call e r → Tells c r → EndsWithCode (front ++ e ∷ []) c
told_code n call e r c front did tells = by_answer e.answer refl did.replies
  where
    by_answer : (o : Option (List ℕ)) → e.answer ≡ o → Replies n call o r → EndsWithCode (front ++ e ∷ []) c
    by_answer None is h = absurd (subst (λ (q : Reply). Tells c q) h tells)
    by_answer (Some bytes) is h =
        let t = answer_tells c n call h.0 (subst (λ (q : Reply). Tells c q) h.2 tells) in
        let w = subst (λ (a : Answer). IsAnswer bytes a) t.2 h.1 in
        record {
          front = front;
          e = e;
          there = refl;
          bytes = bytes;
          answer = is;
          response = w.0;
          rest = w.1;
          receives = w.2;
          code = w.3 ∙ sym t.3;
        }

-- what stands before the exchanges doesn't matter
pub ends_later : (es fs : List Exchange) (c : ℕ) → EndsWithCode fs c → EndsWithCode (es ++ fs) c
ends_later es fs c l = record {
  front = es ++ l.front;
  e = l.e;
  there = ap (λ (gs : List Exchange). es ++ gs) l.there ∙ sym (append_assoc es l.front (l.e ∷ []));
  bytes = l.bytes;
  answer = l.answer;
  response = l.response;
  rest = l.rest;
  receives = l.receives;
  code = l.code;
}
