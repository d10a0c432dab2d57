-- What an exchange comes to by its code.
use Rattle.std.proofs.Common.{◌≡◌, ℕ, List, [], ◌∷◌, Option, None, Some, Result, Ok, Err, IfOk, IfErr, refl, sym, inl, inr}
use Rattle.kj_value.specs.Seen.{json}
use Rattle.kj_value.specs.declared.value.JVal.{JVal}
use Rattle.wire_client.specs.Far.{Server, Told, Made}
use Rattle.wire_client.specs.Answers.{Answer, IsAnswer, Reply, given, reply_by_code}
use Rattle.wire_client.specs.inner.Seen.{Asked, AskedEnd, JudgedEnd}
use Rattle.wire_client.specs.declared.end.WireEnd.{WireEnd}
use Rattle.wire_client.specs.declared.end.WireEnd.TheVariants as wire

asked_one : (s : Server) (before now : Told) (request bytes : List ℕ) (success : ℕ) (a : Answer) (reply : Reply)
    → Made s before now ((record { request = request; answer = Some bytes }) ∷ []) → IsAnswer bytes a → reply_by_code success a ≡ reply → Asked s before now request success reply
asked_one s before now request bytes success a reply made is comes = record {
  answer = Some bytes;
  made = made;
  by_code = (a, is, sym comes);
}

pub asked_given : (s : Server) (before now : Told) (request bytes : List ℕ) (success : ℕ) (a : Answer) (r : Result JVal WireEnd)
    → Made s before now ((record { request = request; answer = Some bytes }) ∷ []) → IsAnswer bytes a
    → IfOk r (λ v. reply_by_code success a ≡ given (json v)) → IfOk r (λ v. Asked s before now request success (given (json v)))
asked_given s before now request bytes success a (Ok v) made is h = asked_one s before now request bytes success a (given (json v)) made is h
asked_given s before now request bytes success a (Err e) made is h = h

end_asked : (s : Server) (before now : Told) (request bytes : List ℕ) (success : ℕ) (a : Answer) (e : WireEnd)
    → Made s before now ((record { request = request; answer = Some bytes }) ∷ []) → IsAnswer bytes a → JudgedEnd success a e → AskedEnd s before now request success e
end_asked s before now request bytes success a wire.LinkFault made is h = absurd h
end_asked s before now request bytes success a wire.TooLong made is h = asked_one s before now request bytes success a _ made is h
end_asked s before now request bytes success a wire.Gone made is h = asked_one s before now request bytes success a _ made is h
end_asked s before now request bytes success a (wire.Code c) made is h = asked_one s before now request bytes success a _ made is h
end_asked s before now request bytes success a (wire.Shape path) made is h = asked_one s before now request bytes success a _ made is h
end_asked s before now request bytes success a wire.NoMemory made is h = inr (bytes, made)

pub asked_end : (s : Server) (before now : Told) (request bytes : List ℕ) (success : ℕ) (a : Answer) (r : Result JVal WireEnd)
    → Made s before now ((record { request = request; answer = Some bytes }) ∷ []) → IsAnswer bytes a
    → IfErr r (JudgedEnd success a) → IfErr r (AskedEnd s before now request success)
asked_end s before now request bytes success a (Ok v) made is h = h
asked_end s before now request bytes success a (Err e) made is h = end_asked s before now request bytes success a e made is h
