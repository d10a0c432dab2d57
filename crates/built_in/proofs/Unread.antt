-- Bytes that read as a value aren't refused.
use Rattle.std.proofs.Common.{◌≡◌, ◌∙◌, ℕ, ◌<◌, List, Some, None, ap, sym, subst, arith}
use Rattle.serde_json.specs.Data as serde
use Rattle.kj_value.specs.Json.{Json}
use Rattle.kj_value.specs.Reading.{Reads, IsReading, json_of}
use Rattle.kj_value.specs.Fault.{IsRefusedJson}
use Rattle.kj_value.specs.declared.reading.JsonFault.{JsonFault}
use Rattle.kj_value.specs.declared.reading.JsonFault.TheVariants.{NotJson, TooDeep, NotWhole, NoMemory}
use Rattle.kj_value.specs.declared.reading.TheConstants.{MAX_JSON_LEVELS}
use Rattle.crd_loading.specs.Words.{read_word}
use Rattle.crd_loading.specs.Blame.{Blame}
use Rattle.crd_loading.specs.Load.{IsUnread}

some_one : (d e : serde.Data) → Some d ≡ Some e → d ≡ e
some_one d e p = cc

one_data : (bytes : List ℕ) (d e : serde.Data) → IsReading bytes d → IsReading bytes e → d ≡ e
one_data bytes d e a b = some_one d e (sym a.1 ∙ b.1)

some_none : (d : serde.Data) (j : Json) → json_of d ≡ Some j → json_of d ≡ None → ⊥
some_none d j p q = let e : Some j ≡ None = sym p ∙ q in cc

-- each fault that has a word
no_fault : (bytes : List ℕ) (j : Json) (w : List ℕ) (f : JsonFault) → Reads bytes MAX_JSON_LEVELS j → IsRefusedJson bytes MAX_JSON_LEVELS f → read_word f ≡ Some w → ⊥
unfolding read_word
no_fault bytes j w NotJson r n e = n r.0 r.1
no_fault bytes j w TooDeep r n e =
    let same : n.0 ≡ r.0 = one_data bytes n.0 r.0 n.1 r.1 in
    let deep : MAX_JSON_LEVELS < serde.depth r.0 = subst (λ (d : serde.Data). MAX_JSON_LEVELS < serde.depth d) same n.2 in
    omega (arith, deep, r.2)
no_fault bytes j w NotWhole r n e =
    let same : n.0 ≡ r.0 = one_data bytes n.0 r.0 n.1 r.1 in
    some_none r.0 j r.3 (ap json_of (sym same) ∙ n.3)
no_fault bytes j w NoMemory r n e = absurd (cc)

pub never_unread : (bytes : List ℕ) (j : Json) (b : Blame) → Reads bytes MAX_JSON_LEVELS j → IsUnread bytes b → ⊥
never_unread bytes j b r u = no_fault bytes j b.why u.fault r u.refused u.why
