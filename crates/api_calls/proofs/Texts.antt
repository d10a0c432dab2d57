-- Bytes that spell an object read as its document, and aren't refused.
use Rattle.std.proofs.Common.{◌≡◌, ◌∙◌, ℕ, ◌≤◌, ◌<◌, List, Some, None, ap, sym, subst, arith}
use Rattle.std.specs.Prelude.{IsUtf8}
use Rattle.serde_json.specs.Data as serde
use Rattle.kj_value.specs.Json.{Json, depth}
use Rattle.kj_value.specs.Sound.{IsSoundJson}
use Rattle.kj_value.specs.Text.{text_of}
use Rattle.kj_value.specs.Reading.{Reads, IsReading, json_of}
use Rattle.kj_value.specs.Fault.{IsRefusedJson}
use Rattle.kj_value.specs.declared.reading.JsonFault.TheVariants.{NotJson, TooDeep, NotWhole}
use Rattle.kube_meta.specs.View.{ObjectView}
use Rattle.kube_meta.specs.Document.{document}
use Rattle.api_calls.specs.Spelled.{IsTextOf}

abbrev pub TextReads : Type 0
TextReads = (j : Json) → IsSoundJson j → depth j ≤ 100 → IsUtf8 (text_of j) → Reads (text_of j) (depth j) j

deeper : (bytes : List ℕ) (m n : ℕ) (j : Json) → Reads bytes m j → m ≤ n → Reads bytes n j
deeper bytes m n j r le = (r.0, r.1, omega (arith, r.2, le), r.3)

shallow : (j : Json) → depth j ≤ 64 → depth j ≤ 100
shallow j h = omega arith

pub reads : (x : ObjectView) (bytes : List ℕ) → TextReads → IsTextOf x bytes → Reads bytes 64 (document x)
reads x bytes text_reads t =
    let text : Reads (text_of (document x)) (depth (document x)) (document x) =
    text_reads (document x) t.sound (shallow (document x) t.levels) (subst IsUtf8 t.spelled t.utf8) in
    deeper bytes (depth (document x)) 64 (document x) (subst (λ (b : List ℕ). Reads b (depth (document x)) (document x)) (sym t.spelled) text) t.levels

-- ---- what reads isn't refused

some_one : (d e : serde.Data) → Some d ≡ Some e → d ≡ e
some_one d e p = cc

one_data : (bytes : List ℕ) (d e : serde.Data) → IsReading bytes d → IsReading bytes e → d ≡ e
one_data bytes d e a b = some_one d e (sym a.1 ∙ b.1)

some_none : (d : serde.Data) (j : Json) → json_of d ≡ Some j → json_of d ≡ None → ⊥
some_none d j p q = let e : Some j ≡ None = sym p ∙ q in cc

pub never_not_json : (bytes : List ℕ) (j : Json) → Reads bytes 64 j → IsRefusedJson bytes 64 NotJson → ⊥
never_not_json bytes j r n = n r.0 r.1

pub never_too_deep : (bytes : List ℕ) (j : Json) → Reads bytes 64 j → IsRefusedJson bytes 64 TooDeep → ⊥
never_too_deep bytes j r n =
    let same : n.0 ≡ r.0 = one_data bytes n.0 r.0 n.1 r.1 in
    let deep : 64 < serde.depth r.0 = subst (λ (d : serde.Data). 64 < serde.depth d) same n.2 in
    omega (arith, deep, r.2)

pub never_not_whole : (bytes : List ℕ) (j : Json) → Reads bytes 64 j → IsRefusedJson bytes 64 NotWhole → ⊥
never_not_whole bytes j r n =
    let same : n.0 ≡ r.0 = one_data bytes n.0 r.0 n.1 r.1 in
    some_none r.0 j r.3 (ap json_of (sym same) ∙ n.3)
