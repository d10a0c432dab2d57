-- Stored texts and weights.
use Rattle.std.proofs.Common.{◌≡◌, ◌∙◌, ℕ, ◌<◌, ◌≤◌, List, Option, ap, sym, arith}
use Rattle.std.specs.Prelude.{ℤ, length}
use Rattle.kj_value.specs.Json.{Json}
use Rattle.kj_value.specs.Sound.{IsSoundJson}
use Rattle.kj_value.specs.Text.{text_of}
use Rattle.kube_meta.specs.View.{ObjectView}
use Rattle.kube_meta.specs.Document.{document}
use Rattle.api_calls.specs.Meaning.{Meaning, Weighs, unnumbered, stored_text, measure, chunks, stamped, widest}
use Rattle.api_calls.specs.Versions.{StandsAt, IsStored, IsOneToOne, IgnoresStamps, Stand}
use Rattle.api_calls.specs.laws.SpelledLaws.{unnumbered-itself}
use Rattle.api_calls.proofs.OneDocument.{document_one}

-- ---- one text, one object

pub one_form : (m : Meaning) (v w : ℕ) (x y : ObjectView) → ((j k : Json) → IsSoundJson j → IsSoundJson k → text_of j ≡ text_of k → j ≡ k)
    → StandsAt m v x → StandsAt m w y → stored_text x ≡ stored_text y → x ≡ y
one_form m v w x y one_text s t e =
    let same : text_of (document x) ≡ text_of (document y) =
    ap (λ (z : ObjectView). text_of (document z)) (sym (unnumbered-itself m v x s)) ∙ e ∙ ap (λ (z : ObjectView). text_of (document z)) (unnumbered-itself m w y t) in
    document_one x y s.body t.body (one_text (document x) (document y) s.sound t.sound same)

pub stored_one : (m : Meaning) (v : ℕ) (g h : ObjectView) (bytes : List ℕ) → ((j k : Json) → IsSoundJson j → IsSoundJson k → text_of j ≡ text_of k → j ≡ k)
    → Stand m → IsOneToOne m → IsStored m v g bytes → IsStored m v h bytes → g ≡ h
stored_one m v g h bytes one_text stand one a b =
    let same = one_form m v v a.form b.form one_text (stand.pair v g a.form a.known a.whole a.pairs) (stand.pair v h b.form b.known b.whole b.pairs) (sym a.spelled ∙ b.spelled) in
    one.injective v g h b.form a.known a.whole b.whole (subst_pair same a.pairs) b.pairs
  where
    subst_pair : a.form ≡ b.form → m.pair v g a.form → m.pair v g b.form
    subst_pair e p = rw (← e) p

-- ---- weights

text_some : (x : ObjectView) → 1 ≤ length (text_of (document x))
unfolding document
text_some x = omega arith

chunks_some : (n : ℕ) → 1 ≤ n → 1 ≤ chunks n
chunks_some n h = omega arith

pub weighs_some : (m : Meaning) (h : ObjectView) (w : ℕ) → Weighs m h w → 0 < w
weighs_some m h w weighs =
    let some = chunks_some (measure weighs.met.1) (text_some (unnumbered (widest weighs.met.1))) in
    omega (arith, some, weighs.met.4)

pub weighs_one : (m : Meaning) (h : ObjectView) (w y : ℕ) → Weighs m h w → Weighs m h y → w ≡ y
weighs_one m h w y a b =
    let most = a.within b.met.0 b.met.1 b.met.2 b.met.3 in
    let least = b.within a.met.0 a.met.1 a.met.2 a.met.3 in
    omega (arith, most, least, a.met.4, b.met.4)

pub weighs_unstamped : (m : Meaning) (h : ObjectView) (w : ℕ) (created deleted : Option (List ℕ)) (generation : ℤ)
    → IgnoresStamps m → Weighs m h w → Weighs m (stamped h created deleted generation) w
weighs_unstamped m h w created deleted generation ignores a = record {
  within = λ v x known pairs. a.within v (stamped x h.meta.created h.meta.deleted h.meta.generation) known
      (ignores.pair v (stamped h created deleted generation) x h.meta.created h.meta.deleted h.meta.generation pairs);
  met = (a.met.0, stamped a.met.1 created deleted generation, a.met.2, ignores.pair a.met.0 h a.met.1 created deleted generation a.met.3, a.met.4);
}
