-- That stored texts are within their weight, and what a create makes of an admitted value.
use Rattle.std.proofs.Common.{◌≡◌, ◌⊎◌, ℕ, ◌*◌, ◌≤◌, ◌<◌, ◌+◌, ◌^◌, pos, List, Option, None, Some, Err, length, inl, inr, sym, subst, refl, ◌∙◌, arith}
use Rattle.std.specs.Prelude.{IsTrue, true}
use Rattle.kube_meta.specs.Key.{KeyView}
use Rattle.kube_meta.specs.Names.{is_name}
use Rattle.kube_meta.specs.View.{ObjectView}
use Rattle.api_calls.specs.Calls.{create, no_memory, converter}
use Rattle.api_calls.specs.Item.{Item}
use Rattle.api_calls.specs.Meaning.{Meaning, Request, Weighs, stored_text}
use Rattle.api_calls.specs.Refusal as refusal
use Rattle.api_calls.specs.Replies.{Answer}
use Rattle.api_calls.specs.Values.{created_value}
use Rattle.api_calls.specs.Versions.{AdmitsWhole, AreStamps, IgnoresStamps, IsStamp, IsStored, Stand}
use Rattle.api_calls.specs.declared.versions.AdmitFault.TheVariants as admits
use Rattle.call_texts.specs.Told.{Came}
use Rattle.call_texts.specs.Faults.{failed}
use Rattle.write_texts.specs.Readying.{IsFresh}

-- ---- texts

-- a stored text is within its value's weight, where the texts of forms are
pub text_within : (m : Meaning) (at w n : ℕ) (h : ObjectView) (bytes : List ℕ)
    → ((v w n : ℕ) (h x : ObjectView) → m.whole h → v < m.count → m.pair v h x → Weighs m h w → h.meta.generation ≡ pos n → length (stored_text x) ≤ 256 * w)
    → h.meta.generation ≡ pos n → Weighs m h w → IsStored m at h bytes → length bytes ≤ 256 * w
text_within m at w n h bytes fits counts weighs s =
    subst (λ (b : List ℕ). length b ≤ 256 * w) (sym s.spelled) (fits at w n h s.form s.whole s.known s.pairs weighs counts)

pub failed-came : (rose : Type 0) (D : Answer → Option Item → Type 0) (a : Answer) → ((a ≡ Err refusal.no_memory) ⊎ (rose × (a ≡ Err refusal.converter))) → Came rose D a None
failed-came rose D a (inl is) = subst (λ (x : Answer). Came rose D x None) (sym is) refl
failed-came rose D a (inr is) = subst (λ (x : Answer). Came rose D x None) (sym is.1) (is.0, refl)

-- ---- what a create makes of an admitted value

pub fresh : (m : Meaning) → Stand m → IgnoresStamps m → AdmitsWhole m → (q : Request) (k : KeyView) (old : ObjectView) (e : Option ℕ) (w : ℕ) (stamp : List ℕ) → IsStamp stamp
    → m.admits q old e → (IsTrue m.honest → Weighs m (created_value stamp old) w) → 0 < w → k.ns ≡ q.ns → k.name ≡ old.meta.name
    → IsFresh m k (created_value stamp old) w
fresh m stand unstamped admitted q k old e w stamp is_stamp admits weighs some ns name =
    let is = admitted.admitted q old e admits in
    let stamps : AreStamps (Some stamp) None (pos 1) = record { created = is_stamp; deleted = tt; generation = omega arith } in
    record {
      whole = unstamped.whole old (Some stamp) None (pos 1) stamps is.whole;
      key = λ i. record { ns = (is.namespace ∙ sym ns) i; name = sym name i };
      new = record { generation = refl; unmarked = refl };
      weighs = weighs;
      some = some;
    }

-- the name of an admitted value is one
pub admitted_name : (m : Meaning) → Stand m → AdmitsWhole m → (q : Request) (old : ObjectView) (e : Option ℕ) → m.admits q old e → is_name old.meta.name ≡ true
admitted_name m stand admitted q old e admits = (stand.whole old (admitted.admitted q old e admits).whole).rules.name
