-- A stored text spells the form that is stored.
use Rattle.std.proofs.Common.{◌≡◌, ℕ, List, Ok, Err}
use Rattle.std.specs.Prelude.{IfOk, Result}
use Rattle.kj_value.specs.Txt.{Bytes}
use Rattle.kj_value.specs.declared.error.NoMemory.{NoMemory}
use Rattle.kube_meta.specs.View.{ObjectView}
use Rattle.api_calls.specs.Documents.{reply_text}
use Rattle.api_calls.specs.Meaning.{Meaning}
use Rattle.api_calls.specs.Replies.{IsShown}
use Rattle.api_calls.specs.laws.SpelledLaws.{stored-text}
use Rattle.api_calls.specs.Versions.{IsStored, Stand}
use Rattle.api_core.specs.declared.seen.Seen.{Seen}
use Rattle.document_text.specs.Numbered.{IsBare}

-- the text is that of the form's document, which has neither number nor uid
pub bare-stored : (m : Meaning) (v : ℕ) (h : ObjectView) (bytes : List ℕ) → Stand m → (s : IsStored m v h bytes) → IsBare s.form bytes
bare-stored m v h bytes stand s =
    let at = stand.pair v h s.form s.known s.whole s.pairs in
    let text = stored-text m v h bytes stand s in
    record { no_number = at.no_number; no_uid = at.no_uid; sound = text.sound; spelled = text.spelled }

-- a stored text with its number and uid shows each value of the stored text
pub shown-as-stored : (m : Meaning) (boot : ℕ) (s : Seen) (r : Result Bytes NoMemory) → Stand m
    → IfOk r (λ t. (x : ObjectView) → IsBare x s.bytes.bytes → t.bytes ≡ reply_text boot s.rv s.born x)
    → IfOk r (λ t. (h : ObjectView) → IsStored m s.at h s.bytes.bytes → IsShown m boot s.at h s.rv s.born t.bytes)
shown-as-stored m boot s (Err e) stand is = tt
shown-as-stored m boot s (Ok t) stand is = λ h stored. (stored.form, (λ honest. stored.pairs), is stored.form (bare-stored m s.at h s.bytes.bytes stand stored))
