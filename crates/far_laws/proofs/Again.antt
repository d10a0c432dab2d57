-- What was dumped and restored is there again, and dumps of the same objects are the same bytes.
use Rattle.std.proofs.Common.{◌≡◌, ◌∙◌, sym, ap, subst, ℕ, List, [], ◌++◌, append-nil, length, length-append, Option, arith}
use Rattle.std.specs.Prelude.{IsTrue}
use Rattle.kube_meta.specs.declared.limits.Limits.{Limits}
use Rattle.api_calls.specs.Item.{Item}
use Rattle.api_calls.specs.Legal.{legal}
use Rattle.api_calls.specs.Meaning.{Meaning}
use Rattle.api_calls.specs.State.{state}
use Rattle.api_calls.specs.Versions.{IgnoresStamps, IsOneToOne, KeepsKey, NamesDiffer, Stand}
use Rattle.place.specs.Place.{Names}
use Rattle.far_laws.specs.Answering.{GoesOn}
use Rattle.far_laws.proofs.Histories.{legal_before}
use Rattle.far_laws.proofs.PageForms.{OneReading, TextReads}
use Rattle.far_laws.specs.Speaking.{AreNames, front}
use Rattle.far_laws.specs.GivenBack.{GivesBack}
use Rattle.far_laws.specs.Dumped.{IsDumpOf}
use Rattle.far_laws.specs.Restored.{AreSame, Restoring}
use Rattle.far_laws.proofs.Restoring.{append_none, restored}
use Rattle.far_laws.proofs.Returned.{alike, returned}

-- a history that goes on from another, and up to the same, is that
between : (log at : List Item) → GoesOn log at → GoesOn at log → at ≡ log
between log at from to =
    let whole : log ≡ (log ++ from.0) ++ to.0 = to.1 ∙ ap (λ (l : List Item). l ++ to.0) from.1 in
    let parts = length-append (log ++ from.0) to.0 in
    let front = length-append log from.0 in
    let long : length log ≡ length ((log ++ from.0) ++ to.0) = ap (λ (l : List Item). length l) whole in
    let none : from.0 ≡ [] = append_none log from.0 (omega (arith, parts, front, long)) in
    from.1 ∙ ap (λ (l : List Item). log ++ l) none ∙ append-nil log

module _ (m : Meaning) (n : Names) (honest : IsTrue m.honest) (stand : Stand m) (keeps : KeepsKey m) (names : NamesDiffer m) (ignores : IgnoresStamps m) (text_reads : TextReads) (one_reading : OneReading) where
  pub all_restored : AreNames n → GivesBack m → (source : Limits) (boot : ℕ) (before after : List Item) (written : List ℕ) (lines : ℕ) → legal m source after
      → (dump : IsDumpOf (record { meaning = m; limits = source; boot = boot }) n before after written lines) → (limits : Limits) (start : ℕ) (told : Option (List ℕ)) (first last : List Item)
      → (state m first).objects ≡ [] → Restoring (front m limits start told) n first last written → AreSame (state m dump.at).objects (state m last).objects
  all_restored valid gives source boot before after written lines is_legal dump limits start told first last none r =
      returned m n honest stand keeps names ignores text_reads one_reading gives source boot dump.at dump.objects written (legal_before m source dump.at after is_legal dump.to) dump.all dump.wrote first last
      none (restored (front m limits start told) n valid text_reads one_reading stand keeps honest last r.legal first written r)

  pub dumps_alike : IsOneToOne m → (limits : Limits) (boot : ℕ) (before after : List Item) (written : List ℕ) (lines : ℕ) → legal m limits after
      → (dump : IsDumpOf (record { meaning = m; limits = limits; boot = boot }) n before after written lines) → (others : Limits) (start : ℕ) (first last : List Item) (again : List ℕ) (count : ℕ)
      → legal m others last → (second : IsDumpOf (record { meaning = m; limits = others; boot = start }) n first last again count)
      → AreSame (state m dump.at).objects (state m second.at).objects → again ≡ written
  dumps_alike one limits boot before after written lines is_legal dump others start first last again count is_legal_too second same =
      second.wrote
      ∙ sym (alike m n honest stand keeps names ignores text_reads one_reading one limits others boot start dump.at second.at dump.objects second.objects
      (legal_before m limits dump.at after is_legal dump.to) (legal_before m others second.at last is_legal_too second.to) same dump.all second.all)
      ∙ sym dump.wrote

  pub dump_is_back : AreNames n → IsOneToOne m → GivesBack m → (source : Limits) (boot : ℕ) (before after : List Item) (written : List ℕ) (lines : ℕ) → legal m source after
      → IsDumpOf (record { meaning = m; limits = source; boot = boot }) n before after written lines → (limits : Limits) (start : ℕ) (told : Option (List ℕ)) (first last : List Item)
      → (state m first).objects ≡ [] → Restoring (front m limits start told) n first last written → (again : List ℕ) (count : ℕ)
      → IsDumpOf (record { meaning = m; limits = limits; boot = start }) n last last again count → again ≡ written
  dump_is_back valid one gives source boot before after written lines is_legal dump limits start told first last none r again count second =
      let same = all_restored valid gives source boot before after written lines is_legal dump limits start told first last none r in
      let here : second.at ≡ last = between last second.at second.from second.to in
      dumps_alike one source boot before after written lines is_legal dump limits start last last again count r.legal second
      (subst (λ (l : List Item). AreSame (state m dump.at).objects (state m l).objects) (sym here) same)
