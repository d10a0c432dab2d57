-- The documents that a server shows are sound, and no deeper than a client reads.
use Rattle.std.proofs.Common.{refl, sym, subst, ℕ, ◌<◌, ◌≤◌, ◌^◌, Bool, true, false, nat_eq, List, [], ◌∷◌, ◌++◌, None, Some, pos, codes, decimal, arith}
use Rattle.std.specs.Int.{w64}
use Rattle.std.specs.Prelude.{FitsSigned, IsTrue, if◌then◌else◌}
use Rattle.kj_value.specs.Json.{Json, whole, text, list, object, depth, items_depth, items_of, members_of}
use Rattle.kj_value.specs.Sound.{IsSoundJson, AreSoundItems}
use Rattle.kube_meta.specs.Document.{document, optional}
use Rattle.kube_meta.specs.View.{ObjectView}
use Rattle.api_calls.specs.Documents.{group_version, numbered, object_list}
use Rattle.api_calls.specs.Legal.{Each}
use Rattle.api_calls.specs.Meaning.{Meaning}
use Rattle.api_calls.specs.Objects.{Stored}
use Rattle.api_calls.specs.Replies.{AreShown}
use Rattle.api_calls.specs.Uid.{uid}
use Rattle.api_calls.specs.Versions.{Stand, StandsAt}
use Rattle.api_calls.specs.declared.versions.TheConstants.{OBJECT_LEVELS}
use Rattle.wire_client.specs.declared.buffer.TheConstants.{ANSWER_LEVELS}
use Rattle.far_laws.proofs.PageForms.{numbered_depth, numbered_sound}
use Rattle.run_laws.proofs.tallies.Holding.{IsHeld}

-- a sound value within the levels of an object
pub record IsFit (j : Json) : Type 0 where
  pub sound : IsSoundJson j
  pub levels : depth j ≤ OBJECT_LEVELS

module _ (m : Meaning) (stand : Stand m) (honest : IsTrue m.honest) where
  pub object_fit : (boot number born v : ℕ) (h x : ObjectView) → v < m.count → m.whole h → m.pair v h x → IsFit (document (numbered boot number born x))
  object_fit boot number born v h x known kept pairs =
      let at : StandsAt m v x = stand.pair v h x known kept pairs in
      let deep = numbered_depth x (decimal number) (uid boot born) at.no_number at.no_uid in
      let levels = at.levels in
      record { sound = numbered_sound x (decimal number) (uid boot born) at.no_number at.no_uid at.sound; levels = omega (arith, deep, levels) }

  record AreFit (js : List Json) : Type 0 where
    sound : AreSoundItems (items_of js)
    levels : items_depth (items_of js) ≤ OBJECT_LEVELS

  all_fit : (boot v : ℕ) (es : List Stored) (js : List Json) → v < m.count → Each (IsHeld m) es → AreShown m boot v es js → AreFit js
  all_fit boot v [] [] known kept shown = record { sound = tt; levels = omega arith }
  all_fit boot v (e ∷ es) (j ∷ js) known kept shown =
      let more = all_fit boot v es js known kept.1 shown.1 in
      let one : IsFit j = subst IsFit (sym shown.0.2) (object_fit boot e.number e.born v e.h shown.0.0 known kept.0.whole (shown.0.1 honest)) in
      let here = one.levels in
      let others = more.levels in
      record { sound = (one.sound, more.sound); levels = omega (arith, here, others) }
  all_fit boot v [] (j ∷ js) known kept shown = absurd shown
  all_fit boot v (e ∷ es) [] known kept shown = absurd shown

  -- a page of them is sound, and no deeper than a client reads
  pub record IsReadable (j : Json) : Type 0 where
    pub sound : IsSoundJson j
    pub levels : depth j ≤ ANSWER_LEVELS

  list_readable : (v : ℕ) (js : List Json) (token : List ℕ) (number left : ℕ) → AreFit js → left < 2 ^ 63 → IsReadable (object_list m v js token number left)
  unfolding object_list
  list_readable v js token number left fit few = by (nat_eq left 0)
    where
      fits : FitsSigned w64 (pos left)
      fits = omega (arith, few)

      levels : items_depth (items_of js) ≤ OBJECT_LEVELS
      levels = fit.levels

      by : (b : Bool) → IsReadable (object (members_of (
          (codes "apiVersion", text (group_version m v))
          ∷ (codes "items", list (items_of js))
          ∷ (codes "kind", text m.list_kind)
          ∷ (
            codes "metadata",
            object (members_of (
                (codes "continue", text token)
                ∷ optional (codes "remainingItemCount") (if b then None else Some (whole (pos left)))
                ++ (codes "resourceVersion", text (decimal number))
                ∷ [])),
          )
          ∷ [])))
      by true = record { sound = (refl, tt, (refl, fit.sound, (refl, tt, (tt, (refl, tt, (tt, tt, tt)), tt)))); levels = omega (arith, levels) }
      by false = record { sound = (refl, tt, (refl, fit.sound, (refl, tt, (tt, (refl, tt, (refl, fits, (tt, tt, tt))), tt)))); levels = omega (arith, levels) }

  pub page_readable : (boot v : ℕ) (es : List Stored) (js : List Json) (token : List ℕ) (number left : ℕ) → v < m.count → Each (IsHeld m) es → AreShown m boot v es js → left < 2 ^ 63
      → IsReadable (object_list m v js token number left)
  page_readable boot v es js token number left known held shown few = list_readable v js token number left (all_fit boot v es js known held shown) few
