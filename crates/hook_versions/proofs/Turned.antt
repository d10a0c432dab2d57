-- What one turn of a call comes to.
use Rattle.std.proofs.Common.{◌≡◌, ◌∙◌, ℕ, List, length, Option, Some, inl, inr, refl, ap, ap₂, sym, subst}
use Rattle.std.specs.Prelude.{◌≢◌}
use Rattle.kj_value.specs.Json.{Json}
use Rattle.kube_meta.specs.View.{MetaView, ObjectView}
use Rattle.kube_meta.specs.Document.{document}
use Rattle.object_reading.specs.Parts.{whole_in}
use Rattle.api_calls.specs.declared.versions.ConvFault.{ConvFault}
use Rattle.api_calls.specs.declared.versions.ConvFault.TheVariants as conv
use Rattle.crd_meaning.specs.Definition.{Definition}
use Rattle.converters.specs.Turned.{Turned, IsSameAt, Stays}
use Rattle.converters.specs.Turns.{Turn, answered, refused, failed, one_more}
use Rattle.crd_laws.specs.Hook.{version_text}
use Rattle.crd_laws.specs.Turning.{WasTurned, Becomes, as_it_is, by_turn, FailsBy, of_failed, of_refused, of_answer, Made, turn_to, taken_of, OfTurns}
use Rattle.hook_versions.specs.Taken.{BlamesTurn}
use Rattle.hook_versions.specs.inner.Steps.{IsSent, IsTaken, Turns, NoTurn}
use Rattle.hook_versions.specs.declared.turning.Unturned.TheVariants as unturned
use Rattle.hook_versions.proofs.Trail.{none_made, one_made}

module _ (d : Definition) (before now : Option (List Turn)) (x : ObjectView) (v : ℕ) where
  pub was_turned : (y : ObjectView) → Turns d before now x v y → OfTurns before now (λ ts. WasTurned d ts x v y)
  was_turned y t =
      one_made before now (document x) (version_text d v) (answered t.answer) (λ ts. WasTurned d ts x v y) t.made
      (record { answer = t.answer; made = inl refl; good = t.taken.good; taken = t.taken.is })

  pub turned_once : (y : ObjectView) → Turns d before now x v y → OfTurns before now (λ ts. (length ts ≡ 1) × WasTurned d ts x v y)
  turned_once y t =
      one_made before now (document x) (version_text d v) (answered t.answer) (λ ts. (length ts ≡ 1) × WasTurned d ts x v y) t.made
      (refl, record { answer = t.answer; made = inl refl; good = t.taken.good; taken = t.taken.is })

  pub becomes_turned : (w : ℕ) (y : ObjectView) → w ≢ v → Turns d before now x v y → OfTurns before now (λ ts. Becomes d ts w x v y)
  becomes_turned w y other t =
      one_made before now (document x) (version_text d v) (answered t.answer) (λ ts. Becomes d ts w x v y) t.made
      (by_turn other (record { answer = t.answer; made = inl refl; good = t.taken.good; taken = t.taken.is }))

  pub refused_made : now ≡ one_more before (document x) (version_text d v) refused → OfTurns before now (λ ts. Made ts (turn_to d x v refused))
  refused_made e = one_made before now (document x) (version_text d v) refused (λ ts. Made ts (turn_to d x v refused)) e (inl refl)

  pub refused_fails : NoTurn d before now x v unturned.Refused → OfTurns before now (FailsBy d)
  refused_fails e = one_made before now (document x) (version_text d v) refused (FailsBy d) e (of_refused x v (inl refl))

  pub failed_fails : NoTurn d before now x v unturned.Failed → OfTurns before now (FailsBy d)
  failed_fails (inl e) = one_made before now (document x) (version_text d v) failed (FailsBy d) e (of_failed x v (inl refl))
  failed_fails (inr n) = one_made before now (document x) (version_text d v) (answered n.0) (FailsBy d) n.1 (of_answer x v n.0 (inl refl) n.2)

pub blames_turn : (d : Definition) (a b c : Option (List Turn)) (f : ConvFault) → OfTurns a b (FailsBy d) → c ≡ b → BlamesTurn d a c f
blames_turn d a b c conv.Tool t e = subst (λ (o : Option (List Turn)). OfTurns a o (FailsBy d)) (sym e) t
blames_turn d a b c conv.NoMemory t e = tt

-- the turn of an answer that is taken
pub turns_so : (d : Definition) (before now : Option (List Turn)) (x : ObjectView) (v : ℕ) (y : ObjectView) (j : Json) → IsTaken d x v j y
    → now ≡ one_more before (document x) (version_text d v) (answered j) → Turns d before now x v y
turns_so d before now x v y j t e = record { answer = j; taken = t; made = e }

-- what an honest converter answers is taken whole
with_parts : (w : ObjectView) (k : List ℕ) (m : MetaView) → w.kind ≡ k → w.meta ≡ m → w ≡ record w { kind = k; meta = m }
with_parts w k m p q = ap₂ (λ (l : List ℕ) (n : MetaView). record w { kind = l; meta = n }) p q

same_taken : (x : ObjectView) (to : List ℕ) (j : Json) → IsSameAt x to (whole_in j) → whole_in j ≡ taken_of x j
same_taken x to j s =
    with_parts (whole_in j) x.kind (record x.meta { labels = (whole_in j).meta.labels; annotations = (whole_in j).meta.annotations }) s.kind s.meta

pub taken_turned : (d : Definition) (turned : Turned) → Stays turned → (x : ObjectView) (v : ℕ) (y : ObjectView) (j : Json) → IsSent d x
    → turned x (version_text d v) ≡ Some (whole_in j) → IsTaken d x v j y → turned x (version_text d v) ≡ Some y
taken_turned d turned stays x v y j sent e t =
    e ∙ ap Some (same_taken x (version_text d v) j (stays x (whole_in j) (version_text d v) sent.levels sent.rules e) ∙ sym t.is)

pub becomes_itself : (d : Definition) (told : Option (List Turn)) (w : ℕ) (x y : ObjectView) (v : ℕ) → w ≡ v → y ≡ x → OfTurns told told (λ ts. Becomes d ts w x v y)
becomes_itself d told w x y v e same = none_made told (λ ts. Becomes d ts w x v y) (as_it_is e same)
