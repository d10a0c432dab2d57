-- Bytes that are two documents of which nothing is refused aren't refused, and load.
use Rattle.std.proofs.Common.{◌≡◌, ◌∙◌, ℕ, List, Option, Some, None, inl, inr, ap, sym, refl}
use Rattle.kj_value.specs.Json.{Json}
use Rattle.crd_reading.specs.View.{DefinitionView}
use Rattle.crd_reading.specs.Spelled.{definition_read}
use Rattle.crd_reading.specs.First.{first_refusal}
use Rattle.crd_loading.specs.Blame.{Blame, of_definition}
use Rattle.crd_loading.specs.Fits.{rules_blame}
use Rattle.crd_loading.specs.View.{LoadedView, loaded_of}
use Rattle.crd_loading.specs.Load.{Defines, Loads, RefusesDefinition, RefusesRules}
use Rattle.built_in.proofs.Unread.{never_unread}
use Rattle.built_in.proofs.Read.{AreValue}

nothing_refused : (b : Blame) (o : Option Blame) → o ≡ None → o ≡ Some b → ⊥
nothing_refused b o p q = let e : None ≡ Some b = sym p ∙ q in cc

-- ---- the definition

pub definition_stands : (d : Json) → first_refusal d ≡ None → (crd : List ℕ) (b : Blame) → AreValue crd d → RefusesDefinition crd b → ⊥
definition_stands d allowed crd b v h =
    elim h [
      | inl u ↦ never_unread crd d b v.reads u
      | inr n ↦ nothing_refused b (of_definition (first_refusal n.document)) (ap (λ (j : Json). of_definition (first_refusal j)) (v.one n.document n.reads) ∙ ap of_definition allowed) n.refused
    ]

one_definition : (d : Json) (crd : List ℕ) (x : DefinitionView) → AreValue crd d → Defines crd x → x ≡ definition_read d
one_definition d crd x v h = h.spelled ∙ ap definition_read (v.one h.document h.reads)

-- ---- the rules

no_blame : (d r : Json) → rules_blame (definition_read d).versions r ≡ None → (x : DefinitionView) (j : Json) → x ≡ definition_read d → j ≡ r → rules_blame x.versions j ≡ None
no_blame d r allowed x j p q =
    ap (λ (y : DefinitionView). rules_blame y.versions j) p ∙ ap (rules_blame (definition_read d).versions) q ∙ allowed

pub rules_stand : (d r : Json) → rules_blame (definition_read d).versions r ≡ None → (crd rules : List ℕ) (b : Blame) → AreValue crd d → AreValue rules r → RefusesRules crd rules b → ⊥
rules_stand d r allowed crd rules b v w h =
    elim h.refused [
      | inl u ↦ never_unread rules r b w.reads u
      | inr n ↦ nothing_refused b (rules_blame h.definition.versions n.document) (no_blame d r allowed h.definition n.document (one_definition d crd h.definition v h.defines) (w.one n.document n.reads)) n.refused
    ]

-- ---- both

pub both_load : (d r : Json) → first_refusal d ≡ None → rules_blame (definition_read d).versions r ≡ None → (crd rules : List ℕ) → AreValue crd d → AreValue rules r → (l : LoadedView) × Loads crd rules l
both_load d r definition_allowed rules_allowed crd rules v w = (
  loaded_of (definition_read d) r,
  record {
    definition = definition_read d;
    defines = record { document = d; reads = v.reads; allowed = definition_allowed; spelled = refl };
    loads = record { document = r; reads = w.reads; allowed = rules_allowed; loaded = refl };
  },
)
