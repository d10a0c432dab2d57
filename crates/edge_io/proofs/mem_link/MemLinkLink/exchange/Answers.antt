use Rattle.std.proofs.Common.{◌≡◌, ℕ, ◌+◌, ◌<◌, List, ◌∷◌, length, get_or, map, drop, refl, sym, ap, subst, ◌∙◌, inl, inr, arith}
use Rattle.std.proofs.lemmas.Bool.{false≢true}
use Rattle.std.proofs.lemmas.List.{drop_all, at_drop_more}
use Rattle.edge_io.specs.MemoryLink.{LinkState, Breaks}
use Rattle.edge_io.proofs.mem_link.MemLinkLink.exchange.Goals as goal
use Rattle.edge_io.proofs.mem_link.MemLinkLink.exchange.Goals.{then-listed-via-then-listed, then-listed-via-else-listed+then-self-len}

next_left : {X Y : Type 0} (f : X → Y) (xs : List X) (i : ℕ) (x : X) (y : Y) → i < length xs → x ≡ get_or xs i x → y ≡ f x → map f (drop i xs) ≡ y ∷ map f (drop (i + 1) xs)
next_left f xs i x y p q r = at_drop_more (map f) xs i x p ∙ ap (λ z. z ∷ map f (drop (i + 1) xs)) (ap f (sym q) ∙ sym r)

pub index-requires : goal.index-requires
index-requires c = omega arith

pub returns-in-Ok-clause-fails : goal.returns-in-Ok-clause-fails
returns-in-Ok-clause-fails c = subst Breaks c.self.view_is (elim c.then-listed.branch [
  | then-listed-via-then-listed w ↦ inl (w.if-listed.ensures.listed.0 refl)
  | then-listed-via-else-listed+then-self-len w ↦ inr (ap (map (λ v. v.items)) (drop_all _ c.self.inside.answers.items (omega arith)))
])

pub returns-in-Ok-answered-clause-given : goal.returns-in-Ok-answered-clause-given
returns-in-Ok-answered-clause-given c =
    let l = c.self.inside in
    sym (ap (λ (s : LinkState). s.waiting) c.self.view_is)
    ∙ next_left (λ v. v.items) l.answers.items l.given c.index.result.now _ (omega arith) c.index.ensures (c.in-Ok-answered.ensures.given ∙ c.deref.ensures.value)

pub returns-in-Ok-answered-clause-quiet : goal.returns-in-Ok-answered-clause-quiet
returns-in-Ok-answered-clause-quiet c =
    let l = c.self.inside in
    subst (λ s. Breaks s → ⊥) c.self.view_is (λ b. elim b [
      | inl listed ↦ false≢true (c.if-listed.ensures.listed.1 listed)
      | inr none ↦ let no = sym (next_left (λ v. v.items) l.answers.items l.given c.index.result.now _ (omega arith) c.index.ensures refl) ∙ none in cc
    ])
