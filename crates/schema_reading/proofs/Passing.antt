-- How tries that pass and tries that are refused add up.
use Rattle.std.proofs.Common.{◌≡◌, ℕ, List, [], ◌∷◌, ◌++◌, cond, Option, Some, None, option_map, refl, ap, sym, subst, ◌∙◌}
use Rattle.struct_schema.specs.Path.{Step}
use Rattle.struct_schema.specs.Fault.{or_else}
use Rattle.schema_reading.specs.Visit.{Tried, entered, keyword, Visit, Refusal, within, counted, denied, refused_at, after, first, under}
use Rattle.schema_reading.specs.Told.{NamesSchemaFault, StopsSchemaReading, Passes}
use Rattle.schema_reading.specs.declared.trouble.Stop.{Stop}
use Rattle.schema_reading.specs.declared.trouble.Stop.TheVariants.{Found, Starved}
use Rattle.schema_reading.specs.declared.trouble.Spot.{Spot}
use Rattle.schema_reading.specs.declared.trouble.SchemaFault.TheVariants.{Refused, NoMemory}

or_else-assoc : {A : Type 0} (a b c : Option A) → or_else (or_else a b) c ≡ or_else a (or_else b c)
or_else-assoc None b c = refl
or_else-assoc (Some x) b c = refl

pub after-append : (n : ℕ) (xs ys : List Visit) → after n (xs ++ ys) ≡ after (after n xs) ys
after-append n [] ys = refl
after-append n (v ∷ xs) ys = after-append (counted n v.tried) xs ys

pub first-append : (n : ℕ) (xs ys : List Visit) → first n (xs ++ ys) ≡ or_else (first n xs) (first (after n xs) ys)
first-append n [] ys = refl
first-append n (v ∷ xs) ys =
    let o : Option Refusal = option_map (refused_at v.path) (denied n v.tried) in
    ap (or_else o) (first-append (counted n v.tried) xs ys) ∙ sym (or_else-assoc o (first (counted n v.tried) xs) (first (after (counted n v.tried) xs) ys))

pub after-within : (s : Step) (n : ℕ) (vs : List Visit) → after n (within s vs) ≡ after n vs
after-within s n [] = refl
after-within s n (v ∷ vs) = after-within s (counted n v.tried) vs

under-or_else : (s : Step) (p : List Step) (k : Option (List ℕ)) (o : Option Refusal) → or_else (option_map (refused_at (s ∷ p)) k) (under s o) ≡ under s (or_else (option_map (refused_at p) k) o)
under-or_else s p None o = refl
under-or_else s p (Some k) o = refl

pub first-within : (s : Step) (n : ℕ) (vs : List Visit) → first n (within s vs) ≡ under s (first n vs)
first-within s n [] = refl
first-within s n (v ∷ vs) =
    ap (or_else (option_map (refused_at (s ∷ v.path)) (denied n v.tried))) (first-within s (counted n v.tried) vs) ∙ under-or_else s v.path (denied n v.tried) (first (counted n v.tried) vs)

-- ---- tries that pass

pub passes-append : (n m l : ℕ) (xs ys : List Visit) → Passes n m xs → Passes m l ys → Passes n l (xs ++ ys)
passes-append n m l xs ys p q =
    (first-append n xs ys ∙ ap (λ (o : Option Refusal). or_else o (first (after n xs) ys)) p.0 ∙ ap (λ (k : ℕ). first k ys) (sym p.1) ∙ q.0, q.1 ∙ ap (λ (k : ℕ). after k ys) p.1 ∙ sym (after-append n xs ys))

pub passes-within : (s : Step) (n m : ℕ) (vs : List Visit) → Passes n m vs → Passes n m (within s vs)
passes-within s n m vs p =
    (first-within s n vs ∙ ap (under s) p.0, p.1 ∙ sym (after-within s n vs))

-- ---- and tries that don't

pub stops-starved : (o : Option Refusal) → StopsSchemaReading o Starved
stops-starved None = tt
stops-starved (Some r) = tt

pub stops-or_else : (o p : Option Refusal) (e : Stop) → StopsSchemaReading o e → StopsSchemaReading (or_else o p) e
stops-or_else o p Starved h = stops-starved (or_else o p)
stops-or_else None p (Found s) h = absurd h
stops-or_else (Some r) p (Found s) h = h

pub stops-first : (n : ℕ) (xs ys : List Visit) (e : Stop) → StopsSchemaReading (first n xs) e → StopsSchemaReading (first n (xs ++ ys)) e
stops-first n xs ys e h =
    subst (λ (o : Option Refusal). StopsSchemaReading o e) (sym (first-append n xs ys)) (stops-or_else (first n xs) (first (after n xs) ys) e h)

pub stops-then : (n m : ℕ) (xs ys : List Visit) (e : Stop) → Passes n m xs → StopsSchemaReading (first m ys) e → StopsSchemaReading (first n (xs ++ ys)) e
stops-then n m xs ys e p h =
    subst (λ (o : Option Refusal). StopsSchemaReading o e) (sym (first-append n xs ys ∙ ap (λ (o : Option Refusal). or_else o (first (after n xs) ys)) p.0 ∙ ap (λ (k : ℕ). first k ys) (sym p.1))) h

pub stops-within : (s : Step) (n : ℕ) (vs : List Visit) (inner e : Stop) → ((o : Option Refusal) → StopsSchemaReading o inner → StopsSchemaReading (under s o) e) → StopsSchemaReading (first n vs) inner → StopsSchemaReading (first n (within s vs)) e
stops-within s n vs inner e step h =
    subst (λ (o : Option Refusal). StopsSchemaReading o e) (sym (first-within s n vs)) (step (first n vs) h)

-- ---- tries of keywords alone, before which no node counts

abbrev pub IsKeyword : Tried → Type 0
IsKeyword (entered d) = ⊥
IsKeyword (keyword k b) = Unit {0}

abbrev pub AreKeywords : List Visit → Type 0
AreKeywords [] = Unit {0}
AreKeywords (v ∷ vs) = IsKeyword v.tried × AreKeywords vs

pub keywords-append : (xs ys : List Visit) → AreKeywords xs → AreKeywords ys → AreKeywords (xs ++ ys)
keywords-append [] ys p q = q
keywords-append (v ∷ xs) ys p q = (p.0, keywords-append xs ys p.1 q)

pub after-keywords : (n : ℕ) (vs : List Visit) → AreKeywords vs → after n vs ≡ n
after-keywords n [] p = refl
after-keywords n (v ∷ vs) p = by_case v.tried p.0 (after-keywords n vs p.1)
  where
    by_case : (t : Tried) → IsKeyword t → after n vs ≡ n → after (counted n t) vs ≡ n
    by_case (entered d) q h = absurd q
    by_case (keyword k b) q h = h

pub first-keywords : (n m : ℕ) (vs : List Visit) → AreKeywords vs → first n vs ≡ first m vs
first-keywords n m [] p = refl
first-keywords n m (v ∷ vs) p = by_case v.tried p.0 (first-keywords n m vs p.1)
  where
    by_case : (t : Tried) → IsKeyword t → first n vs ≡ first m vs → or_else (option_map (refused_at v.path) (denied n t)) (first (counted n t) vs) ≡ or_else (option_map (refused_at v.path) (denied m t)) (first (counted m t) vs)
    by_case (entered d) q h = absurd q
    by_case (keyword k b) q h = ap (or_else (option_map (refused_at v.path) (cond b None (Some k)))) h

pub passes-keywords : (n : ℕ) (vs : List Visit) → AreKeywords vs → first 0 vs ≡ None → Passes n n vs
passes-keywords n vs p e = (first-keywords n 0 vs p ∙ e, sym (after-keywords n vs p))

pub stops-keywords : (n : ℕ) (vs : List Visit) (e : Stop) → AreKeywords vs → StopsSchemaReading (first 0 vs) e → StopsSchemaReading (first n vs) e
stops-keywords n vs e p h = subst (λ (o : Option Refusal). StopsSchemaReading o e) (first-keywords 0 n vs p) h

-- ---- as it is told

pub starved_names : (o : Option Refusal) → NamesSchemaFault o NoMemory
starved_names None = tt
starved_names (Some r) = tt

pub found_names : (o : Option Refusal) (s : Spot) → StopsSchemaReading o (Found s) → NamesSchemaFault o (Refused s.path s.keyword)
found_names None s h = absurd h
found_names (Some r) s h = (h.0, h.2)
