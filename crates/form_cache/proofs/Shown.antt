-- How the words for forms stand to the words for the pairs that hold them.
use Rattle.std.proofs.Common.{◌≡◌, ℕ, ◌-◌, Bool, true, false, cond, List, [], ◌∷◌, take, Option, Some, None, IsSome, option_map, refl, ap}
use Rattle.std.proofs.lemmas.List.{take-map}
use Rattle.std.specs.Option.{option_map_or}
use Rattle.std.specs.Map.{lookup, lookup_entry, remove_entry}
use Rattle.lru.specs.LruCache.{lru_cache, promoted, put_entries}
use Rattle.lru.proofs.CallerLemmas.{Contains-lookup_entry}
use Rattle.kj_value.specs.Txt.{Bytes}
use Rattle.kube_meta.specs.Key.{KeyView}
use Rattle.form_cache.specs.Forms.{forms_of, same_form, shows, found, without, in_front, used, beside, kept}
use Rattle.form_cache.specs.Same.{same_parts}
use Rattle.form_cache.specs.View.{form_of, shown}
use Rattle.form_cache.specs.declared.name.FormName.{FormName}

abbrev same : FormName → FormName → Bool
same a b = same_form a.key a.number a.version b.key b.number b.version

module _ (k : KeyView) (n v : ℕ) where
  abbrev test : FormName → Bool
  test a = same_form k n v a.key a.number a.version

  pub found-shown : (es : List (FormName × Bytes)) → found (shows k n v) (shown es) ≡ option_map form_of (lookup_entry test es)
  found-shown [] = refl
  found-shown (e ∷ es) = elim (test e.0) as (λ b. cond b (Some (form_of e)) (found (shows k n v) (shown es)) ≡ option_map form_of (cond b (Some e) (lookup_entry test es))) [
    | true ↦ refl
    | false ↦ found-shown es
  ]

  pub without-shown : (es : List (FormName × Bytes)) → without (shows k n v) (shown es) ≡ shown (remove_entry test es)
  without-shown [] = refl
  without-shown (e ∷ es) = elim (test e.0) as (λ b. cond b (shown es) (form_of e ∷ without (shows k n v) (shown es)) ≡ shown (cond b es (e ∷ remove_entry test es))) [
    | true ↦ refl
    | false ↦ ap (λ fs. form_of e ∷ fs) (without-shown es)
  ]

  pub text-shown : (es : List (FormName × Bytes)) → option_map (λ f. f.text) (found (shows k n v) (shown es)) ≡ option_map (λ b. b.bytes) (lookup test es)
  text-shown [] = refl
  text-shown (e ∷ es) = elim (test e.0) as (λ b. option_map (λ f. f.text) (cond b (Some (form_of e)) (found (shows k n v) (shown es))) ≡ option_map (λ b. b.bytes) (cond b (Some e.1) (lookup test es))) [
    | true ↦ refl
    | false ↦ text-shown es
  ]

  -- the cache holds the form exactly where the pairs hold the name
  pub there-shown : (es : List (FormName × Bytes)) → IsSome (found (shows k n v) (shown es)) → IsSome (lookup test es)
  there-shown [] h = h
  there-shown (e ∷ es) h = (elim (test e.0) as (λ b. IsSome (cond b (Some (form_of e)) (found (shows k n v) (shown es))) → IsSome (cond b (Some e.1) (lookup test es))) [
    | true ↦ λ h. h
    | false ↦ there-shown es
  ]) h

  used-shown : (es : List (FormName × Bytes)) (o : Option (FormName × Bytes)) → in_front (option_map form_of o) (shown (remove_entry test es)) (shown es) ≡ shown (option_map_or (λ e. e ∷ remove_entry test es) o es)
  used-shown es None = refl
  used-shown es (Some e) = refl

  pub used-promoted : (es : List (FormName × Bytes)) → used k n v (shown es) ≡ shown (promoted test es)
  used-promoted es = rw (found-shown es, without-shown es) (used-shown es (lookup_entry test es))

module _ (a : FormName) (b : Bytes) (es : List (FormName × Bytes)) (cap : ℕ) where
  abbrev test_of : FormName → Bool
  test_of = same a

  kept-shown : (o : Option (FormName × Bytes)) → lookup_entry test_of es ≡ o
      → form_of (a, b) ∷ beside (option_map form_of o) (shown (remove_entry test_of es)) (shown (take (cap - 1) es))
      ≡ shown (option_map_or (λ e. (e.0, b) ∷ remove_entry test_of es) o ((a, b) ∷ take (cap - 1) es))
  kept-shown None h = refl
  kept-shown (Some e) h =
      let one = same_parts a.key a.number a.version e.0.key e.0.number e.0.version (Contains-lookup_entry test_of es e h).1 in
      λ i. record { key = one.0 i; number = one.1 i; version = one.2 i; text = b.bytes } ∷ shown (remove_entry test_of es)

  pub kept-put : kept (form_of (a, b)) (forms_of (shown es) cap) ≡ shown (put_entries same (lru_cache es cap) a b)
  kept-put = rw (found-shown a.key a.number a.version es, without-shown a.key a.number a.version es, take-map form_of (cap - 1) es) (kept-shown (lookup_entry test_of es) refl)
