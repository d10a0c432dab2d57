-- The metadata among the fields of a document's text.
use Rattle.std.proofs.Common.{◌≡◌, ◌≢◌, ◌==◌, ◌∙◌, ◌⊎◌, ℕ, suc, ◌<◌, true, false, List, [], ◌∷◌, ◌++◌, codes, refl, ap, sym, subst, arith, append_assoc, flat_map, take, drop, get_or, length, length-append, nat_lt, inl, inr}
use Rattle.std.proofs.lemmas.Bool.Decides.{nat_tests}
use Rattle.kj_value.specs.Characters.{quote, comma, colon}
use Rattle.kj_value.specs.Json.{Json, object, members_of}
use Rattle.kj_value.specs.Fields.{Pairs}
use Rattle.kj_value.specs.Text.{escaped_byte, quoted, text_of, members_text, more_members}
use Rattle.document_text.specs.inner.Ending.{ending}
use Rattle.document_text.specs.Numbered.{IsParted, AreOthers, metadata_name, inside_metadata}
use Rattle.document_text.proofs.Passing.{pick, pass_field}

-- ---- names

abbrev AreLetters : List ℕ → Type 0
AreLetters [] = Unit {0}
AreLetters (x ∷ xs) = (x ≢ 34) × (x ≢ 92) × AreLetters xs

differs : (y n : ℕ) → (y == n) ≡ false → y ≢ n
differs y n tested = λ is. absurd (grind (arith, nat_tests, tested, is))

-- what a byte is spelled by begins with a backslash, or is the byte, which is no quote
abbrev Begins : ℕ → List ℕ → Type 0
Begins y t = ((h : List ℕ) × (t ≡ 92 ∷ h)) ⊎ ((t ≡ y ∷ []) × (y ≢ 34))

first : (y : ℕ) → Begins y (escaped_byte y)
first y =
    pick (Begins y) (y == 34) _ _ (λ _. inl (_, refl)) (λ q.
    pick (Begins y) (y == 92) _ _ (λ _. inl (_, refl)) (λ _.
    pick (Begins y) (y == 8) _ _ (λ _. inl (_, refl)) (λ _.
    pick (Begins y) (y == 9) _ _ (λ _. inl (_, refl)) (λ _.
    pick (Begins y) (y == 10) _ _ (λ _. inl (_, refl)) (λ _.
    pick (Begins y) (y == 12) _ _ (λ _. inl (_, refl)) (λ _.
    pick (Begins y) (y == 13) _ _ (λ _. inl (_, refl)) (λ _.
    pick (Begins y) (nat_lt y 32) _ _ (λ _. inl (_, refl)) (λ _. inr (refl, differs y 34 q)))))))))

head_is : {x y : ℕ} {xs ys : List ℕ} → x ∷ xs ≡ y ∷ ys → x ≡ y
head_is e = ap (λ (l : List ℕ). get_or l 0 0) e

tail_is : {x y : ℕ} {xs ys : List ℕ} → x ∷ xs ≡ y ∷ ys → xs ≡ ys
tail_is e = ap (λ (l : List ℕ). drop 1 l) e

-- as many as these letters are, and so many more
abbrev beside : List ℕ → ℕ → ℕ
beside [] j = j
beside (x ∷ n) j = suc (beside n j)

backslash_differs : ◌≢◌ {A = ℕ} 92 34
backslash_differs = differs 92 34 refl

module _ (rest w : List ℕ) where
  -- what is spelled by a quote first is nothing
  never_quote : (y j : ℕ) (s t : List ℕ) → Begins y t → take (suc j) ((t ++ rest) ++ 34 ∷ w) ≡ 34 ∷ s → ⊥
  never_quote y j s t (inl (h, is)) e = backslash_differs (head_is (subst (λ (l : List ℕ). take (suc j) ((l ++ rest) ++ 34 ∷ w) ≡ 34 ∷ s) is e))
  never_quote y j s t (inr (is, other)) e = other (head_is (subst (λ (l : List ℕ). take (suc j) ((l ++ rest) ++ 34 ∷ w) ≡ 34 ∷ s) is e))

  -- what is spelled by another byte than a backslash first is that byte
  letter : (y b m : ℕ) (s t : List ℕ) → b ≢ 92 → Begins y t → take (suc m) ((t ++ rest) ++ 34 ∷ w) ≡ b ∷ s → (y ≡ b) × (take m (rest ++ 34 ∷ w) ≡ s)
  letter y b m s t plain (inl (h, is)) e = absurd (plain (sym (head_is (subst (λ (l : List ℕ). take (suc m) ((l ++ rest) ++ 34 ∷ w) ≡ b ∷ s) is e))))
  letter y b m s t plain (inr (is, other)) e =
      let begun : y ∷ take m (rest ++ 34 ∷ w) ≡ b ∷ s = subst (λ (l : List ℕ). take (suc m) ((l ++ rest) ++ 34 ∷ w) ≡ b ∷ s) is e in
      (head_is begun, tail_is begun)

joined : (y b : ℕ) (k n : List ℕ) → y ≡ b → k ≡ n → y ∷ k ≡ b ∷ n
joined y b k n p q = λ i. p i ∷ q i

module _ (f : ℕ → List ℕ) (each : (y : ℕ) → Begins y (f y)) where
  -- a text is that of these letters where it is spelled by them up to its quote
  same_name : (n k : List ℕ) (j : ℕ) (w s : List ℕ) → AreLetters n → take (suc (beside n j)) (flat_map f k ++ 34 ∷ w) ≡ n ++ 34 ∷ s → k ≡ n
  same_name [] [] j w s h e = refl
  same_name [] (y ∷ k) j w s h e = absurd (never_quote (flat_map f k) w y j s (f y) (each y) e)
  same_name (b ∷ n) [] j w s h e = absurd (h.0 (sym (head_is e)))
  same_name (b ∷ n) (y ∷ k) j w s h e =
      let p = letter (flat_map f k) w y b (suc (beside n j)) (n ++ 34 ∷ s) (f y) h.1 (each y) e in
      joined y b k n p.0 (same_name n k j w s h.2 p.1)

letters : AreLetters metadata_name
letters = ((
  differs 109 34 refl,
  differs 109 92 refl,
  (
    differs 101 34 refl,
    differs 101 92 refl,
    (
      differs 116 34 refl,
      differs 116 92 refl,
      (
        differs 97 34 refl,
        differs 97 92 refl,
        (
          differs 100 34 refl,
          differs 100 92 refl,
          (differs 97 34 refl, differs 97 92 refl, (differs 116 34 refl, differs 116 92 refl, (differs 97 34 refl, differs 97 92 refl, tt))),
        ),
      ),
    ),
  ),
))

-- ---- fields

-- the text of the fields of a document, and its end
abbrev pub fields_text : Pairs → Pairs → Pairs → List ℕ
fields_text es os fs = members_text (members_of (es ++ (metadata_name, object (members_of os)) ∷ fs)) ++ 125 ∷ []

-- the name of the metadata, with what stands before their first field
abbrev pub opening : List ℕ
opening = codes "\"metadata\":{"

pub begins_metadata : (os fs : Pairs) → take 12 (fields_text [] os fs) ≡ opening
begins_metadata os fs = refl

pub behind_opening : (os fs : Pairs) → drop 12 (fields_text [] os fs) ≡ inside_metadata os fs
behind_opening os fs =
    append_assoc (members_text (members_of os) ++ 125 ∷ []) (more_members (members_of fs)) (125 ∷ [])
    ∙ append_assoc (members_text (members_of os)) (125 ∷ []) (more_members (members_of fs) ++ 125 ∷ [])

pub begins_other : (e : List ℕ × Json) (es os fs : Pairs) → e.0 ≢ metadata_name → take 12 (fields_text (e ∷ es) os fs) ≢ opening
begins_other e es os fs other is =
    let X : List ℕ = colon ∷ (text_of e.1 ++ more_members (members_of (es ++ (metadata_name, object (members_of os)) ∷ fs))) in
    let A : List ℕ = flat_map escaped_byte e.0 in
    let form : ((A ++ quote ∷ []) ++ X) ++ 125 ∷ [] ≡ A ++ quote ∷ (X ++ 125 ∷ []) =
    ap (λ (w : List ℕ). w ++ 125 ∷ []) (append_assoc A (quote ∷ []) X) ∙ append_assoc A (quote ∷ X) (125 ∷ []) in
    let told : take 11 (((A ++ quote ∷ []) ++ X) ++ 125 ∷ []) ≡ metadata_name ++ 34 ∷ codes ":{" = tail_is is in
    other (same_name escaped_byte first metadata_name e.0 2 (X ++ 125 ∷ []) (codes ":{") letters (subst (λ (w : List ℕ). take 11 w ≡ metadata_name ++ 34 ∷ codes ":{") form told))

more_is : (es : Pairs) (e : List ℕ × Json) (fs : Pairs) → more_members (members_of (es ++ e ∷ fs)) ≡ comma ∷ members_text (members_of (es ++ e ∷ fs))
more_is [] e fs = refl
more_is (d ∷ es) e fs = refl

-- behind a field of another name comes a comma, and then the rest
pub next_field : (e : List ℕ × Json) (es os fs : Pairs) → AreOthers (e ∷ es) → ending true 0 (fields_text (e ∷ es) os fs) ≡ comma ∷ fields_text es os fs
next_field e es os fs h =
    let F : Pairs = es ++ (metadata_name, object (members_of os)) ∷ fs in
    pass_field e.0 e.1 (more_members (members_of F)) true 0 (125 ∷ []) h.1
    ∙ ap (λ (w : List ℕ). ending true 0 (w ++ 125 ∷ [])) (more_is es (metadata_name, object (members_of os)) fs)

pub shorter : (e : List ℕ × Json) (es os fs : Pairs) → length (fields_text es os fs) < length (fields_text (e ∷ es) os fs)
shorter e es os fs =
    let F : Pairs = es ++ (metadata_name, object (members_of os)) ∷ fs in
    let m : List ℕ = more_members (members_of F) in
    let t : List ℕ = members_text (members_of F) in
    let a : length m ≡ suc (length t) = ap length (more_is es (metadata_name, object (members_of os)) fs) in
    let b = length-append t (125 ∷ []) in
    let c = length-append (quoted e.0 ++ colon ∷ (text_of e.1 ++ m)) (125 ∷ []) in
    let d = length-append (quoted e.0) (colon ∷ (text_of e.1 ++ m)) in
    let f = length-append (text_of e.1) m in
    omega (arith, a, b, c, d, f)

-- ---- parted fields

-- what stands behind the opening of the metadata
pub found : (ds os fs : Pairs) (left inside : List ℕ) → IsParted ds os fs left → take 12 left ≡ opening → inside ≡ drop 12 left → inside ≡ inside_metadata os fs
found [] os fs left inside h is d = d ∙ (ap (drop 12) h.spelled ∙ behind_opening os fs)
found (e ∷ es) os fs left inside h is d = absurd (begins_other e es os fs h.others.0 (subst (λ (w : List ℕ). take 12 w ≡ opening) h.spelled is))

module _ (os fs : Pairs) (left : List ℕ) (other : take 12 left ≢ opening) where
  -- behind another field the rest is parted as the whole
  pub goes_on : (ds : Pairs) (x : ℕ) (more : List ℕ) → IsParted ds os fs left → ending true 0 left ≡ x ∷ more → (cs : Pairs) × IsParted cs os fs more
  goes_on [] x more h is = absurd (other (ap (take 12) h.spelled ∙ begins_metadata os fs))
  goes_on (e ∷ es) x more h is =
      (es, record { others = h.others.2; sound = h.sound; spelled = tail_is (sym is ∙ (ap (ending true 0) h.spelled ∙ next_field e es os fs h.others)) })

  pub shrinks : (ds : Pairs) (x : ℕ) (more : List ℕ) → IsParted ds os fs left → ending true 0 left ≡ x ∷ more → length more < length left
  shrinks [] x more h is = absurd (other (ap (take 12) h.spelled ∙ begins_metadata os fs))
  shrinks (e ∷ es) x more h is =
      let a : length more ≡ length (fields_text es os fs) = ap length (tail_is (sym is ∙ (ap (ending true 0) h.spelled ∙ next_field e es os fs h.others))) in
      let b : length left ≡ length (fields_text (e ∷ es) os fs) = ap length h.spelled in
      let c = shorter e es os fs in
      omega (arith, a, b, c)

  pub never_ends : (ds : Pairs) (rest : List ℕ) → IsParted ds os fs left → rest ≡ ending true 0 left → length rest ≡ 0 → ⊥
  never_ends [] rest h is none = other (ap (take 12) h.spelled ∙ begins_metadata os fs)
  never_ends (e ∷ es) rest h is none =
      let a : length rest ≡ suc (length (fields_text es os fs)) = ap length (is ∙ (ap (ending true 0) h.spelled ∙ next_field e es os fs h.others)) in
      omega (arith, a, none)
