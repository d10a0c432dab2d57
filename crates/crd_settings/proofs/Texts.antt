-- The text of a document in pieces.
use Rattle.std.proofs.Common.{◌≡◌, ℕ, suc, ◌+◌, ◌<◌, List, [], ◌∷◌, ◌++◌, length, get_or, map, drop, refl, ap, sym, subst, ◌∙◌, append_assoc, add-one}
use Rattle.std.specs.Prelude.{Result, IfOk}
use Rattle.std.proofs.lemmas.List.{append-nil, drop_more}
use Rattle.std.proofs.lemmas.Result.{IfOk-weaker}
use Rattle.std.specs.Prelude.{codes}
use Rattle.kj_value.specs.Json.{Json, text, list, object, Items, no_items, item, Members, no_members, member, items_of, members_of}
use Rattle.kj_value.specs.Text.{quoted, text_of, items_text, more_items, members_text, more_members}
use Rattle.kj_value.specs.Characters.{begin_list, end_list, begin_object, end_object, colon, comma}
use Rattle.kj_value.specs.Seen.{json}
use Rattle.kj_value.specs.Pair.{pair_of}
use Rattle.kj_value.specs.declared.error.NoMemory.{NoMemory}
use Rattle.kj_value.specs.declared.value.Field.{Field}
use Rattle.kj_value.specs.declared.value.JVal.{JVal}
use Rattle.crd_reading.specs.Words.{api_version, document_kind}
use Rattle.crd_reading.specs.View.{DefinitionView}
use Rattle.crd_reading.specs.Spelled.{full_name}
use Rattle.crd_settings.specs.Flags.{spec_with, version_with, versions_with}
use Rattle.crd_settings.specs.Shown.{document_with}
use Rattle.crd_settings.specs.Pieces.{GoesOn, before_name, before_spec, before_stored, behind_stored, comma_before, cut_text, items_from, members_from, named_text, names_from, part_text, parts_text}
use Rattle.crd_settings.specs.declared.parts.Mark.{Mark}
use Rattle.crd_settings.specs.declared.cut.Part.{Part}
use Rattle.crd_settings.specs.declared.cut.Cut.{Cut}

-- ---- one piece after another

pub next : {a b c : Cut} {p q : (ℕ → Mark) → List ℕ} → GoesOn a b p → GoesOn b c q → GoesOn a c (λ m. p m ++ q m)
next {a} {b} {c} {p} {q} f g = record {
  text = λ m. g.text m ∙ (ap (λ (t : List ℕ). t ++ q m) (f.text m) ∙ append_assoc (cut_text m a) (p m) (q m));
}

pub reads : {a b : Cut} {p : (ℕ → Mark) → List ℕ} (q : (ℕ → Mark) → List ℕ) → ((m : ℕ → Mark) → p m ≡ q m) → GoesOn a b p → GoesOn a b q
reads {a} q same f = record { text = λ m. f.text m ∙ ap (λ (t : List ℕ). cut_text m a ++ t) (same m) }

-- a last call's piece
pub behind : {a b : Cut} {p k : List ℕ} (q : (ℕ → Mark) → List ℕ) (r : Result Cut NoMemory) → p ≡ k → GoesOn a b (λ m. p) → IfOk r (λ c. GoesOn b c q) → IfOk r (λ c. GoesOn a c (λ m. k ++ q m))
behind {a} q r same f g = subst (λ k. IfOk r (λ c. GoesOn a c (λ m. k ++ q m))) same (IfOk-weaker r _ _ (λ c h. next f h) g)

named-text : (i : ℕ) (k t : List ℕ) → named_text i k [] ++ t ≡ named_text i k t
named-text i k t = append_assoc (comma_before i) (quoted k ++ colon ∷ []) t ∙ ap (λ (x : List ℕ). comma_before i ++ x) (append_assoc (quoted k) (colon ∷ []) t)

pub behind_name : (i : ℕ) (q : List ℕ → (ℕ → Mark) → List ℕ) {a b : Cut} {n k : List ℕ} (r : Result Cut NoMemory) → n ≡ k → GoesOn a b (λ m. named_text i n []) → IfOk r (λ c. GoesOn b c (q n))
    → IfOk r (λ c. GoesOn a c (λ m. named_text i k (q k m)))
behind_name i q {a} {n = n} r same f g =
    subst (λ k. IfOk r (λ c. GoesOn a c (λ m. named_text i k (q k m)))) same (IfOk-weaker r _ _ (λ c h. reads _ (λ m. named-text i n (q n m)) (next f h)) g)

pub name_written : (i : ℕ) (k : List ℕ) {p t : List ℕ} {a b c : Cut} (r : Result Cut NoMemory) → p ≡ comma_before i → t ≡ quoted k → GoesOn a b (λ m. p) → GoesOn b c (λ m. t) → IfOk r (λ d. GoesOn c d (λ m. colon ∷ []))
    → IfOk r (λ d. GoesOn a d (λ m. named_text i k []))
name_written i k {p} {t} r comes is f g h =
    let same = append_assoc p t (colon ∷ []) ∙ ap (λ (x : List ℕ). x ++ (t ++ colon ∷ [])) comes ∙ ap (λ (x : List ℕ). comma_before i ++ (x ++ colon ∷ [])) is in
    IfOk-weaker r _ _ (λ d e. reads _ (λ m. same) (next (next f g) e)) h

pub parts-push : (m : ℕ → Mark) (ps : List Part) (p : Part) → parts_text m (ps ++ p ∷ []) ≡ parts_text m ps ++ part_text m p
parts-push m [] p = append-nil (part_text m p)
parts-push m (q ∷ ps) p = ap (λ (t : List ℕ). part_text m q ++ t) (parts-push m ps p) ∙ sym (append_assoc (part_text m q) (parts_text m ps) (part_text m p))

-- ---- values

more-members : (i : ℕ) (ms : Members) → members_from (suc i) ms ≡ more_members ms
more-members i no_members = refl
more-members i (member k j ms) =
    ap (λ (t : List ℕ). comma ∷ ((quoted k ++ colon ∷ text_of j) ++ t)) (more-members (suc i) ms) ∙ ap (λ (t : List ℕ). comma ∷ t) (append_assoc (quoted k) (colon ∷ text_of j) (more_members ms))

pub members-text : (ms : Members) → members_from 0 ms ≡ members_text ms
members-text no_members = refl
members-text (member k j ms) =
    ap (λ (t : List ℕ). (quoted k ++ colon ∷ text_of j) ++ t) (more-members 0 ms) ∙ append_assoc (quoted k) (colon ∷ text_of j) (more_members ms)

more-items : (i : ℕ) (js : Items) → items_from (suc i) js ≡ more_items js
more-items i no_items = refl
more-items i (item j js) = ap (λ (t : List ℕ). comma ∷ (text_of j ++ t)) (more-items (suc i) js)

pub items-text : (js : Items) → items_from 0 js ≡ items_text js
items-text no_items = refl
items-text (item j js) = ap (λ (t : List ℕ). text_of j ++ t) (more-items 0 js)

pub object-text : (ms : Members) → (codes "{" ++ members_from 0 ms) ++ codes "}" ≡ text_of (object ms)
object-text ms = ap (λ (t : List ℕ). begin_object ∷ (t ++ end_object ∷ [])) (members-text ms)

pub list-text : (js : Items) → (codes "[" ++ items_from 0 js) ++ codes "]" ≡ text_of (list js)
list-text js = ap (λ (t : List ℕ). begin_list ∷ (t ++ end_list ∷ [])) (items-text js)

-- ---- loops over fields and versions

-- the piece of one more thing of a list, of which `rest` is behind it
pub one_more : {a b : Cut} {p : (ℕ → Mark) → List ℕ} (m : ℕ → Mark) {now : List ℕ} (rest : List ℕ) {whole : List ℕ} → GoesOn a b p → now ≡ p m ++ rest → cut_text m a ++ now ≡ whole → cut_text m b ++ rest ≡ whole
one_more {a} {p = p} m rest goes is all =
    ap (λ (t : List ℕ). t ++ rest) (goes.text m) ∙ append_assoc (cut_text m a) (p m) rest ∙ ap (λ (t : List ℕ). cut_text m a ++ t) (sym is) ∙ all

-- nothing is left
pub all_written : {a b : Cut} (rest : (ℕ → Mark) → List ℕ) (whole : (ℕ → Mark) → List ℕ) → ((m : ℕ → Mark) → rest m ≡ []) → ((m : ℕ → Mark) → cut_text m b ++ rest m ≡ cut_text m a ++ whole m) → GoesOn a b whole
all_written {a} {b} rest whole none is = record { text = λ m. sym (append-nil (cut_text m b)) ∙ ap (λ (t : List ℕ). cut_text m b ++ t) (sym (none m)) ∙ is m }

-- `F` makes a member of each member by `G`
pub one_field : (F : Members → Members) (G : List ℕ → Json → Json) → ((k : List ℕ) (j : Json) (ms : Members) → F (member k j ms) ≡ member k (G k j) (F ms))
    → (fs : List Field) (i : ℕ) (x : Field) → i < length fs → x ≡ get_or fs i x
    → members_from i (F (members_of (map pair_of (drop i fs)))) ≡ named_text i x.name.bytes (text_of (G x.name.bytes (json x.value))) ++ members_from (i + 1) (F (members_of (map pair_of (drop (i + 1) fs))))
one_field F G step fs i x within is =
    rw add-one
    (ap (λ (t : List Field). members_from i (F (members_of (map pair_of t)))) (rw add-one at (drop_more fs i x within) ∙ ap (λ (y : Field). y ∷ drop (suc i) fs) (sym is))
    ∙ ap (members_from i) (step x.name.bytes (json x.value) (members_of (map pair_of (drop (suc i) fs)))))

pub one_version : (m : ℕ → Mark) (vs : List JVal) (i : ℕ) (x : JVal) → i < length vs → x ≡ get_or vs i x
    → items_from i (versions_with m i (items_of (map json (drop i vs)))) ≡ (comma_before i ++ text_of (version_with (m i) (json x))) ++ items_from (i + 1) (versions_with m (i + 1) (items_of (map json (drop (i + 1) vs))))
one_version m vs i x within is =
    rw add-one
    (ap (λ (t : List JVal). items_from i (versions_with m i (items_of (map json t)))) (rw add-one at (drop_more vs i x within) ∙ ap (λ (y : JVal). y ∷ drop (suc i) vs) (sym is)))

names-items : (i : ℕ) (ns : List (List ℕ)) → names_from i (map quoted ns) ≡ items_from i (items_of (map text ns))
names-items i [] = refl
names-items i (n ∷ ns) = ap (λ (t : List ℕ). (comma_before i ++ quoted n) ++ t) (names-items (suc i) ns)

-- ---- the document

arranged : (a n e p s c t k : List ℕ)
    → a ++ ((((n ++ []) ++ e) ++ (p ++ (s ++ (c ++ ((((t ++ k) ++ []) ++ e) ++ []))))) ++ e) ≡ (a ++ (n ++ ((e ++ p) ++ (s ++ c)))) ++ (t ++ (k ++ (e ++ e)))
arranged a n e p s c t k = simp (append_assoc, append-nil)

laid_out : (d : DefinitionView) (m : ℕ → Mark) (stored : List (List ℕ))
    → text_of (document_with d m stored)
    ≡ before_name ++ ((((quoted (full_name d) ++ []) ++ codes "}") ++ (codes ",\"spec\":" ++ (text_of (spec_with m d.spec) ++ (before_stored ++ ((((items_text (items_of (map text stored)) ++ codes "]") ++ []) ++ codes "}") ++ []))))) ++ codes "}")
unfolding document_with before_name before_stored api_version document_kind
laid_out d m stored = refl

pub document-text : (d : DefinitionView) (m : ℕ → Mark) (stored : List (List ℕ))
    → text_of (document_with d m stored)
    ≡ (before_name ++ (quoted (full_name d) ++ (before_spec ++ (text_of (spec_with m d.spec) ++ before_stored)))) ++ (names_from 0 (map quoted stored) ++ behind_stored)
unfolding before_spec behind_stored
document-text d m stored =
    laid_out d m stored
    ∙ (arranged before_name (quoted (full_name d)) (codes "}") (codes ",\"spec\":") (text_of (spec_with m d.spec)) before_stored (items_text (items_of (map text stored))) (codes "]")
    ∙ ap (λ (t : List ℕ). (before_name ++ (quoted (full_name d) ++ ((codes "}" ++ codes ",\"spec\":") ++ (text_of (spec_with m d.spec) ++ before_stored)))) ++ (t ++ (codes "]" ++ (codes "}" ++ codes "}"))))
    (sym (names-items 0 stored ∙ items-text (items_of (map text stored)))))

-- ---- parts

-- what was written, and then a flag
pub flag-text : (m : ℕ → Mark) (ps : List Part) (t p : Part) → parts_text m ((ps ++ t ∷ []) ++ p ∷ []) ++ [] ≡ (parts_text m ps ++ part_text m t) ++ part_text m p
flag-text m ps t p =
    append-nil (parts_text m ((ps ++ t ∷ []) ++ p ∷ [])) ∙ (parts-push m (ps ++ t ∷ []) p ∙ ap (λ (x : List ℕ). x ++ part_text m p) (parts-push m ps t))

-- five pieces behind each other, each known by another name
pub gathered : {z u v w x y : Cut} {a n b e : List ℕ} {s : (ℕ → Mark) → List ℕ} (m : ℕ → Mark) (a0 n0 b0 s0 e0 : List ℕ)
    → GoesOn z u (λ m. a) → GoesOn u v (λ m. n) → GoesOn v w (λ m. b) → GoesOn w x s → GoesOn x y (λ m. e)
    → cut_text m z ≡ [] → a ≡ a0 → n ≡ n0 → b ≡ b0 → s m ≡ s0 → e ≡ e0 → cut_text m y ≡ a0 ++ (n0 ++ (b0 ++ (s0 ++ e0)))
gathered {a = a} {n} {b} {e} {s} m a0 n0 b0 s0 e0 g1 g2 g3 g4 g5 empty ea en eb es ee =
    (next (next (next (next g1 g2) g3) g4) g5).text m
    ∙ (ap (λ (t : List ℕ). t ++ ((((a ++ n) ++ b) ++ s m) ++ e)) empty
    ∙ (regrouped a n b (s m) e ∙ (λ i. ea i ++ (en i ++ (eb i ++ (es i ++ ee i))))))
  where
    regrouped : (p q r t u : List ℕ) → [] ++ ((((p ++ q) ++ r) ++ t) ++ u) ≡ p ++ (q ++ (r ++ (t ++ u)))
    regrouped p q r t u = simp append_assoc
