-- What a replace makes of an admitted value.
use Rattle.std.proofs.Common.{◌≡◌, ◌∙◌, ℕ, Bool, true, false, List, [], ◌∷◌, Option, None, Some, length, ap, inl, inr, refl, sym}
use Rattle.std.specs.Prelude.{◌≢◌, ◌⊎◌, ◌↔◌, ◌&&◌, ◌||◌, ◌+ℤ◌, ℤ, pos, not, is_some, nat_eq, option_map, if◌then◌else◌, IsTrue}
use Rattle.std.specs.List.{list_all, list_any}
use Rattle.std.specs.Str.{bytes_eq}
use Rattle.std.proofs.lemmas.Slice.Eq.{bytes_eq-Decides}
use Rattle.kj_value.specs.Fields.{Pairs}
use Rattle.kj_value.specs.Json.{Json, members_of, object}
use Rattle.kj_value.specs.Kinds.{as_object}
use Rattle.kube_meta.specs.Document.{document}
use Rattle.kube_meta.specs.View.{ObjectView}
use Rattle.api_calls.specs.Legal.{Each, In, Follows, IsMarked}
use Rattle.api_calls.specs.Meaning.{stamped}
use Rattle.api_calls.specs.Values.{IsUpdate, has_finalizer, is_forbidden, is_marked, is_release, updated_value}
use Rattle.api_calls.specs.Versions.{IsBody}
use Rattle.api_calls.proofs.OneDocument.{document_one}

-- objects are one exactly where their documents are
pub one_object : (same : Bool) (x y : ObjectView) (i j : Json) → IsBody x.body → IsBody y.body → i ≡ document x → j ≡ document y → (IsTrue same ↔ (i ≡ j))
    → (IsTrue same ↔ (x ≡ y))
one_object same x y i j bx by is_x is_y documents =
    ((λ h. document_one x y bx by (sym is_x ∙ documents.0 h ∙ is_y)), (λ one. documents.1 (is_x ∙ ap (λ (o : ObjectView). document o) one ∙ sym is_y)))

-- ---- an update may follow its old value

not_first : (a b : Bool) → (a && not b) ≡ false → a ≡ true → b ≡ true
not_first true true h is = refl
not_first true false h is = cc
not_first false b h is = cc

pub first_of_both : (a b : Bool) → (a && b) ≡ true → a ≡ true
first_of_both true b h = refl
first_of_both false b h = cc

in_any : (f : List ℕ) (fs : List (List ℕ)) → list_any (bytes_eq f) fs ≡ true → In f fs
in_any f [] h = cc
in_any f (g ∷ gs) h = by (bytes_eq f g) refl h (in_any f gs)
  where
    by : (b : Bool) → bytes_eq f g ≡ b → (b || list_any (bytes_eq f) gs) ≡ true → (list_any (bytes_eq f) gs ≡ true → In f gs) → In f (g ∷ gs)
    by true is h more = inl ((bytes_eq-Decides f g).0 is)
    by false is h more = inr (more h)

each_in : (fs olds : List (List ℕ)) → list_all (λ f. list_any (bytes_eq f) olds) fs ≡ true → Each (λ f. In f olds) fs
each_in [] olds h = tt
each_in (f ∷ fs) olds h = by (list_any (bytes_eq f) olds) refl h (each_in fs olds)
  where
    by : (b : Bool) → list_any (bytes_eq f) olds ≡ b → (b && list_all (λ f. list_any (bytes_eq f) olds) fs) ≡ true
        → (list_all (λ f. list_any (bytes_eq f) olds) fs ≡ true → Each (λ f. In f olds) fs) → In f olds × Each (λ f. In f olds) fs
    by true is h more = (in_any f olds is, more h)
    by false is h more = cc

-- where no finalizer is added and the object isn't released
pub update-follows : (old new h : ObjectView) → IsUpdate old new h → is_forbidden old h ≡ false → is_release old h ≡ false → Follows old h
update-follows old new h (equal, bodies, is) allowed stays = record {
  created = ap (λ (o : ObjectView). o.meta.created) is;
  deleted = ap (λ (o : ObjectView). o.meta.deleted) is;
  generation = generation equal bodies is;
  held = λ marked none.
      let finalizer = not_first (is_marked old) (has_finalizer h) stays (still_marked marked) in
      let empty : has_finalizer h ≡ false = ap (λ (fs : List (List ℕ)). not (nat_eq (length fs) 0)) none in absurd cc;
  fewer = λ marked.
      each_in h.meta.finalizers old.meta.finalizers
      (not_first (is_marked old) (list_all (λ f. list_any (bytes_eq f) old.meta.finalizers) h.meta.finalizers) allowed (still_marked marked));
}
  where
    still_marked : IsMarked h → is_marked old ≡ true
    still_marked marked = ap (λ (o : ObjectView). is_some o.meta.deleted) (sym is) ∙ marked

    generation : (b : Bool) → (IsTrue b ↔ (new.body ≡ old.body)) → h ≡ updated_value b old new
        → ((h.body ≢ old.body) × (h.meta.generation ≡ old.meta.generation +ℤ pos 1)) ⊎ ((h.body ≡ old.body) × (h.meta.generation ≡ old.meta.generation))
    generation true equals is = inr (ap (λ (o : ObjectView). o.body) is ∙ equals.0 refl, ap (λ (o : ObjectView). o.meta.generation) is)
    generation false equals is =
        inl ((λ e. let b : IsTrue false = equals.1 (ap (λ (o : ObjectView). o.body) (sym is) ∙ e) in absurd cc), ap (λ (o : ObjectView). o.meta.generation) is)

-- ---- an update is made

pub made-update : (one : Bool) (old new old2 new2 h : ObjectView) (generation : ℤ) → (IsTrue one ↔ (new.body ≡ old.body)) → new2 ≡ new → old2 ≡ old
    → h ≡ stamped new2 old2.meta.created old2.meta.deleted generation
    → generation ≡ (if one then old2.meta.generation else old2.meta.generation +ℤ pos 1) → IsUpdate old new h
made-update one old new old2 new2 h generation bodies is_new is_old is counts = (
  one,
  bodies,
  is ∙ ap (λ (o : ObjectView). stamped o old2.meta.created old2.meta.deleted generation) is_new
      ∙ ap (λ (z : ℤ). stamped new old2.meta.created old2.meta.deleted z) counts
      ∙ ap (λ (o : ObjectView). updated_value one o new) is_old,
)

-- an update that is the old value has its body
pub one-body : (one : Bool) (old new old2 new2 h : ObjectView) (generation : ℤ) → (IsTrue one ↔ (new.body ≡ old.body)) → new2 ≡ new → old2 ≡ old
    → h ≡ stamped new2 old2.meta.created old2.meta.deleted generation → h ≡ old2 → IsTrue one
one-body one old new old2 new2 h generation bodies is_new is_old is equal =
    bodies.1 (ap (λ (o : ObjectView). o.body) (sym is_new) ∙ ap (λ (o : ObjectView). o.body) (sym is) ∙ ap (λ (o : ObjectView). o.body) equal ∙ ap (λ (o : ObjectView). o.body) is_old)

-- ---- both of two tests

pub none_of_both : (a b : Bool) → a ≡ false → false ≡ (a && b)
none_of_both false b is = refl
none_of_both true b is = cc

pub second_of_both : (a b c : Bool) → a ≡ true → c ≡ b → c ≡ (a && b)
second_of_both true b c is same = same
second_of_both false b c is same = cc

pub some_mapped : {A C : Type 0} (f : A → C) (o : Option A) → is_some o ≡ is_some (option_map f o)
some_mapped f None = refl
some_mapped f (Some a) = refl

-- ---- an object's fields

pub never_object : (j : Json) (es : Pairs) → j ≡ object (members_of es) → None ≡ as_object j → ⊥
never_object j es is none = let no : None ≡ as_object (object (members_of es)) = none ∙ ap as_object is in cc
